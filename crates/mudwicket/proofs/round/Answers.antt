-- `mudwicket::round` meets its contract: what was read is fed, whichever bytes it is, and nothing where it cannot be read.
use Rattle.std.specs.Prelude.{[]}
use Rattle.line_feed.specs.ServedLaws.{feeds_none}
use Rattle.mudwicket.proofs.round.Goals as goal

pub returns-then-input-n-clause-feeds : goal.returns-then-input-n-clause-feeds
returns-then-input-n-clause-feeds o c = λ part h. record { bytes = []; feeds = feeds_none h }

pub returns-clause-feeds : goal.returns-clause-feeds
returns-clause-feeds o c = λ part h. record { bytes = _; feeds = (c.feed-more.ensures.feeds part h).feeds }

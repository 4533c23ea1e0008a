-- `bench_desk::bench_desk_set_gap`: the reply to what `desk_gap::set_gap` answers.
-- Assumes nothing.
use borrow.Author.Rules.{rules}
use mir.Facts.{to_z-of_z}
use Rattle.bench_desk.specs.Handing.{gap_handed}
use Rattle.bench_desk.proofs.bench_desk_set_gap.Goals as goal

pub returns : goal.returns
returns c = gap_handed (search rules) c.reply_to.ensures (to_z-of_z c.ranges.gap) c.set_gap.ensures.sets_gap

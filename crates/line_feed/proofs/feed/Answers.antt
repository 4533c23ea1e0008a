-- `line_feed::feed` meets its contract. The invariant: what of the piece was taken is fed.
use Rattle.std.specs.Prelude.{refl}
use Rattle.std.proofs.Common.{◌∙◌, arith}
use Rattle.line.specs.PrintedLaws.{same_first, same_then}
use Rattle.line_feed.specs.ServedLaws.{feeds_none, feeds-next, feeds_room}
use Rattle.line_feed.proofs.feed.Goals as goal

pub loop-byte-init : goal.loop-byte-init
loop-byte-init o c = (refl, λ part h. feeds_none h, same_first)

pub returns-then-out-at-clause-feeds : goal.returns-then-out-at-clause-feeds
returns-then-out-at-clause-feeds o c =
    let l = c.loop-byte in
    λ part h. record { taken = l.byte-index; feeds = l.invariant.1 part h; whole = λ k. absurd (omega (arith, k, c.if-out-at.true, l.invariant.2.long)) }

pub loop-byte-preserved : goal.loop-byte-preserved
loop-byte-preserved o c =
    let l = c.loop-byte in
    let t = c.loop-byte-test.true in
    let f = c.feed_byte-kept in (
      f.auto.numbers ∙ l.invariant.0,
      λ part h.
          let was = l.invariant.1 part h in
          feeds-next c.args.piece.now l.byte-index t was (feeds_room l.invariant.0 (f.ensures.feeds _ was.holds)),
      same_then l.invariant.2 f.ensures.same,
    )

pub returns-clause-feeds : goal.returns-clause-feeds
returns-clause-feeds o c =
    let l = c.loop-byte in
    λ part h. record { taken = l.byte-index; feeds = l.invariant.1 part h; whole = λ k. omega (arith, c.loop-byte-test.false) }

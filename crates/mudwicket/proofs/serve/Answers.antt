-- `mudwicket::serve` meets its contract. The invariant: what was read so far is fed. The measure is the rounds that are left.
use Rattle.std.specs.Prelude.{refl}
use Rattle.std.proofs.Common.{◌∙◌}
use Rattle.line.specs.PrintedLaws.{same_first, same_then}
use Rattle.line_feed.specs.ServedLaws.{feeds_room, some-none, some_more, all_lines, ended_lines}
use Rattle.mudwicket.proofs.serve.Goals as goal

pub loop-rounds-init : goal.loop-rounds-init
loop-rounds-init o c = (some-none c.requires, refl, refl, refl, refl, refl, same_first)

pub loop-rounds-preserved : goal.loop-rounds-preserved
loop-rounds-preserved o c =
    let l = c.loop-rounds in
    let f = c.round-r in
    let h = l.invariant.0 in
    let x = f.ensures.feeds _ h.feeds.holds in (
      some_more h (record { bytes = x.bytes; feeds = feeds_room l.invariant.4 x.feeds }),
      f.auto.input ∙ l.invariant.1,
      f.auto.held ∙ l.invariant.2,
      f.auto.texts ∙ l.invariant.3,
      f.auto.numbers ∙ l.invariant.4,
      f.auto.marks ∙ l.invariant.5,
      same_then l.invariant.6 f.ensures.same,
    )

pub returns-then-r-2-clause-serves : goal.returns-then-r-2-clause-serves
returns-then-r-2-clause-serves o c = ended_lines c.loop-rounds.invariant.0

pub returns-clause-serves : goal.returns-clause-serves
returns-clause-serves o c =
    let l = c.loop-rounds in
    let h = l.invariant.0 in
    let s = c.answer_held.ensures.serves _ h.feeds.holds in
    all_lines h (record { room = s.room; size = s.size ∙ l.invariant.4; answered = s.answered })

-- `verdict_frame::frame_of`: with no gap by the scans, else by the gap's cube.
use mathlib.Core.Path.{sym, ap, subst}
use Rattle.space.specs.Ranges.{Upto}
use Rattle.verdict_walk.specs.PointLaws.{some_corner}
use Rattle.verdict_frame.specs.Frames.{Framed}
use Rattle.verdict_frame.specs.FrameLaws.{difference_upto, framed_gap}
use Rattle.verdict_frame.proofs.frame.frame_of.Goals as goal

pub returns-then-gap-eq0 : goal.returns-then-gap-eq0
returns-then-gap-eq0 c =
    let s = c.args in
    subst (λ k. Framed k s.first.now s.second.now c.plain_frame.result) (sym c.if-gap-eq0.true) c.plain_frame.ensures

pub difference-requires-clause-placed : goal.difference-requires-clause-placed
difference-requires-clause-placed c = c.requires.placed

pub difference-requires-clause-i_bound : goal.difference-requires-clause-i_bound
difference-requires-clause-i_bound c = let p = c.requires.placed in (some_corner p.0, some_corner p.1)

pub widened-requires-clause-gap_le_gap_most : goal.widened-requires-clause-gap_le_gap_most
widened-requires-clause-gap_le_gap_most c =
    let p = c.requires in
    p.gap_le_gap_most

pub widened-requires-clause-upto : goal.widened-requires-clause-upto
widened-requires-clause-upto c =
    let p = c.requires in
    subst (Upto 262144) (sym (ap (λ q. q.at) c.difference.ensures)) (difference_upto p.placed.0 p.placed.1 (some_corner p.placed.0) (some_corner p.placed.1))

pub returns : goal.returns
returns c =
    let p = c.requires in
    framed_gap p.placed.0 p.placed.1 c.if-gap-eq0.false p.gap_le_gap_most c.difference.ensures c.widened.ensures

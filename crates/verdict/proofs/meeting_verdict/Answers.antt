-- `verdict::meeting_verdict`: four weights are penetrating at once; else the weak walk decides.
use mathlib.Core.Path.{ap, ◌∙◌}
use Rattle.space.specs.Ranges.{upto_le}
use Rattle.verdict_portal.specs.Exits.{sum3}
use Rattle.verdict.specs.Judged.{grounded, frame_corners, begun_weak, near_at, weights, penetrating_at_once, touching_by, penetrating_by}
use Rattle.verdict.specs.Judged.{carries_touching, carries_penetrating}
use Rattle.verdict.proofs.meeting_verdict.Goals as goal

pub gathered_of-pairs-requires : goal.gathered_of-pairs-requires
gathered_of-pairs-requires c = near_at c.requires.placed.0 c.requires.placed.1 c.requires.meeting_at

pub returns-then-pairs-eq4 : goal.returns-then-pairs-eq4
returns-then-pairs-eq4 c =
    let p = c.requires in
    let h = c.gathered_of-pairs.ensures in
    carries_penetrating (penetrating_at_once p.meeting_at.framed p.meeting_at.walked p.meeting_at.met h c.if-pairs-eq4.true)
    (weights p.placed.0 p.placed.1 p.meeting_at.framed p.meeting_at.walked p.meeting_at.met h)

pub shift_of-requires : goal.shift_of-requires
shift_of-requires c = let p = c.requires in frame_corners p.placed.0 p.placed.1 p.meeting_at.framed c.frame_places-v.ensures

pub walk-w-requires-clause-placed : goal.walk-w-requires-clause-placed
walk-w-requires-clause-placed c =
    let p = c.requires in
    let v = c.frame_places-v.ensures in grounded p.placed.0 p.placed.1 p.meeting_at.framed

pub walk-w-requires-clause-begun : goal.walk-w-requires-clause-begun
walk-w-requires-clause-begun c =
    let p = c.requires in
    let v = c.frame_places-v.ensures in begun_weak p.placed.0 p.placed.1 p.meeting_at.framed (c.shift_of.ensures ∙ ap (λ w. sum3 w.a w.b w.c) v) v p.meeting_at.walked

pub returns-then-inside : goal.returns-then-inside
returns-then-inside c =
    let p = c.requires in
    let v = c.frame_places-v.ensures in
    carries_penetrating (penetrating_by p.meeting_at.framed (c.shift_of.ensures ∙ ap (λ w. sum3 w.a w.b w.c) v) v c.walk-w.ensures c.if-inside.true)
    (weights p.placed.0 p.placed.1 p.meeting_at.framed p.meeting_at.walked p.meeting_at.met c.gathered_of-pairs.ensures)

pub returns : goal.returns
returns c =
    let p = c.requires in
    let v = c.frame_places-v.ensures in
    carries_touching (touching_by p.meeting_at.framed (c.shift_of.ensures ∙ ap (λ w. sum3 w.a w.b w.c) v) v c.walk-w.ensures c.if-inside.false)
    (upto_le tt c.walk-w.ensures.reach) (weights p.placed.0 p.placed.1 p.meeting_at.framed p.meeting_at.walked p.meeting_at.met c.gathered_of-pairs.ensures)

-- `verdict::verdict`: the strict walk from the frame's portal; where it meets, what follows decides.
use mathlib.Core.Path.{refl}
use Rattle.space.specs.Ranges.{upto_le}
use Rattle.verdict.specs.Judged.{grounded, frame_corners, begun_strict, strict, separate_by, carries_separate}
use Rattle.verdict.proofs.verdict.Goals as goal

pub start_of-requires : goal.start_of-requires
start_of-requires c = frame_corners c.requires.placed.0 c.requires.placed.1 c.frame_of-f.ensures refl

pub walk-e-requires-clause-placed : goal.walk-e-requires-clause-placed
walk-e-requires-clause-placed c =
    let p = c.requires.placed in
    let f = c.frame_of-f.ensures in
    grounded p.0 p.1 f

pub walk-e-requires-clause-begun : goal.walk-e-requires-clause-begun
walk-e-requires-clause-begun c =
    let p = c.requires.placed in
    let f = c.frame_of-f.ensures in
    begun_strict p.0 p.1 f refl c.frame_places-v.ensures c.start_of.ensures

pub meeting_verdict-requires-clause-placed : goal.meeting_verdict-requires-clause-placed
meeting_verdict-requires-clause-placed c =
    let p = c.requires.placed in
    let f = c.frame_of-f.ensures in p

pub meeting_verdict-requires-clause-meeting_at : goal.meeting_verdict-requires-clause-meeting_at
meeting_verdict-requires-clause-meeting_at c =
    let p = c.requires.placed in
    let f = c.frame_of-f.ensures in record {
      framed = f;
      walked = strict p.0 p.1 f refl c.frame_places-v.ensures
          c.walk-e.ensures;
      met = c.if-e.true;
    }

pub returns : goal.returns
returns c =
    let p = c.requires.placed in
    let f = c.frame_of-f.ensures in
    let w = strict p.0 p.1 f refl c.frame_places-v.ensures
    c.walk-e.ensures in
    carries_separate (separate_by p.0 p.1 f w c.if-e.false) (upto_le tt w.reach)

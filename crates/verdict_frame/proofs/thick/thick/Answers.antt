-- `verdict_frame::thick`: the sum, with the same corners, and the box's corner by the signs of w.
use Rattle.verdict_frame.specs.FrameLaws.{point_eq}
use Rattle.verdict_frame.proofs.thick.thick.Goals as goal

pub returns : goal.returns
returns c = point_eq c.add.ensures.0 c.cube_of.ensures

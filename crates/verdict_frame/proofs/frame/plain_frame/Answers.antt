-- `verdict_frame::plain_frame`: the first scan finds a difference that is not 0, or shows that all are.
use Rattle.verdict_frame.specs.FrameLaws.{off_point_of, framed_at_a_point}
use Rattle.verdict_frame.proofs.frame.plain_frame.Goals as goal

pub frame_off_the_point-requires-clause-placed : goal.frame_off_the_point-requires-clause-placed
frame_off_the_point-requires-clause-placed c = c.requires

pub frame_off_the_point-requires-clause-off_point : goal.frame_off_the_point-requires-clause-off_point
frame_off_the_point-requires-clause-off_point c = off_point_of c.unit_rows.ensures.0 c.in-Some.ensures

pub returns-in-Some : goal.returns-in-Some
returns-in-Some c = c.frame_off_the_point.ensures

pub returns-in-None : goal.returns-in-None
returns-in-None c =
    framed_at_a_point c.requires.0 c.requires.1 c.unit_rows.ensures.0 c.in-None.ensures
    c.at_a_point.ensures

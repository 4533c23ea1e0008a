-- `verdict_frame::frame_off_the_point`: the second scan finds a point off the line, or shows that all is on it.
use Rattle.verdict_frame.specs.FrameLaws.{tagged_upto, wide_of, framed_on_a_line}
use Rattle.verdict_frame.proofs.frame.frame_off_the_point.Goals as goal

pub line_rows-requires : goal.line_rows-requires
line_rows-requires c = tagged_upto c.requires.placed.0 c.requires.placed.1 c.requires.off_point.tagged

pub frame_in_space-requires-clause-placed : goal.frame_in_space-requires-clause-placed
frame_in_space-requires-clause-placed c = c.requires.placed

pub frame_in_space-requires-clause-wide : goal.frame_in_space-requires-clause-wide
frame_in_space-requires-clause-wide c = wide_of c.requires.off_point c.line_rows.ensures.0
    c.in-Some.ensures

pub returns-in-Some : goal.returns-in-Some
returns-in-Some c = c.frame_in_space.ensures

pub on_a_line-requires : goal.on_a_line-requires
on_a_line-requires c = tagged_upto c.requires.placed.0 c.requires.placed.1 c.requires.off_point.tagged

pub returns-in-None : goal.returns-in-None
returns-in-None c =
    framed_on_a_line c.requires.placed.0 c.requires.placed.1 c.requires.off_point
    c.line_rows.ensures.0 c.in-None.ensures c.on_a_line.ensures

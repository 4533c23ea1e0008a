-- `line_save::save` stays in range: the path begins within the line, and the text stands in the room.
use native.Mathlib.Omega.{arith}
use Rattle.line_save.specs.SavingLaws.{saves_within}
use Rattle.line_save.proofs.save.Goals as goal

pub slice_bounds-to_file-count : goal.slice_bounds-to_file-count
slice_bounds-to_file-count o c = (saves_within c.wanted.ensures c.in-Text.is).0

pub slice_bounds-to_file-start : goal.slice_bounds-to_file-start
slice_bounds-to_file-start o c = (saves_within c.wanted.ensures c.in-Text.is).0

pub slice_bounds-to_file-end-in-Text : goal.slice_bounds-to_file-end-in-Text
slice_bounds-to_file-end-in-Text o c = omega (arith, (saves_within c.wanted.ensures c.in-Text.is).1)

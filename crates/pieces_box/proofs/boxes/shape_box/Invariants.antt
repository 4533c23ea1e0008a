-- `b` is the box of the corners before `i`.
use Rattle.std.proofs.Common.{◌≡◌}
use Rattle.pieces_box.specs.ShapeBox.{box_to}
use Rattle.pieces_box.proofs.boxes.shape_box.Given as goal

abbrev pub invariant-loop-i : goal.invariant-loop-i
invariant-loop-i l = l.b ≡ box_to l.shapes l.shape l.i

-- Each shape before this one has its box.
use Rattle.std.proofs.Common.{◌≡◌, ℕ, ◌<◌, length}
use Rattle.limits.specs.Limits
use Rattle.pieces_box.specs.ShapeBox.{box_in, BoxAt}
use Rattle.pieces_box.proofs.boxes.boxes_of.Given as goal

abbrev pub invariant-loop-shape : goal.invariant-loop-shape
invariant-loop-shape l = (length l.boxes ≡ Limits.shapes) × ((s : ℕ) → s < l.shape → BoxAt l.shapes s (box_in l.boxes s))

-- `pieces_test::shapes_in_order`: the shapes so far are in order.
use Rattle.std.proofs.Common.{ℕ, ◌<◌, []}
use Rattle.pieces.specs.Pieces.{store_of}
use Rattle.pieces_test.specs.OrderTest.{ShapeInOrder}
use Rattle.pieces_test.proofs.shapes_in_order.Given as goal

abbrev pub invariant-loop-shape : goal.invariant-loop-shape
invariant-loop-shape l = (s : ℕ) → s < l.shape → ShapeInOrder (store_of l.shapes []) s

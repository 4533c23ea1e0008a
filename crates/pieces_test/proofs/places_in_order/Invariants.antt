-- `pieces_test::places_in_order`: the places so far are empty or in order.
use Rattle.std.proofs.Common.{ℕ, ◌<◌}
use Rattle.pieces.specs.Pieces.{store_of}
use Rattle.pieces_test.specs.OrderTest.{PlaceKept}
use Rattle.pieces_test.proofs.places_in_order.Given as goal

abbrev pub invariant-loop-place : goal.invariant-loop-place
invariant-loop-place l = (p : ℕ) → p < l.place → PlaceKept (store_of l.shapes l.places) p

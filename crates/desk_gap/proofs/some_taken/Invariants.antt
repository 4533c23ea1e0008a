-- `desk_gap::some_taken`. The invariant: no place below this one is taken.
use Prim.Native.Nat.{ℕ, ◌<◌}
use Rattle.pieces.specs.Pieces.{Taken}
use Rattle.desk_gap.proofs.some_taken.Given as goal

abbrev pub invariant-loop-place : goal.invariant-loop-place
invariant-loop-place l = (q : ℕ) → q < l.place → Taken l.places q → ⊥

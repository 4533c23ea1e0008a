-- `verdict_walk::farthest`: `best` is the farthest of the corners before `i`, and `far` how far it is.
use mathlib.Core.Path.{◌≡◌}
use Prim.Native.Nat.{ℕ, ◌<◌}
use lib.Signed.{◌≤ℤ◌}
use Rattle.space.specs.Vectors.{dot}
use Rattle.space.specs.Verdicts.{corner_at}
use Rattle.verdict_walk.proofs.support.farthest.Given as goal

abbrev pub invariant-loop-i : goal.invariant-loop-i
invariant-loop-i l = (l.far ≡ (dot l.d (corner_at l.s l.best))) × (l.best < l.i) × ((k : ℕ) → k < l.i → dot l.d (corner_at l.s k) ≤ℤ dot l.d (corner_at l.s l.best))

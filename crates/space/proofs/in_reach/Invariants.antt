-- `space::in_reach`: every number before the index is near; the loop ends at the first that is not.
use Rattle.space.specs.Lists.{IsNear}
use Prim.Native.Nat.{ℕ, ◌<◌}
use lib.ListN.{get_or}
use lib.IntN.{pos}
use Rattle.space.proofs.in_reach.Given as goal

abbrev pub invariant-loop-x : goal.invariant-loop-x
invariant-loop-x l = (k : ℕ) → k < l.x-index → IsNear l.reach (get_or l.s k (pos 0))

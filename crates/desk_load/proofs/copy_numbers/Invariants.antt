-- `desk_load::copy_numbers`: the numbers passed stand in the array, and the rest is as it was.
-- Assumes nothing.
use Prim.Native.Nat.{◌≤◌}
use mathlib.Core.Path.{◌≡◌}
use lib.ListN.{length}
use lib.Seq.{paste}
use Rattle.desk_load.proofs.copy_numbers.Given as goal

abbrev pub invariant-loop-i : goal.invariant-loop-i
invariant-loop-i l = (l.i ≤ length l.numbers) × (l.shapes ≡ paste l.initial.shapes l.start l.numbers l.i)

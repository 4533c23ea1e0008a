-- `off_write::put_lines` meets its contract. The invariant: the lines of the first i numbers stand behind what was there, and i is three for each line.
-- The measure is what is left of the numbers.
use Prim.Native.Nat.{◌≤◌, ◌+◌, ◌-◌, ◌*◌, ◌/◌}
use mathlib.Core.Path.{◌≡◌}
use lib.ListN.{length, take}
use Rattle.text_put.specs.Print.{Extends}
use Rattle.off_write.specs.Written.{lines_of}
use Rattle.off_write.proofs.put_lines.Given as goal

abbrev pub invariant-loop-i : goal.invariant-loop-i
invariant-loop-i l =
    (l.i ≤ length l.numbers) × (3 * (l.i / 3) ≡ l.i) × Extends l.initial.room l.from (lines_of (take l.i l.numbers)) l.room l.at × (l.at ≤ l.from + 13 * l.i)

abbrev pub decreases-loop-i : goal.decreases-loop-i
decreases-loop-i l = length l.numbers - l.i

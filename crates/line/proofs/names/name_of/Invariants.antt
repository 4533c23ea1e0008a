-- `line::names::name_of` meets its contract. The invariant: a number among the names that are left, with those that were passed, is one among all of them.
-- The measure is what is left of the text.
use Prim.Native.Nat.{◌-◌, ◌≤◌}
use lib.ListN.{length}
use Rattle.line.specs.Behind.{behind}
use Rattle.line.specs.NamedLaws.{Leaves}
use Rattle.line.proofs.names.name_of.Given as goal

abbrev pub invariant-loop-end : goal.invariant-loop-end
invariant-loop-end l = (l.number ≤ l.end) × (l.end ≤ length l.names) × Leaves l.word (behind l.names 0) l.number (behind l.names l.end)

abbrev pub decreases-loop-end : goal.decreases-loop-end
decreases-loop-end l = length l.names - l.end

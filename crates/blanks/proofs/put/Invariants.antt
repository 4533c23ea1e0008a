-- `put` meets its contract. The loop's invariant: the letters passed stand as sizes at the room's start, and the rest is as it was.
use Rattle.std.proofs.Common.{◌≡◌, ◌++◌, length, take, drop}
use Rattle.blanks.specs.Chosen.{chosen_all}
use Rattle.blanks.proofs.put.Given as goal

abbrev pub invariant-loop-i : goal.invariant-loop-i
invariant-loop-i l =
    (length l.room ≡ length l.initial.room) × (l.room ≡ chosen_all (take l.i l.table) l.steps.x l.steps.y l.steps.z ++ drop l.i l.initial.room)

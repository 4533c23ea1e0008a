-- `line_file::read_all` stays in range and ends. The measure is what is left of the room.
use Rattle.std.specs.Prelude.{◌≤◌, ◌-◌, ◌≡◌, length}
use Rattle.line_file.proofs.read_all.Given as goal

abbrev pub invariant-loop-at : goal.invariant-loop-at
invariant-loop-at o l = (l.at ≤ length l.room) × (length l.room ≡ length l.initial.room)

abbrev pub decreases-loop-at : goal.decreases-loop-at
decreases-loop-at o l = length l.room - l.at

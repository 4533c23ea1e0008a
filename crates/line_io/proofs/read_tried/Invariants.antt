-- `line_io::read_tried` stays in range and ends. The measure is the tries that are left.
use Rattle.std.specs.Prelude.{◌≤◌, ◌+◌, ◌≡◌, length}
use Rattle.line_io.proofs.read_tried.Given as goal

abbrev pub invariant-loop-tries : goal.invariant-loop-tries
invariant-loop-tries o l = (l.n ≤ length l.room + 1) × (length l.room ≡ length l.initial.room)

abbrev pub decreases-loop-tries : goal.decreases-loop-tries
decreases-loop-tries o l = l.tries

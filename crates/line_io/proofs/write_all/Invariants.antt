-- `line_io::write_all` stays in range and ends. The measure is what is left to write and the tries that are left: a write takes something or costs a try.
use Rattle.std.specs.Prelude.{◌≤◌, ◌-◌, ◌+◌, length}
use Rattle.line_io.proofs.write_all.Given as goal

abbrev pub invariant-loop-done : goal.invariant-loop-done
invariant-loop-done o l = l.done ≤ length l.bytes

abbrev pub decreases-loop-done : goal.decreases-loop-done
decreases-loop-done o l = length l.bytes - l.done + l.tries

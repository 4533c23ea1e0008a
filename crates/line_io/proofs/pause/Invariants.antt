-- `line_io::pause` ends. The measure is the times that are left.
use Rattle.std.specs.Prelude.{◌≤◌, ◌-◌}
use Rattle.line_io.proofs.pause.Given as goal

abbrev pub invariant-loop-i : goal.invariant-loop-i
invariant-loop-i l = l.i ≤ 10000

abbrev pub decreases-loop-i : goal.decreases-loop-i
decreases-loop-i l = 10000 - l.i

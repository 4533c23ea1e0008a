-- Each round adds what one mark counts.
use Rattle.std.proofs.Common.{◌≡◌, ◌+◌, ◌*◌, ◌≤◌}
use Rattle.ints.specs.Counts.{sum_to}
use Rattle.marks.specs.Changed.{crossed_with}
use Rattle.marks_count.proofs.count.count_between.Given as goal

abbrev pub invariant-loop-other : goal.invariant-loop-other
invariant-loop-other l = (l.n + 2 * l.from ≤ 2 * l.other) × (l.n + sum_to l.from (crossed_with l.old l.new l.was l.is) ≡ sum_to l.other (crossed_with l.old l.new l.was l.is))

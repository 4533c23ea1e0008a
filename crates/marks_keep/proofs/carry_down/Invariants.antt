-- The cells without the gap, which is right above those still to be passed, stay the same list.
use Rattle.std.proofs.Common.{◌≡◌, ◌≤◌, length}
use Rattle.marks_keep.specs.Slide.{without}
use Rattle.marks_keep.proofs.carry_down.Given as goal

abbrev pub invariant-loop-below : goal.invariant-loop-below
invariant-loop-below l = (l.below ≤ l.from) × (length l.part ≡ length l.initial.part) × (without l.below l.part ≡ without l.from l.initial.part)

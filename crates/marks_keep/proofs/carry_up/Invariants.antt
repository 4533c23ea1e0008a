-- The cells without the gap, which is right below those still to be passed, stay the same list; what stands right below it is as it was, or was passed.
use Rattle.std.proofs.Common.{◌≡◌, ℕ, ◌-◌, ◌≤◌, suc, length, get_or}
use Rattle.marks.specs.Keys.{key_of}
use Rattle.marks_keep.specs.Slide.{without}
use Rattle.marks_keep.proofs.carry_up.Given as goal

abbrev pub invariant-loop-above : goal.invariant-loop-above
invariant-loop-above l =
    (l.above ≤ length l.initial.part) × (length l.part ≡ length l.initial.part) × (without (l.above - 1) l.part ≡ without l.from l.initial.part)
    × (((q : ℕ) → suc q ≡ l.from → key_of l.keys (get_or l.initial.part q 0) ≤ l.key) → (q : ℕ) → suc q ≡ l.above - 1 → key_of l.keys (get_or l.part q 0) ≤ l.key)

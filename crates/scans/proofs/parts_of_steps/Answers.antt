-- `parts_of_steps` meets its contract: the digits are so many of the parts that a step has (Fields), and whole steps where nothing is left over.
-- The parts are a power of two that the code makes by a shift.
use Prim.Native.Nat.{ℕ, ◌+◌, ◌-◌, ◌*◌, ◌%◌, ◌^◌, ◌<◌, ◌≤◌}
use mathlib.Core.Bool.{Bool}
use native.Mathlib.Omega.{arith}
use lib.Ieee.{of_fields, binary32}
use lib.Pow.{pow_pos}
use Rattle.scans.proofs.Answers.{not_whole_lem, whole}
use Rattle.scans.proofs.Fields.{behind, power}
use Rattle.scans.proofs.Sized.{Sized, fraction, quotient}
use Rattle.scans.proofs.parts_of_steps.Goals as goal

powered : (f : ℕ) → 121 ≤ f → 0 < 1 * 2 ^ (144 - f) % 4294967296
powered f h = rw (power f h) (pow_pos (144 - f))

in_parts : (s : Bool) (f t : ℕ) → 121 ≤ f → f < 144 → Sized (of_fields binary32 s f t) s (8388608 + t) (1 * 2 ^ (144 - f) % 4294967296)
in_parts s f t l h = rw (power f l) (behind s f t (omega arith) h)

pub nonzero_rem-digits : goal.nonzero_rem-digits
nonzero_rem-digits c = powered c.args.exponent c.requires.0

pub nonzero_div-digits : goal.nonzero_div-digits
nonzero_div-digits c = powered c.args.exponent c.requires.0

pub returns-then-digits-step-eq0 : goal.returns-then-digits-step-eq0
returns-then-digits-step-eq0 c =
    let a = c.args in
    let q = c.requires in
    let v = in_parts a.minus a.exponent a.fraction q.0 q.1 in
    whole (quotient (powered a.exponent q.0) c.if-digits-step-eq0.true v) c.taken.ensures

pub returns-else-digits-step-eq0 : goal.returns-else-digits-step-eq0
returns-else-digits-step-eq0 c =
    let a = c.args in
    let q = c.requires in
    not_whole_lem (fraction c.if-digits-step-eq0.false (in_parts a.minus a.exponent a.fraction q.0 q.1))

-- Two tests that differ count 1.
use mir.Val.{bool_byte}
use mathlib.Core.Bool.{beq, xor}
use Rattle.std.proofs.Common.{◌≡◌, refl, ◌∙◌, Bool, true, false, not, ◌≤◌, arith}
use Rattle.ints.specs.Counts.{one_if}
use Rattle.marks_count.proofs.count.differs.Goals as goal

differ : (a b : Bool) → bool_byte (not (beq a b)) ≡ one_if (xor a b)
unfolding xor
differ true true = refl
differ true false = refl
differ false true = refl
differ false false = refl

few : (a b : Bool) → one_if (xor a b) ≤ 1
unfolding xor
few true true = omega arith
few true false = omega arith
few false true = omega arith
few false false = omega arith

pub returns : goal.returns
returns c =
    let a = c.args.a in
    let b = c.args.b in
    let e = c.from.ensures ∙ differ a b in
    (e, omega (arith, e, few a b))

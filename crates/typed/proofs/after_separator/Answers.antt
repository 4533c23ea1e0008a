-- `typed::after_separator` meets its contract. What is left of the text is digits where as many as are left stand at its start, and the
-- number that two digits name is below the cut.
use Prim.Native.Nat.{ℕ, ◌≤◌, ◌+◌, ◌-◌, ◌*◌, ◌^◌}
use mathlib.Core.Path.{◌≡◌, ap, ap₂, ◌∙◌, subst}
use native.Mathlib.Nat.{mul-le-mul}
use native.Mathlib.Omega.{arith}
use mathlib.Core.List.{List}
use lib.ListN.{length, drop, length-drop}
use Rattle.limits.specs.Limits
use Rattle.text_digits.specs.Decimal.{Digits, number, cut}
use Rattle.text_digits.specs.DecimalLaws.{leading, leading_digits, leading_all, digits_leading, number_few}
use Rattle.typed.specs.Reading.{Few, judged}
use Rattle.typed.specs.ReadingLaws.{part_refused, part_taken}
use Rattle.typed.proofs.after_separator.Goals as goal
use Rattle.typed.proofs.after_separator.Goals.{then-k-text-via-then-k-text, then-k-text-via-else-k-text+then-k-eq0, then-k-text-via-else-k-text+else-k-eq0+then-k-gt-PART_DIGITS}

-- where the digits are all of what is left, they were counted
counted : (t : List ℕ) (k : ℕ) → k ≡ length (leading t) → Digits t → k ≡ length t
counted t k e ds = e ∙ ap length (digits_leading t ds)

pub returns-then-k-text : goal.returns-then-k-text
returns-then-k-text c =
    let t = drop c.args.at c.args.text.now in
    let left = length-drop c.args.at c.args.text.now in
    let n = counted t c.digits-part.result.count c.digits-part.ensures.count in
    part_refused _ t (λ ds few. elim c.then-k-text.branch [
      | then-k-text-via-then-k-text w ↦ omega (arith, w.if-k-text.true, n ds, left)
      | then-k-text-via-else-k-text+then-k-eq0 w ↦ omega (arith, w.if-k-eq0.true, n ds, few.0)
      | then-k-text-via-else-k-text+else-k-eq0+then-k-gt-PART_DIGITS w ↦ omega (arith, w.if-k-gt-PART_DIGITS.true, n ds, few.1)
    ])

pub overflow_mul-part : goal.overflow_mul-part
overflow_mul-part c =
    let bounded : c.digits-part.result.value * c.worth.result ≤ cut * 10 = mul-le-mul {n₂ = cut} (omega (arith, c.digits-part.ensures.value)) c.worth.ensures.most in
    omega (arith, bounded)

pub overflow_add-whole : goal.overflow_add-whole
overflow_add-whole c =
    let bounded : c.digits-part.result.value * c.worth.result ≤ cut * 10 = mul-le-mul {n₂ = cut} (omega (arith, c.digits-part.ensures.value)) c.worth.ensures.most in
    omega (arith, bounded)

pub returns : goal.returns
returns c =
    let t = drop c.args.at c.args.text.now in
    let w = c.args.whole in
    let left = length-drop c.args.at c.args.text.now in
    let a : leading t ≡ t = leading_all t (omega (arith, c.if-k-text.false, left, c.digits-part.ensures.count)) in
    let ds = subst Digits a (leading_digits t) in
    let n = counted t c.digits-part.result.count c.digits-part.ensures.count ds in
    let few : Few Limits.part_digits t = (omega (arith, n, c.if-k-eq0.false), omega (arith, n, c.if-k-gt-PART_DIGITS.false)) in
    let v : c.digits-part.result.value ≡ number t = omega (arith, c.digits-part.ensures.value, ap number a, number_few Limits.part_digits t ds few.1) in
    let k : c.worth.result ≡ 10 ^ (2 - length t) = c.worth.ensures.value ∙ ap (λ (m : ℕ). 10 ^ (2 - m)) n in
    c.in_steps.ensures ∙ ap₂ (λ (x y : ℕ). judged (w * 100 + x * y)) v k ∙ part_taken w t ds few

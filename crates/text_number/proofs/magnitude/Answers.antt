-- `text_number::magnitude` meets its contract: ten digits name a number that fits, and one digit more goes behind what was read.
use Rattle.std.proofs.Common.{◌≡◌, ℕ, ◌+◌, ◌*◌, ◌<◌, ◌≤◌, ◌^◌, ◌∷◌, List, length, pos, w64, ◌∙◌, sym, ap, subst, get_or, drop, add-one, arith, pow-suc, drop-cons, drop_of_length-le}
use Rattle.std.proofs.Math.Nat.{pow-le-pow_right}
use Rattle.std.proofs.Math.Facts.{to_z_pos}
use Rattle.std.proofs.lemmas.Bool.{false≢true}
use Rattle.std.proofs.lemmas.Bool.Decides.{nat_tests}
use Rattle.text_digits.specs.Decimal.{Digits, number}
use Rattle.text_digits.specs.DecimalLaws.{number_after, number_read}
use Rattle.text_number.proofs.magnitude.Goals as goal

more_below : (v i d : ℕ) → v < 10 ^ i → d ≤ 9 → v * 10 + d < 10 ^ (i + 1)
more_below v i d h k = rw add-one (omega (arith, pow-suc 10 i))

small : (v i : ℕ) → v < 10 ^ i → i ≤ 9 → v < 1000000000
small v i h k = omega (arith, h, pow-le-pow_right {n = 10} (omega arith) {i = i} {j = 9} k)

-- what is left of a word from a place on
left : (s : List ℕ) (i : ℕ) → i < length s → drop i s ≡ get_or s i 0 ∷ drop (i + 1) s
left s i h = rw add-one (drop-cons s i 0 h)

pub loop-b-init : goal.loop-b-init
loop-b-init c = (omega arith, λ d. d, λ d. d, sym (number_read c.args.word.now))

pub returns-then-not-is_digit : goal.returns-then-not-is_digit
returns-then-not-is_digit c = λ f.
    let s = c.args.word.now in
    let d = subst Digits (left s c.loop-b.b-index c.loop-b-test.true) (c.loop-b.invariant.1 f.digits) in
    false≢true (sym c.if-not-is_digit.true ∙ c.is_digit.ensures.1 d.0)

pub overflow_mul-value : goal.overflow_mul-value
overflow_mul-value c = omega (arith, small c.loop-b.value c.loop-b.b-index c.loop-b.invariant.0 (omega arith))

pub overflow_add-value : goal.overflow_add-value
overflow_add-value c =
    let d = c.is_digit.ensures.0 c.if-not-is_digit.false in
    omega (arith, small c.loop-b.value c.loop-b.b-index c.loop-b.invariant.0 (omega arith), c.from.ensures, d.high)

pub loop-b-preserved : goal.loop-b-preserved
unfolding number_after
loop-b-preserved c =
    let s = c.args.word.now in
    let i = c.loop-b.b-index in
    let d = c.is_digit.ensures.0 c.if-not-is_digit.false in
    let e = left s i c.loop-b-test.true in (
      more_below c.loop-b.value i c.from.result c.loop-b.invariant.0 (omega (arith, c.from.ensures, d.high)),
      λ ds. (subst Digits e (c.loop-b.invariant.1 ds)).1,
      λ ds. c.loop-b.invariant.2 (subst Digits (sym e) (d, ds)),
      c.loop-b.invariant.3 ∙ ap (number_after c.loop-b.value) e ∙ ap (λ (k : ℕ). number_after (c.loop-b.value * 10 + k) (drop (i + 1) s)) (sym c.from.ensures),
    )

pub returns : goal.returns
unfolding number_after
returns c =
    let s = c.args.word.now in
    let e = drop_of_length-le s {i = c.loop-b.b-index} c.loop-b-test.false in
    let most : c.loop-b.value < 10 ^ 10 = omega (arith, c.loop-b.invariant.0, pow-le-pow_right {n = 10} (omega arith) {i = c.loop-b.b-index} {j = 10} (omega arith)) in
    let whole : c.loop-b.value ≡ number s = sym (c.loop-b.invariant.3 ∙ ap (number_after c.loop-b.value) e) in
    (record { digits = c.loop-b.invariant.2 (subst Digits (sym e) tt); some = grind (arith, nat_tests); few = c.if-word-gt-MOST_DIGITS.false }, to_z_pos w64 (omega arith) ∙ ap pos whole)

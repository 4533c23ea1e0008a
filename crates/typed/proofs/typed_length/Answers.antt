-- `typed::typed_length` meets its contract: it answers the text's reading, and the reading is the answer asked for.
-- The number that four digits name is below the cut, so it is the number itself that is handed on.
use Prim.Native.Nat.{ℕ, ◌≤◌}
use mathlib.Core.Bool.{true≢false}
use mathlib.Core.List.{List, [], ◌∷◌, ◌++◌}
use mathlib.Core.Path.{◌≡◌, refl, sym, ap, ap₂, ◌∙◌, subst}
use native.Mathlib.Omega.{arith}
use lib.ListN.{length, get_or, drop}
use Rattle.limits.specs.Limits
use Rattle.text_digits.specs.Decimal.{number}
use Rattle.text_digits.specs.DecimalLaws.{leading, leading_le, leading_split, leading_digits, number_few}
use Rattle.typed.specs.TypedLength.{NeedlessZero, Typed, LengthAnswers}
use Rattle.typed.specs.Reading.{Few, after_whole, reading}
use Rattle.typed.specs.ReadingLaws.{reading_answers, form_refused, form_taken}
use Rattle.typed.proofs.typed_length.Goals as goal
use Rattle.typed.proofs.typed_length.Goals.{then-n-eq0-via-then-n-eq0, then-n-eq0-via-else-n-eq0+then-n-gt-WHOLE_DIGITS, then-n-eq0-via-else-n-eq0+else-n-gt-WHOLE_DIGITS+then-needless_zero}

answered : (text : List ℕ) {r : Typed} → r ≡ reading text → LengthAnswers text r
answered text e = subst (LengthAnswers text) (sym e) (reading_answers text)

-- the first of some digits is the first byte of the text
first_byte : (l r : List ℕ) → 1 ≤ length l → get_or (l ++ r) 0 0 ≡ get_or l 0 0
first_byte [] r h = absurd (omega arith)
first_byte (b ∷ l) r h = refl

first-is : (text : List ℕ) → 1 ≤ length (leading text) → get_or text 0 0 ≡ get_or (leading text) 0 0
first-is text h = ap (λ (l : List ℕ). get_or l 0 0) (leading_split text) ∙ first_byte (leading text) _ h

pub returns-then-n-eq0 : goal.returns-then-n-eq0
returns-then-n-eq0 c =
    let text = c.args.text.now in
    let n : c.digits-whole.result.count ≡ length (leading text) = c.digits-whole.ensures.count in
    answered text (form_refused text (λ few. elim c.then-n-eq0.branch [
      | then-n-eq0-via-then-n-eq0 w ↦ omega (arith, n, w.if-n-eq0.true, few.0.0)
      | then-n-eq0-via-else-n-eq0+then-n-gt-WHOLE_DIGITS w ↦ omega (arith, n, w.if-n-gt-WHOLE_DIGITS.true, few.0.1)
      | then-n-eq0-via-else-n-eq0+else-n-gt-WHOLE_DIGITS+then-needless_zero w ↦
          let z = w.needless_zero.ensures.0 w.if-needless_zero.true in
          few.1 (record { several = omega (arith, n, z.0); zero = sym (first-is text few.0.0) ∙ z.1 })
    ]))

pub needless_zero-requires : goal.needless_zero-requires
needless_zero-requires c =
    omega (arith, c.digits-whole.ensures.count, leading_le c.args.text.now)

pub after_whole-requires : goal.after_whole-requires
after_whole-requires c =
    omega (arith, c.digits-whole.ensures.count, c.digits-whole.ensures.value, leading_le c.args.text.now)

pub returns : goal.returns
returns c =
    let text = c.args.text.now in
    let n : c.digits-whole.result.count ≡ length (leading text) = c.digits-whole.ensures.count in
    let few : Few Limits.whole_digits (leading text) = (omega (arith, c.if-n-eq0.false), omega (arith, c.if-n-gt-WHOLE_DIGITS.false)) in
    let plain : NeedlessZero (leading text) → ⊥ = λ z. true≢false (sym (c.needless_zero.ensures.1 (
      omega (arith, n, z.several),
      first-is text
          few.0 ∙ z.zero,
    )) ∙ c.if-needless_zero.false) in
    let v : c.digits-whole.result.value ≡ number (leading text) = omega (arith, c.digits-whole.ensures.value, number_few Limits.whole_digits (leading text) (leading_digits text) few.1) in
    answered text (c.after_whole.ensures ∙ ap₂ (λ (x y : ℕ). after_whole x (drop y text)) v n ∙ form_taken text (few, plain))

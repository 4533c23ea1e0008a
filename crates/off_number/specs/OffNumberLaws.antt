-- Laws of the numbers of an OFF text: a text is a number in one way, with one value and one number of steps.
-- So two answers that are allowed for one word are equal (`read_once_lem`, and of the answers themselves `answer_once`).
use Rattle.std.specs.Prelude.{ℕ, ◌≤◌, ◌*◌, ◌≡◌, refl, Bool, true, false, List, [], ◌∷◌, ◌++◌, ℤ, Result, Ok, Err, length, get_or}
use Rattle.std.proofs.Common.{sym, ap, ap₂, ◌∙◌, subst, ⊎_elim, arith}
use Rattle.limits.proofs.LowestLaws.{lowest_once}
use Rattle.limits.proofs.RefusalLaws.{number_once as refusal_once, number_some}
use Rattle.limits.specs.declared.Refusal.{Refusal}
use Rattle.scans.specs.Floats.{with_sign}
use Rattle.scans.specs.Once.{zero_or}
use Rattle.text_digits.specs.Decimal.{Digit, Digits, Decimal, value_in}
use Rattle.text_digits.specs.DecimalLaws.{decimal_once}
use Rattle.limits.specs.Limits
use Rattle.off_number.specs.OffNumber.{Point, NumberAs, Millionths, Exact, InSteps, word_refusals, NumberRead, number_read_of, NumberReadAs}

-- a point is no digit
pub apart : (c : ℕ) → Point c → Digit c → ⊥
apart c e d = omega arith

-- a decimal starts with a digit, and so with no minus
digit_first : (whole rest digits : List ℕ) → Digits whole → 1 ≤ length whole → whole ++ rest ≡ 45 ∷ digits → ⊥
digit_first [] rest digits h some e = omega arith
digit_first (d ∷ whole) rest digits h some e = let f : d ≡ 45 = ap (λ (l : List ℕ). get_or l 0 0) e in omega (arith, h.0.low)

pub no_minus : {text whole part digits : List ℕ} → Decimal Point text whole part → text ≡ 45 ∷ digits → ⊥
no_minus {whole = whole} {digits = digits} d e = digit_first whole d.rest digits d.whole_digits d.whole_some (sym d.split ∙ e)

-- ---- a text is a number in one way
pub number_once : {text w p v q : List ℕ} (a b : Bool) → NumberAs text a w p → NumberAs text b v q → (a ≡ b) × (w ≡ v) × (p ≡ q)
number_once {v = v} {q} true true x y =
    let e : y.digits ≡ x.digits = cc in
    let d = decimal_once Point apart x.decimal (subst (λ (l : List ℕ). Decimal Point l v q) e y.decimal) in
    (refl, d.0, d.1)
number_once {v = v} {q} false false x y =
    let e : y.digits ≡ x.digits = cc in
    let d = decimal_once Point apart x.decimal (subst (λ (l : List ℕ). Decimal Point l v q) e y.decimal) in
    (refl, d.0, d.1)
number_once true false x y = absurd (no_minus y.decimal (sym y.sign ∙ x.sign))
number_once false true x y = absurd (no_minus x.decimal (sym x.sign ∙ y.sign))

pub millionths_once : {text : List ℕ} {a b : Bool} {m n : ℕ} → Millionths text a m → Millionths text b n → (a ≡ b) × (m ≡ n)
millionths_once {a = a} {b} x y =
    let e = number_once a b x.number y.number in
    (e.0, x.value ∙ ap₂ (value_in Limits.off_digits) e.1 e.2 ∙ sym y.value)

pub exact_once : (m s t : ℕ) → Exact m s → Exact m t → s ≡ t
exact_once m s t a b = omega arith

-- its steps are one number
pub steps_once : {text : List ℕ} {y z : ℤ} → InSteps text y → InSteps text z → y ≡ z
steps_once a b =
    let e = millionths_once a.is b.is in
    let s : a.steps ≡ b.steps = exact_once a.millionths a.steps b.steps a.exact (b.exact ∙ ap (λ (m : ℕ). m * Limits.steps) (sym e.1)) in
    a.value ∙ ap₂ with_sign e.0 s ∙ sym b.value

pub read_once_lem : {word : List ℕ} {q r : NumberRead} → NumberReadAs word q → NumberReadAs word r → q ≡ r
read_once_lem {word} {q} {r} a b =
    let n : q.number ≡ r.number = lowest_once (word_refusals word) a.number b.number in
    let s : q.steps ≡ r.steps = ⊎_elim
    (λ (z : q.number ≡ 0). steps_once (a.steps z) (b.steps (sym n ∙ z)))
    (λ (f : q.number ≡ 0 → ⊥). a.zeros f ∙ sym (b.zeros (λ e. f (n ∙ e)))) (zero_or q.number) in
    λ i. record { number = n i; steps = s i }

-- an answer is told whole by its number and its steps
pub told_once : (q r : Result ℤ Refusal) → number_read_of q ≡ number_read_of r → q ≡ r
told_once (Ok x) (Ok y) e = ap Ok (ap (λ (n : NumberRead). n.steps) e)
told_once (Err x) (Err y) e = ap Err (refusal_once x y (ap (λ (n : NumberRead). n.number) e))
told_once (Ok x) (Err y) e = absurd (omega (arith, number_some y, ap (λ (n : NumberRead). n.number) e))
told_once (Err x) (Ok y) e = absurd (omega (arith, number_some x, ap (λ (n : NumberRead). n.number) e))

pub answer_once : {word : List ℕ} {q r : Result ℤ Refusal} → NumberReadAs word (number_read_of q) → NumberReadAs word (number_read_of r) → q ≡ r
answer_once {word} {q} {r} a b = told_once q r (read_once_lem a b)

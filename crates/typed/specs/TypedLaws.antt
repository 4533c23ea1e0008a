-- Laws of typed lengths: a text has one value, and a value one number of steps.
-- So two answers that are allowed for one text are equal (`answers_once`).
use Rattle.std.specs.Prelude.{ℕ, ◌*◌, ◌≡◌, refl, List}
use Rattle.std.proofs.Common.{sym, ap, ap₂, ◌∙◌, subst, inl, inr, arith}
use Rattle.limits.specs.Limits
use Rattle.limits.proofs.LowestLaws.{lowest_once}
use Rattle.text_digits.specs.Decimal.{Digit, value_in}
use Rattle.text_digits.specs.DecimalLaws.{decimal_once}
use Rattle.typed.specs.TypedLength.{CommaOrPoint, Hundredths, RoundedUp, LengthInSteps, Typed, Steps, Refused, number_of, refusals, LengthAnswers}

-- no separator is a digit
pub apart : (c : ℕ) → CommaOrPoint c → Digit c → ⊥
apart c (inl e) d = omega arith
apart c (inr e) d = omega arith

pub hundredths_once : {text : List ℕ} {h k : ℕ} → Hundredths text h → Hundredths text k → h ≡ k
hundredths_once a b =
    let e = decimal_once CommaOrPoint apart a.typed.decimal b.typed.decimal in
    a.value ∙ ap₂ (value_in 2) e.0 e.1 ∙ sym b.value

pub rounded_once : {n s t : ℕ} → RoundedUp n 100 s → RoundedUp n 100 t → s ≡ t
rounded_once a b = omega arith

pub steps_once : {text : List ℕ} {s t : ℕ} → LengthInSteps text s → LengthInSteps text t → s ≡ t
steps_once {text} {s} {t} a b =
    rounded_once a.2 (subst (λ (h : ℕ). RoundedUp (h * Limits.steps) 100 t) (hundredths_once b.1 a.1) b.2)

same : {text : List ℕ} {q r : Typed} → LengthAnswers text q → LengthAnswers text r → number_of q ≡ number_of r
same {text} a b = lowest_once (refusals text) a.refusal b.refusal

pub answers_once : {text : List ℕ} (q r : Typed) → LengthAnswers text q → LengthAnswers text r → q ≡ r
answers_once {text} (Steps s) (Steps t) a b = ap Steps (steps_once (a.steps refl) (b.steps refl))
answers_once {text} (Steps s) (Refused n) a b = absurd (omega (arith, b.named, same a b))
answers_once {text} (Refused m) (Steps t) a b = absurd (omega (arith, a.named, same a b))
answers_once {text} (Refused m) (Refused n) a b = ap Refused (same a b)

-- Typed lengths, in the words of document 01, "Lengths that arrive as text or as floats", as request W1 amends them.
-- `Answers text r` is all that is promised of the answer r to the text.
use Rattle.std.specs.Prelude.{ℕ, ◌≤◌, ◌<◌, ◌+◌, ◌*◌, ◌≡◌, List, [], ◌∷◌, ◌⊎◌, length, get_or, Result, Ok, Err}
use Rattle.limits.specs.Limits
use Rattle.limits.specs.Lowest.{Rule, Lowest, ◌when◌}
use Rattle.text_digits.specs.Decimal.{Decimal, value_in}
use Rattle.limits.specs.Refusals.{number_of as refusal_number}
use Rattle.limits.specs.declared.Refusal.{Refusal}

-- "one comma or point": the bytes 44 and 46. "Both separators mean the same."
abbrev pub CommaOrPoint : ℕ → Type 0
CommaOrPoint c = (c ≡ 44) ⊎ (c ≡ 46)

-- request W1: "A typed length whose whole part has more than one digit must not start with 0; such text gets refusal 14."
pub record NeedlessZero (whole : List ℕ) : Type 0 where
  pub several : 1 < length whole
  pub zero : get_or whole 0 0 ≡ 48

-- "A typed length is 1 to 4 digits, then nothing, or one comma or point and 1 or 2 digits. [..] Nothing else is allowed: no sign, space or
-- grouping." And, by W1, no needless zero
pub record TypedAs (text whole part : List ℕ) : Type 0 where
  pub decimal : Decimal CommaOrPoint text whole part
  pub whole_few : length whole ≤ Limits.whole_digits
  pub whole_plain : NeedlessZero whole → ⊥
  pub part_few : length part ≤ Limits.part_digits

-- "The value in hundredths of a millimetre": the text is a typed length, and h is its value
pub record Hundredths (text : List ℕ) (h : ℕ) : Type 0 where
  pub whole : List ℕ
  pub part : List ℕ
  pub typed : TypedAs text whole part
  pub value : h ≡ value_in 2 whole part

-- 14: "typed length not of the form above"
abbrev pub NotOfForm : List ℕ → Type 0
NotOfForm text = (whole part : List ℕ) → TypedAs text whole part → ⊥

-- 15: "typed length over 1024 mm", which is 102,400 hundredths
abbrev pub OverRange : List ℕ → Type 0
OverRange text = (h : ℕ) × Hundredths text h × (Limits.most_hundredths < h)

-- s is n / d "rounded up": not below it, and less than one above it
pub record RoundedUp (n d s : ℕ) : Type 0 where
  pub not_below : n ≤ s * d
  pub less_than_one_above : s * d < n + d

-- "the result in steps is hundredths × 64 / 100, rounded up"
abbrev pub LengthInSteps : List ℕ → ℕ → Type 0
LengthInSteps text s = (h : ℕ) × Hundredths text h × RoundedUp (h * Limits.steps) 100 s

-- document 01's answer to a text: steps, or the number of a refusal; and which of them the result is
pub data Typed : Type 0 where
  Steps : ℕ → Typed
  Refused : ℕ → Typed

abbrev pub typed_of : Result ℕ Refusal → Typed
typed_of (Ok s) = Steps s
typed_of (Err r) = Refused (refusal_number r)

-- document 01's number of an answer, 0 where it is done, and its steps, which are zero on a refusal
abbrev pub number_of : Typed → ℕ
number_of (Steps s) = 0
number_of (Refused n) = n

abbrev pub steps_of : Typed → ℕ
steps_of (Steps s) = s
steps_of (Refused n) = 0

-- "0 is done": what is refused has another number
abbrev pub Named : Typed → Type 0
Named (Steps s) = Unit {0}
Named (Refused n) = 0 < n

-- the refusals of a typed length, in the order that decides
abbrev pub refusals : List ℕ → List Rule
refusals text = Limits.length_form when NotOfForm text ∷ Limits.length_range when OverRange text ∷ []

-- the answer to a text: the lowest refusal that applies; where none does, the steps; else "Every other value in the answer is zero"
pub record LengthAnswers (text : List ℕ) (r : Typed) : Type 0 where
  pub refusal : Lowest (refusals text) (number_of r)
  pub steps : number_of r ≡ 0 → LengthInSteps text (steps_of r)
  pub zeros : 0 < number_of r → steps_of r ≡ 0
  pub named : Named r

-- A number of an OFF text (document 02, W7): what it is, its value, and when it is refused.
-- `NumberReadAs word r` is all that is promised of the answer r to a word.
use Rattle.std.specs.Prelude.{ℕ, ◌≤◌, ◌<◌, ◌*◌, ◌^◌, ◌≡◌, Bool, true, false, List, [], ◌∷◌, ℤ, pos, Result, Ok, Err, length}
use Rattle.limits.specs.Limits
use Rattle.limits.specs.Lowest.{Rule, Lowest, ◌when◌}
use Rattle.limits.specs.Refusals.{number_of}
use Rattle.limits.specs.declared.Refusal.{Refusal}
use Rattle.scans.specs.Floats.{with_sign}
use Rattle.text_digits.specs.Decimal.{Decimal, value_in}

-- "Numbers are an optional minus, one or more digits, and optionally a point and 1 to 6 digits". A point is the byte 46
abbrev pub Point : ℕ → Type 0
Point c = c ≡ 46

-- a minus, the byte 45, or none
abbrev pub signed : Bool → List ℕ → List ℕ
signed true digits = 45 ∷ digits
signed false digits = digits

pub record NumberAs (text : List ℕ) (minus : Bool) (whole part : List ℕ) : Type 0 where
  pub digits : List ℕ
  pub sign : text ≡ signed minus digits
  pub decimal : Decimal Point digits whole part
  pub few : length part ≤ Limits.off_digits

-- millionths of a millimetre to the millimetre: the last of six digits is worth one of them
abbrev pub millionth : ℕ
millionth = 10 ^ Limits.off_digits

-- the text is a number, and m is its value without the sign, in millionths: the statement that typed lengths use for hundredths
pub record Millionths (text : List ℕ) (minus : Bool) (m : ℕ) : Type 0 where
  pub whole : List ℕ
  pub part : List ℕ
  pub number : NumberAs text minus whole part
  pub value : m ≡ value_in Limits.off_digits whole part

abbrev pub IsNumber : List ℕ → Type 0
IsNumber text = (minus : Bool) × (m : ℕ) × Millionths text minus m

-- s steps, of which 64 make a millimetre, are m millionths
abbrev pub Exact : ℕ → ℕ → Type 0
Exact m s = s * millionth ≡ m * Limits.steps

-- 26: "other bad text"
abbrev pub NotNumber : List ℕ → Type 0
NotNumber text = IsNumber text → ⊥

-- 17: "an inexact number of steps"
abbrev pub Inexact : List ℕ → Type 0
Inexact text = (minus : Bool) × (m : ℕ) × Millionths text minus m × ((s : ℕ) → Exact m s → ⊥)

-- 18: "beyond range": more steps, below zero or above it, than a shape's corner may have
abbrev pub Beyond : List ℕ → Type 0
Beyond text = (minus : Bool) × (m : ℕ) × Millionths text minus m × (Limits.shape_reach * millionth < m * Limits.steps)

-- the number in steps: exactly z, which is below zero where there is a minus (and -0 is 0)
pub record InSteps (text : List ℕ) (z : ℤ) : Type 0 where
  pub minus : Bool
  pub millionths : ℕ
  pub is : Millionths text minus millionths
  pub steps : ℕ
  pub exact : Exact millionths steps
  pub value : z ≡ with_sign minus steps

-- the refusals of one word, in the request's own order: 26, 17, 18
abbrev pub word_refusals : List ℕ → List Rule
word_refusals word = Limits.bad_text when NotNumber word ∷ Limits.not_whole when Inexact word ∷ Limits.float_range when Beyond word ∷ []

-- 0 and the steps, or the number of the refusal and 0
pub record NumberRead : Type 0 where
  pub number : ℕ
  pub steps : ℤ

-- "For any answer that is an enum, a definition gives this paper's number and values for each case." (document 01)
abbrev pub number_read_of : Result ℤ Refusal → NumberRead
number_read_of (Ok z) = record { number = Limits.done; steps = z }
number_read_of (Err r) = record { number = number_of r; steps = pos 0 }

-- the answer to a word: the first refusal that applies; where none does, the steps; else "Every other value in the answer is zero" (document 01)
pub record NumberReadAs (word : List ℕ) (r : NumberRead) : Type 0 where
  pub number : Lowest (word_refusals word) r.number
  pub steps : r.number ≡ Limits.done → InSteps word r.steps
  pub zeros : (r.number ≡ Limits.done → ⊥) → r.steps ≡ pos 0

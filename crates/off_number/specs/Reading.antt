-- How a number of an OFF text is read: the digits at the start, what stands after them, and what stands after the point; the sign last.
-- The helpers of src/lib.rt are held to these; ReadingLaws turns them into what OffNumber promises.
use Rattle.std.specs.Prelude.{ℕ, ◌*◌, ◌≤◌, ◌<◌, min, ◌≡◌, List, [], ◌∷◌, Result, Ok, Err, length, drop}
use Rattle.limits.specs.Limits
use Rattle.limits.specs.Lowest.{Lowest, ◌when◌}
use Rattle.limits.specs.Refusals.{number_of}
use Rattle.limits.specs.declared.Refusal.{Refusal}
use Rattle.text_digits.specs.Decimal.{Decimal, number, value_in, cut}
use Rattle.text_digits.specs.DecimalLaws.{leading}
use Rattle.off_number.specs.OffNumber.{Point, millionth, Exact}

-- a number with no sign, and its value in millionths
pub record Plain (text : List ℕ) (m : ℕ) : Type 0 where
  pub whole : List ℕ
  pub part : List ℕ
  pub decimal : Decimal Point text whole part
  pub few : length part ≤ Limits.off_digits
  pub value : m ≡ value_in Limits.off_digits whole part

abbrev pub InexactAt : ℕ → Type 0
InexactAt m = (s : ℕ) → Exact m s → ⊥

abbrev pub BeyondAt : ℕ → Type 0
BeyondAt m = Limits.shape_reach * millionth < m * Limits.steps

-- 0 and the steps of a number with no sign, or the number of the refusal and 0
pub record Counted : Type 0 where
  pub number : ℕ
  pub steps : ℕ

abbrev pub counted_of : Result ℕ Refusal → Counted
counted_of (Ok s) = record { number = Limits.done; steps = s }
counted_of (Err r) = record { number = number_of r; steps = 0 }

-- the answer to so many millionths
pub record JudgedAs (m : ℕ) (r : Counted) : Type 0 where
  pub number : Lowest (Limits.not_whole when InexactAt m ∷ Limits.float_range when BeyondAt m ∷ []) r.number
  pub steps : r.number ≡ Limits.done → Exact m r.steps
  pub zeros : (r.number ≡ Limits.done → ⊥) → r.steps ≡ 0
  pub most : r.steps ≤ Limits.shape_reach

abbrev pub no_number : Counted
no_number = record { number = Limits.bad_text; steps = 0 }

-- the answer to a text with no sign
pub data PlainAs (text : List ℕ) (r : Counted) : Type 0 where
  bad : ((m : ℕ) → Plain text m → ⊥) → r ≡ no_number → PlainAs text r
  judged : (m : ℕ) → Plain text m → JudgedAs m r → PlainAs text r

-- the digits that a text starts with, at least one, have been read: `whole` is the number that they name, cut
pub record Begun (text : List ℕ) (whole : ℕ) : Type 0 where
  pub some : 1 ≤ length (leading text)
  pub value : whole ≡ min (number (leading text)) cut

-- and they end at a place
pub record BegunTo (text : List ℕ) (at whole : ℕ) : Type 0 where
  pub begun : Begun text whole
  pub place : at ≡ length (leading text)

-- and behind them stands a point, and the place behind it
pub record Pointed (text : List ℕ) (at whole : ℕ) : Type 0 where
  pub begun : Begun text whole
  pub within : at ≤ length text
  pub point : drop (length (leading text)) text ≡ 46 ∷ drop at text

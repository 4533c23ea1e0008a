-- Reading an OFF text into corners (document 02, W7): the refusals in the request's own order, and what may be answered and left in lent room.
-- The layout itself stands in crates/off_text/specs/Off.antt, what a number is in crates/off_number/specs/OffNumber.antt. No laws stand here.
use Rattle.std.specs.Prelude.{ℕ, ◌*◌, ◌<◌, ◌≡◌, List, [], ◌∷◌, ◌++◌, ℤ, pos, Result, Ok, Err, length, drop, get_or}
use Rattle.limits.specs.Limits
use Rattle.limits.specs.Lowest.{Rule, Lowest, ◌when◌}
use Rattle.limits.specs.Refusals.{number_of}
use Rattle.limits.specs.declared.Refusal.{Refusal}
use Rattle.off_number.specs.OffNumber.{Inexact, Beyond, InSteps}
use Rattle.off_text.specs.Off.{CommaOutside, IsOff, word_at, AnyWord, corner_count, after_counts}

-- how many numbers the corners have, three each: the first words after the counts
abbrev pub corner_numbers : List ℕ → ℕ
corner_numbers text = 3 * corner_count text

-- "a comma is refused by name (25), other bad text is 26, an inexact number of steps 17, beyond range 18, no corners 22, corner count beyond the limit 23.
-- 25 is tested first over all text outside comments, then 26, 17, 18, 22, 23, and 13 for short room."
abbrev pub off_refusals : List ℕ → List ℤ → List Rule
off_refusals text room =
    Limits.comma_refused when CommaOutside text
    ∷ Limits.bad_text when (IsOff text → ⊥)
    ∷ Limits.not_whole when AnyWord Inexact (corner_numbers text) (after_counts text)
    ∷ Limits.float_range when AnyWord Beyond (corner_numbers text) (after_counts text)
    ∷ Limits.count_zero when (corner_count text ≡ 0)
    ∷ Limits.many_corners when (Limits.corners < corner_count text)
    ∷ Limits.short_room when (length room < corner_numbers text)
    ∷ []

-- what is written: these words in steps, in their order, and "the room past what is written keeps its value" (W2, "Here and in W7")
pub record WordsWritten (words : List (List ℕ)) (n : ℕ) (before after : List ℤ) : Type 0 where
  pub values : List ℤ
  pub long : length values ≡ n
  pub steps : (k : ℕ) → k < n → InSteps (word_at words k) (get_or values k (pos 0))
  pub room : after ≡ values ++ drop n before

-- 0 and how many numbers were written, or the number of the refusal and 0
pub record OffRead : Type 0 where
  pub number : ℕ
  pub count : ℕ

-- "For any answer that is an enum, a definition gives this paper's number and values for each case." (document 01)
abbrev pub off_read_of : Result ℕ Refusal → OffRead
off_read_of (Ok n) = record { number = Limits.done; count = n }
off_read_of (Err r) = record { number = number_of r; count = 0 }

-- what reading a text may answer and leave
pub record OffReadAs (text : List ℕ) (before after : List ℤ) (r : OffRead) : Type 0 where
  pub number : Lowest (off_refusals text before) r.number
  pub layout : r.number ≡ Limits.done → IsOff text
  pub written : r.number ≡ Limits.done → WordsWritten (after_counts text) (corner_numbers text) before after × (r.count ≡ corner_numbers text)
  pub stays : (r.number ≡ Limits.done → ⊥) → (after ≡ before) × (r.count ≡ 0)

-- What the two passes over a text give, part by part: the counts, the corners' numbers, the faces behind them, and the room filled.
-- The contract of `corners` cites nothing of this file.
use Rattle.std.specs.Prelude.{ℕ, ◌*◌, ◌<◌, ◌≡◌, List, [], ◌∷◌, ℤ, Option, Result, MatchOption, IfOk, length, drop}
use Rattle.limits.specs.Limits
use Rattle.limits.specs.Lowest.{Rule, Lowest, ◌when◌}
use Rattle.limits.specs.Refusals.{answer_number}
use Rattle.limits.specs.declared.Refusal.{Refusal}
use Rattle.text_digits.specs.Decimal.{number}
use Rattle.off_number.specs.OffNumber.{IsNumber, Inexact, Beyond, word_refusals}
use Rattle.off_text.specs.Off.{words_in, word_at, EachWord, AnyWord, IsCount, Names, Faces, IsOff, corner_count, after_counts}
use Rattle.off_read.specs.Corners.{corner_numbers, WordsWritten, OffRead}
use Rattle.off_read.specs.declared.Head.{Head}
use Rattle.off_read.specs.declared.Layout.{Layout}

-- ---- the counts: two below a bound, and a third
pub record Counts (bound : ℕ) (words : List (List ℕ)) : Type 0 where
  pub corners : Names bound (word_at words 0)
  pub faces : Names bound (word_at words 1)
  pub edges : IsCount (word_at words 2)

-- s is what is left of the text behind the counts
pub record HeadRead (bound : ℕ) (words : List (List ℕ)) (r : Head) (s : List ℕ) : Type 0 where
  pub counts : Counts bound words
  pub corners : r.corners ≡ number (word_at words 0)
  pub faces : r.faces ≡ number (word_at words 1)
  pub rest : words_in s ≡ drop 3 words

abbrev pub HeadAs : ℕ → List (List ℕ) → Option Head → List ℕ → Type 0
HeadAs bound words r s = MatchOption r (Counts bound words → ⊥) (λ h. HeadRead bound words h s)

-- ---- the corners' numbers
-- of n words that are numbers: the first refusal, 17 before 18, and that none is refused where there is none
abbrev pub number_refusals : ℕ → List (List ℕ) → List Rule
number_refusals n words = Limits.not_whole when AnyWord Inexact n words ∷ Limits.float_range when AnyWord Beyond n words ∷ []

abbrev pub Taken : List ℕ → Type 0
Taken word = Lowest (word_refusals word) Limits.done

pub record NumbersJudged (n : ℕ) (words : List (List ℕ)) (k : ℕ) : Type 0 where
  pub numbers : EachWord IsNumber n words
  pub lowest : Lowest (number_refusals n words) k
  pub taken : k ≡ Limits.done → EachWord Taken n words

pub record NumbersAs (n : ℕ) (words : List (List ℕ)) (k : ℕ) (s : List ℕ) : Type 0 where
  pub bad : k ≡ Limits.bad_text → EachWord IsNumber n words → ⊥
  pub good : (k ≡ Limits.bad_text → ⊥) → NumbersJudged n words k × (words_in s ≡ drop n words)

-- ---- the numbers, and the faces behind them
pub record Body (corners faces : ℕ) (words : List (List ℕ)) : Type 0 where
  pub numbers : EachWord IsNumber (3 * corners) words
  pub indices : Faces corners faces (drop (3 * corners) words)

pub record BodyAs (corners faces : ℕ) (words : List (List ℕ)) (r : ℕ) : Type 0 where
  pub bad : r ≡ Limits.bad_text → Body corners faces words → ⊥
  pub good : (r ≡ Limits.bad_text → ⊥) → Body corners faces words × NumbersJudged (3 * corners) words r

-- ---- the whole text: 26, or the numbers' own refusal, or how many corners there are, and what is left of the text from their numbers on
pub record TextJudged (text : List ℕ) (k : ℕ) : Type 0 where
  pub off : IsOff text
  pub judged : NumbersJudged (corner_numbers text) (after_counts text) k

pub record LayoutRead (text : List ℕ) (r : Layout) : Type 0 where
  pub corners : r.corners ≡ corner_count text
  pub words : words_in r.numbers.now ≡ after_counts text

pub record LayoutAs (text : List ℕ) (r : Result Layout Refusal) : Type 0 where
  pub bad : answer_number r ≡ Limits.bad_text → IsOff text → ⊥
  pub good : (answer_number r ≡ Limits.bad_text → ⊥) → TextJudged text (answer_number r)
  pub read : IfOk r (LayoutRead text)

-- ---- the room: refused by the count of corners or the room's length, or filled
abbrev pub room_refusals : ℕ → List ℤ → List Rule
room_refusals corners room =
    Limits.count_zero when (corners ≡ 0) ∷ Limits.many_corners when (Limits.corners < corners) ∷ Limits.short_room when (length room < 3 * corners) ∷ []

pub record FillsAs (corners : ℕ) (words : List (List ℕ)) (before after : List ℤ) (r : OffRead) : Type 0 where
  pub number : Lowest (room_refusals corners before) r.number
  pub written : r.number ≡ Limits.done → WordsWritten words (3 * corners) before after × (r.count ≡ 3 * corners)
  pub stays : (r.number ≡ Limits.done → ⊥) → (after ≡ before) × (r.count ≡ 0)

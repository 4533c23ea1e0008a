-- Numbers as words: "an optional minus and 1 to 10 digits" that "fits 32 bits signed".
-- `Reads word r` is all that is promised of the answer r to a word.
use Rattle.std.specs.Prelude.{ℕ, ◌≤◌, ◌≡◌, List, ◌∷◌, length, ℤ, pos, neg_ℤ, Option, Some, None}
use Rattle.ints.specs.Bounds.{In}
use Rattle.text_digits.specs.Decimal.{Digits, number}

-- "1 to 10 digits"
pub record Figures (word : List ℕ) : Type 0 where
  pub digits : Digits word
  pub some : 1 ≤ length word
  pub few : length word ≤ 10

-- the whole number that a word names; 45 is the minus
pub data Spells (word : List ℕ) (v : ℤ) : Type 0 where
  plain : Figures word → v ≡ pos (number word) → Spells word v
  minus : (figures : List ℕ) → word ≡ 45 ∷ figures → Figures figures → v ≡ neg_ℤ (pos (number figures)) → Spells word v

-- "fits 32 bits signed"
abbrev pub Fits : ℤ → Type 0
Fits = In 2147483648 2147483647

-- the number that the word names and that fits, or that there is none
abbrev pub Reads : List ℕ → Option ℤ → Type 0
Reads word (Some v) = Spells word v × Fits v
Reads word None = (v : ℤ) → Spells word v → Fits v → ⊥

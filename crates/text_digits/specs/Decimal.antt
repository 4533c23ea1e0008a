-- Decimal numbers as text: what a digit is, the number that digits name, and "digits, then nothing, or a separator and digits".
-- It knows nothing of lengths: whoever reads numbers states its own separators and how many digits it takes.
use Rattle.std.specs.Prelude.{ℕ, ◌≤◌, ◌+◌, ◌-◌, ◌*◌, ◌^◌, ◌≡◌, List, [], ◌∷◌, ◌++◌, length}

-- a digit is one of the bytes from 48, "0", to 57, "9"
pub record Digit (b : ℕ) : Type 0 where
  pub low : 48 ≤ b
  pub high : b ≤ 57

-- digits and nothing else
abbrev pub Digits : List ℕ → Type 0
Digits [] = Unit {0}
Digits (d ∷ ds) = Digit d × Digits ds

-- the number that digits name: each weighs ten times as much as the one after it
unfoldable pub number : List ℕ → ℕ
number [] = 0
number (d ∷ ds) = (d - 48) * 10 ^ length ds + number ds

-- what stands after the whole digits: nothing, or one separator and the digits of the part, at least one
abbrev pub Follows : (ℕ → Type 0) → List ℕ → List ℕ → Type 0
Follows Separator [] part = part ≡ []
Follows Separator (c ∷ rest) part = Separator c × (rest ≡ part) × (1 ≤ length part)

-- the text is a decimal number: the digits `whole`, at least one, then nothing, or one separator and the digits `part`
pub record Decimal (Separator : ℕ → Type 0) (text whole part : List ℕ) : Type 0 where
  pub whole_digits : Digits whole
  pub whole_some : 1 ≤ length whole
  pub rest : List ℕ
  pub split : text ≡ whole ++ rest
  pub follows : Follows Separator rest part
  pub part_digits : Digits part

-- its value, in units of which 10 ^ places make one: the first digit of the part is worth 10 ^ (places - 1) of them
abbrev pub value_in : ℕ → List ℕ → List ℕ → ℕ
value_in places whole part = number whole * 10 ^ places + number part * 10 ^ (places - length part)

-- where a number that is read stops growing, far above those of a typed length or of a corner, and above what six digits name
abbrev pub cut : ℕ
cut = 1000000

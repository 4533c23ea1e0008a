-- How a number is read: its digits without the sign first, then the sign.
-- The helper of src/lib.rt is held to this; NumberLaws turns it into what Numbers promises.
use Rattle.std.specs.Prelude.{ℕ, ◌≡◌, List, ℤ, pos, Option, Some, None}
use Rattle.text_digits.specs.Decimal.{number}
use Rattle.text_number.specs.Numbers.{Figures}

-- the number that the digits name, or none where the word is not 1 to 10 digits
abbrev pub Magnitude : List ℕ → Option ℤ → Type 0
Magnitude word (Some m) = Figures word × (m ≡ pos (number word))
Magnitude word None = Figures word → ⊥

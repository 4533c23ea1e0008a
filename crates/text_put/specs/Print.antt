-- What is printed: a text put into lent room at a place, and a number's digits.
-- `Put`, `PutNumber` and `PutHex` are all that is promised of the room afterwards and of the place handed back.
use Rattle.std.specs.Prelude.{ℕ, zero, suc, ◌≤◌, ◌<◌, ◌+◌, ◌/◌, min, max, ◌≡◌, cond, List, ◌∷◌, ◌++◌, ltb, length, take, drop, ℤ, pos, negsuc, nat_abs}
use Rattle.io.specs.Digits.{last_digits, IsDigitCount}

-- the room with a text at a place
abbrev pub with_at : List ℕ → ℕ → List ℕ → List ℕ
with_at room at text = take at room ++ text ++ drop (at + length text) room

-- all of the text stands in the room from `at` on and r is the place after it; or the room is too short and nothing is put
pub record Put (room : List ℕ) (at : ℕ) (text exit : List ℕ) (r : ℕ) : Type 0 where
  pub there : at + length text ≤ length room → (exit ≡ with_at room at text) × (r ≡ at + length text)
  pub refused : length room < at + length text → (exit ≡ room) × (r ≡ at)

-- what stands in the room before r is what stood there before `at`, and the text behind it: all that matters of a room of our own, in which a text grows
pub record Extends (room : List ℕ) (at : ℕ) (text exit : List ℕ) (r : ℕ) : Type 0 where
  pub start : take r exit ≡ take at room ++ text
  pub place : r ≡ at + length text
  pub size : length exit ≡ length room

-- the digits of a number: as few as hold it, but no fewer than `least`
pub record Written (base least n : ℕ) (text : List ℕ) : Type 0 where
  pub count : ℕ
  pub fewest : IsDigitCount base least n count
  pub is : text ≡ last_digits base count n

-- how many digits hold n, and those digits: `width_in` is given n itself for the times that n may be divided by ten
abbrev pub width_in : ℕ → ℕ → ℕ
width_in zero n = 1
width_in (suc times) n = cond (ltb n 10) 1 (suc (width_in times (n / 10)))

unfoldable pub digits_of : ℕ → List ℕ
digits_of n = last_digits 10 (width_in n n) n

-- "numbers in decimal": a minus, 45, stands before the digits of a number below zero
abbrev pub signed : ℤ → List ℕ → List ℕ
signed (pos n) text = text
signed (negsuc n) text = 45 ∷ text

abbrev pub PutNumber : List ℕ → ℕ → ℤ → List ℕ → ℕ → Type 0
PutNumber room at n exit r = (text : List ℕ) × Written 10 1 (nat_abs n) text × Put room at (signed n text) exit r

-- "hex in small letters", `width` digits, and more only where the number needs them
abbrev pub PutHex : List ℕ → ℕ → ℕ → ℕ → List ℕ → ℕ → Type 0
PutHex room at n width exit r = (text : List ℕ) × Written 16 (min (max width 1) 16) n text × Put room at text exit r

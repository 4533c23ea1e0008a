-- The order of rows by masks: a byte for each place, 0 where it is taken and 255 else, so that a cell is tested by bits alone.
-- A mask from n on shuts the places below n too: with them a line tests that only the higher place of a pair comes second.
use Rattle.std.specs.Prelude.{ℕ, ◌-◌, ◌≤◌, ◌<◌, ◌≡◌, List, ◌⊎◌, ℤ, length, get_or}
use Rattle.std.specs.Int.Bits.{bit_and, bit_or, bit_xor}
use Rattle.limits.specs.Limits
use Rattle.pieces.specs.Pieces.{Taken}
use Rattle.rows.specs.Rows.{cell, Verdict}

abbrev pub MaskByte : ℕ → Type 0
MaskByte m = (m ≡ 0) ⊎ (m ≡ Limits.no_row)

-- the byte of one place, and those of all
pub record MaskOf (places : List ℤ) (p m : ℕ) : Type 0 where
  pub taken : Taken places p → m ≡ 0
  pub empty : (Taken places p → ⊥) → m ≡ Limits.no_row

pub record MaskFrom (places : List ℤ) (n : ℕ) (mask : List ℕ) : Type 0 where
  pub size : length mask ≡ Limits.places
  pub passed : (i : ℕ) → i < n → get_or mask i 0 ≡ Limits.no_row
  pub each : (i : ℕ) → n ≤ i → i < Limits.places → MaskOf places i (get_or mask i 0)

-- what a cell may hold under a mask
pub record Masked (m v : ℕ) : Type 0 where
  pub pair : m ≡ 0 → Verdict v
  pub other : (m ≡ 0 → ⊥) → v ≡ Limits.no_row

-- the bits of a cell that are wrong under a mask: those that no verdict has, or those that NO_ROW has not
abbrev pub wrong_bits : ℕ → ℕ → ℕ
wrong_bits v m = bit_and (bit_xor v m) (bit_or m (Limits.no_row - Limits.penetrating))

-- the first n cells of a line, each under its own place's byte and the byte of the line's place
abbrev pub LineMasked : List ℕ → ℕ → ℕ → List ℕ → ℕ → Type 0
LineMasked mask own low rows n = (high : ℕ) → high < n → Masked (bit_or (get_or mask high 0) own) (get_or rows (cell low high) 0)

-- What stands behind the point, for each of the 64 numbers of steps below a millimetre: how many digits, and the rules of the part (`PartIs`).
-- That each number has them is proved in proofs/PartLaws.
use Rattle.std.specs.Prelude.{ℕ, ◌≤◌, ◌+◌, ◌-◌, ◌*◌, ◌%◌, ◌^◌, min, ◌≡◌, ◌∷◌, length, take, set}
use Rattle.io.specs.Digits.{last_digits}
use Rattle.limits.specs.Limits
use Rattle.text_digits.specs.Decimal.{Digits, number}
use Rattle.off_number.specs.OffNumber.{millionth}
use Rattle.off_number.specs.Shortest.{step_millionths, part_of}

-- how many digits stand behind the point of r steps: as many as r has factors of two fewer than 64 has, and none for 0
abbrev pub decimals_of : ℕ → ℕ
decimals_of r = 1 + min (r % 32) 1 + min (r % 16) 1 + min (r % 8) 1 + min (r % 4) 1 + min (r % 2) 1

-- the rules of the part of r steps
pub record PartIs (r : ℕ) : Type 0 where
  pub ds : Digits (part_of r)
  pub few : length (part_of r) ≤ Limits.off_digits
  pub value : number (part_of r) * 10 ^ (Limits.off_digits - length (part_of r)) ≡ r * step_millionths
  -- the last digit is needed: one digit fewer does not hold the value
  pub needed : 1 ≤ length (part_of r) → r * step_millionths % 10 ^ (Limits.off_digits + 1 - length (part_of r)) ≡ 0 → ⊥
  -- and it is found in the digits of a million and the part, behind the first
  pub found : 1 ≤ r → take (1 + decimals_of r) (set (last_digits 10 7 (millionth + r * step_millionths)) 0 46) ≡ 46 ∷ part_of r

-- What is shown: "the millimetres shown are the steps divided by 64, with no rounding and 0 as plus zero, for steps within ±131,072" (document 01).
-- And the bit pattern by which a float is read, or printed.
use Rattle.std.specs.Prelude.{ℕ, ◌<◌, ◌≡◌, false, [], ◌∷◌, T, ℤ, pos, nat_abs, Float, Result, Ok, Err}
use Rattle.std.specs.Float.{fin, binary32}
use Rattle.std.specs.Float.Ieee.{fits, to_bits, of_bits}
use Rattle.limits.specs.Limits
use Rattle.limits.specs.Lowest.{Lowest, ◌when◌}
use Rattle.limits.specs.Refusals.{number_of}
use Rattle.limits.specs.declared.Refusal.{Refusal}
use Rattle.scans.specs.Floats.{InSteps}

abbrev pub plus_zero : Float
plus_zero = fin false 0 (pos 0)

-- what steps give: 0 and the millimetres to show, or the number of the refusal and plus zero
pub record Millimetres : Type 0 where
  pub number : ℕ
  pub value : Float

abbrev pub millimetres_of : Result Float Refusal → Millimetres
millimetres_of (Ok x) = record { number = Limits.done; value = x }
millimetres_of (Err r) = record { number = number_of r; value = plus_zero }

-- what the steps z may give: a float of binary32 whose value times 64 is z exactly, or refusal 20, "steps to show, beyond ±131,072"
pub record ShownAs (z : ℤ) (r : Millimetres) : Type 0 where
  pub number : Lowest (Limits.placed_range when (Limits.placed_reach < nat_abs z) ∷ []) r.number
  pub held : T (fits binary32 r.value)
  pub exact : r.number ≡ Limits.done → InSteps r.value z
  pub plus : z ≡ pos 0 → r.value ≡ plus_zero
  pub zero : (r.number ≡ Limits.done → ⊥) → r.value ≡ plus_zero

-- the pattern n is the float x's: the one that the logic writes, and the float that it is read as
pub record PatternOf (x : Float) (n : ℕ) : Type 0 where
  pub written : n ≡ to_bits binary32 x
  pub read : of_bits binary32 n ≡ x

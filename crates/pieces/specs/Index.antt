-- A signed number as an index: itself where it is one of 0 to n − 1.
-- Where it is not, it has none.
use Rattle.std.specs.Prelude.{◌≡◌, ℕ, ℤ, nat_abs, Option, Some, None}
use Rattle.limits.specs.Numbered.{Numbered}

abbrev pub Indexed : ℕ → ℤ → Option ℕ → Type 0
Indexed n z (Some i) = Numbered n z × (i ≡ nat_abs z)
Indexed n z None = Numbered n z → ⊥

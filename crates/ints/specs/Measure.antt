-- A natural number that falls: the floor of S² h / s, where h / s falls and s stays from 1 to S.
-- It is the measure of a walk whose fractions h / s only ever get smaller.
use Rattle.std.specs.Prelude.{ℕ, ◌*◌, ◌/◌, ℤ, nat_abs}

unfoldable pub measure : ℕ → ℤ → ℤ → ℕ
measure S h s = S * S * nat_abs h / nat_abs s

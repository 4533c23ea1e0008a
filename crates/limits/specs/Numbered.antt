-- A number that arrives is a shape's, a place's or a turn's: "not 0 to 31" is said of −1 as well as of 32.
-- Numbers arrive signed, and so do the cells of the lent arrays.
use Rattle.std.specs.Prelude.{◌≡◌, ℕ, ◌<◌, ℤ, pos, nat_abs}

-- one of 0 to n − 1
pub record Numbered (n : ℕ) (z : ℤ) : Type 0 where
  pub natural : z ≡ pos (nat_abs z)
  pub below : nat_abs z < n

-- Corner lists as they are handed in: how long one must be, and how far its numbers may reach.
-- Document 01: "a corner list's length isn't 3 × (1 to 32)" (to 64 since W4), "a shape's corner number is beyond ±65,536", "a placed corner of a lent list .. beyond ±131,072".
use Rattle.std.specs.Prelude.{◌≡◌, ℕ, ◌*◌, ◌≤◌, ◌<◌, length, get_or, ℤ, pos, nat_abs, ◌≤ℤ◌}
use Rattle.ints.specs.Bounds.{Within}
use Rattle.limits.specs.Limits.{corners, placed_reach}
use Rattle.space.specs.Verdicts.{Piece}

-- n numbers are a corner list: three for each of 1 to 64 corners
pub record LengthFits (n : ℕ) : Type 0 where
  pub count : ℕ
  pub least : 1 ≤ count
  pub most : count ≤ corners
  pub is : n ≡ 3 * count

-- no number of the list is beyond ±reach
pub record InReach (reach : ℕ) (s : Piece) : Type 0 where
  pub all : (k : ℕ) → k < length s → Within reach (get_or s k (pos 0))

-- |z| ≤ reach, for a reach of either sign: where it is below zero, no number is near
pub record IsNear (reach z : ℤ) : Type 0 where
  pub abs : pos (nat_abs z) ≤ℤ reach

-- every number of the list is near
pub record AllNear (reach : ℤ) (s : Piece) : Type 0 where
  pub all : (k : ℕ) → k < length s → IsNear reach (get_or s k (pos 0))

-- a list of placed corners that no refusal meets
pub record Placed (s : Piece) : Type 0 where
  pub fits : LengthFits (length s)
  pub near : InReach placed_reach s

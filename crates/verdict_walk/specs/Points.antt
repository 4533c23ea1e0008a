-- The set that the walk sees: a − b + σ∘g, over the corners a of the first piece and b of the second and all signs σ, each named by a corner of the cube.
-- g is the half-widths of a box: the gap's cube where there is a gap; with none 0 in general, and 1 along the axes that complete its span where the set is flat.
use Rattle.std.specs.Prelude.{◌≡◌, ◌⊎◌, ℕ, zero, suc, ◌+◌, ◌*◌, ◌/◌, ◌%◌, ◌<◌, ℤ, pos, negsuc, ◌*ℤ◌, ◌≤ℤ◌}
use Rattle.ints.specs.Bounds.{Within}
use Rattle.limits.specs.Limits.{gap_most}
use Rattle.space.specs.declared.Vec3.{Vec3}
use Rattle.space.specs.Vectors.{dot, minus, plus}
use Rattle.space.specs.Ranges.{Upto}
use Rattle.space.specs.Verdicts.{Piece, corner_count, corner_at, cube_corners}
use Rattle.verdict_portal.specs.Flat.{had, vec}
use Rattle.verdict_portal.specs.Exits.{Support}
use Rattle.verdict_walk.specs.declared.support.Difference.{Difference}

-- ---- σ by the number of a cube corner: the sign of x by 4, of y by 2, of z by 1
abbrev pub sign_at : ℕ → ℤ
sign_at zero = negsuc 0
sign_at (suc k) = pos 1

abbrev pub cube_signs : ℕ → Vec3
cube_signs c = vec (sign_at (c / 4 % 2)) (sign_at (c / 2 % 2)) (sign_at (c % 2))

-- the cube corner that lies farthest along a vector: a coordinate that is not negative takes the upper side
abbrev pub bit_of : ℤ → ℕ
bit_of (pos n) = 1
bit_of (negsuc n) = 0

abbrev pub cube_of : Vec3 → ℕ
cube_of v = 4 * bit_of v.x + 2 * bit_of v.y + bit_of v.z

-- y is a − b + σ∘g
pub record Spread (A B : Piece) (g y : Vec3) : Type 0 where
  pub first : ℕ
  pub cube : ℕ
  pub second : ℕ
  pub of_first : first < corner_count A
  pub of_cube : cube < cube_corners
  pub of_second : second < corner_count B
  pub is : y ≡ plus (minus (corner_at A first) (corner_at B second)) (had (cube_signs cube) g)

-- the same of a point that carries its corners' numbers
pub record Tagged (A B : Piece) (g : Vec3) (p : Difference) : Type 0 where
  pub of_first : p.first < corner_count A
  pub of_cube : p.cube < cube_corners
  pub of_second : p.second < corner_count B
  pub is : p.at ≡ plus (minus (corner_at A p.first) (corner_at B p.second)) (had (cube_signs p.cube) g)

-- the box's half-widths: not negative, and no more than the widest gap
pub record Box (g : Vec3) : Type 0 where
  pub nn_x : pos 0 ≤ℤ g.x
  pub nn_y : pos 0 ≤ℤ g.y
  pub nn_z : pos 0 ≤ℤ g.z
  pub most : Upto gap_most g

-- where there is a gap, its cube is the box
abbrev pub cube_widths : ℕ → Vec3
cube_widths gap = vec (pos gap) (pos gap) (pos gap)

abbrev pub BoxOf : ℕ → Vec3 → Type 0
BoxOf gap g = (gap ≡ 0) ⊎ (g ≡ cube_widths gap)

-- ---- the farthest corner along d, from one scan
pub record Farthest (d : Vec3) (s : Piece) (r : ℕ) : Type 0 where
  pub inside : r < corner_count s
  pub most : (k : ℕ) → k < corner_count s → dot d (corner_at s k) ≤ℤ dot d (corner_at s r)

-- ---- g with the sign of n, along one axis and along all three
pub record Signed (n g r : ℤ) : Type 0 where
  pub is : r ≡ sign_at (bit_of n) *ℤ g
  pub most : Within gap_most r

pub record Boxed (n g r : Vec3) : Type 0 where
  pub is : r ≡ had (cube_signs (cube_of n)) g
  pub most : Upto gap_most r

-- ---- a support: the farthest a along n, the farthest b against it, the signs of n
pub record Supports (A B : Piece) (g n : Vec3) (p : Difference) : Type 0 where
  pub tagged : Tagged A B g p
  pub support : Support (Spread A B g) n p.at

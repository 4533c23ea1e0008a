-- The 24 turns as document 01 numbers them, what a turn makes of a corner, and what a rotation is.
-- A turn is three signed axes: 1, 2 or 3 for x, y or z, less than 0 where the coordinate is negated.
use Rattle.std.specs.Prelude.{◌≡◌, Bool, true, cond, ◌&&◌, not, List, [], ◌∷◌, ℕ, ◌/◌, ◌%◌, ◌<◌, eqb, ltb, leb, ℤ, pos, negsuc, neg_ℤ, nat_abs, ◌+ℤ◌, ◌-ℤ◌, ◌*ℤ◌, get_or}
use Rattle.std.specs.Int.Signed.{lt_z}
use Rattle.limits.specs.Limits
use Rattle.ints.specs.Bounds.{Within}
use Rattle.turns.specs.declared.Turn.{Turn}

abbrev pub row : ℤ → ℤ → ℤ → Turn
row a b c = record { x = a; y = b; z = c }

-- "Permutations in order: xyz, yzx, zxy, xzy, zyx, yxz."
abbrev pub xyz : Turn
xyz = row (pos 1) (pos 2) (pos 3)

abbrev pub yzx : Turn
yzx = row (pos 2) (pos 3) (pos 1)

abbrev pub zxy : Turn
zxy = row (pos 3) (pos 1) (pos 2)

abbrev pub xzy : Turn
xzy = row (pos 1) (pos 3) (pos 2)

abbrev pub zyx : Turn
zyx = row (pos 3) (pos 2) (pos 1)

abbrev pub yxz : Turn
yxz = row (pos 2) (pos 1) (pos 3)

abbrev pub permutations : List Turn
permutations = xyz ∷ yzx ∷ zxy ∷ xzy ∷ zyx ∷ yxz ∷ []

-- "The first three take the sign rows +++, +−−, −+−, −−+; the last three take −−−, −++, +−+, ++−."
abbrev pub plus : ℤ
plus = pos 1

abbrev pub minus : ℤ
minus = negsuc 0

abbrev pub first_rows : List Turn
first_rows = row plus plus plus ∷ row plus minus minus ∷ row minus plus minus ∷ row minus minus plus ∷ []

abbrev pub last_rows : List Turn
last_rows = row minus minus minus ∷ row minus plus plus ∷ row plus minus plus ∷ row plus plus minus ∷ []

abbrev pub table_rows : ℕ → List Turn
table_rows permutation = cond (ltb permutation 3) first_rows last_rows

abbrev pub times : Turn → Turn → Turn
times s p = row (s.x *ℤ p.x) (s.y *ℤ p.y) (s.z *ℤ p.z)

abbrev pub none : Turn
none = row (pos 0) (pos 0) (pos 0)

-- "Turn number = 4 × permutation + sign row, both counted from 0."
unfoldable pub turn_of : ℕ → Turn
turn_of turn = times (get_or (table_rows (turn / 4)) (turn % 4) none) (get_or permutations (turn / 4) none)

-- what a turn puts on axis 0, 1 or 2 (any number above is taken for 2)
unfoldable pub signed_axis : ℕ → ℕ → ℤ
signed_axis turn axis = cond (eqb axis 0) (turn_of turn).x (cond (eqb axis 1) (turn_of turn).y (turn_of turn).z)

-- axis 1, 2 or 3, counted from 0
abbrev pub axis_number : ℕ → ℕ
axis_number n = cond (eqb n 1) 0 (cond (eqb n 2) 1 2)

-- the coordinate along axis 1, 2 or 3, and along a signed axis
abbrev pub named_axis : ℕ → ℤ → ℤ → ℤ → ℤ
named_axis n x y z = cond (eqb n 1) x (cond (eqb n 2) y z)

abbrev pub along : ℤ → ℤ → ℤ → ℤ → ℤ
along k x y z = cond (lt_z k (pos 0)) (neg_ℤ (named_axis (nat_abs k) x y z)) (named_axis (nat_abs k) x y z)

-- one coordinate of the turned corner: ""yxz with −++" (turn 21) sends (x, y, z) to (−y, x, z)."
unfoldable pub turned_at : ℕ → ℕ → ℤ → ℤ → ℤ → ℤ
turned_at turn axis x y z = along (signed_axis turn axis) x y z

-- "A placed corner is the turned corner plus the offset"
unfoldable pub placed_at : ℕ → ℕ → ℤ → ℤ → ℤ → ℤ → ℤ
placed_at turn axis x y z offset = turned_at turn axis x y z +ℤ offset

-- "every turn is a rotation": a permutation of the axes with signs, of determinant 1
abbrev pub is_axis : ℤ → Bool
is_axis k = leb 1 (nat_abs k) && leb (nat_abs k) 3

abbrev pub is_permutation : Turn → Bool
is_permutation m =
    is_axis m.x && is_axis m.y && is_axis m.z
    && not (eqb (nat_abs m.x) (nat_abs m.y)) && not (eqb (nat_abs m.x) (nat_abs m.z)) && not (eqb (nat_abs m.y) (nat_abs m.z))

-- the matrix of a turn has a row for each axis, worked out of the unit corners
abbrev pub along_x : ℤ → ℤ
along_x k = along k (pos 1) (pos 0) (pos 0)

abbrev pub along_y : ℤ → ℤ
along_y k = along k (pos 0) (pos 1) (pos 0)

abbrev pub along_z : ℤ → ℤ
along_z k = along k (pos 0) (pos 0) (pos 1)

abbrev pub determinant : Turn → ℤ
determinant m =
    along_x m.x *ℤ (along_y m.y *ℤ along_z m.z -ℤ along_z m.y *ℤ along_y m.z)
    -ℤ along_y m.x *ℤ (along_x m.y *ℤ along_z m.z -ℤ along_z m.y *ℤ along_x m.z)
    +ℤ along_z m.x *ℤ (along_x m.y *ℤ along_y m.z -ℤ along_y m.y *ℤ along_x m.z)

pub record Rotation (m : Turn) : Type 0 where
  pub permutes : is_permutation m ≡ true
  pub keeps_hand : determinant m ≡ pos 1

-- what the kernels ask: a turn, and a corner of a shape
pub record Turnable (turn : ℕ) (x y z : ℤ) : Type 0 where
  pub turn< : turn < Limits.turns
  pub x_within : Within Limits.shape_reach x
  pub y_within : Within Limits.shape_reach y
  pub z_within : Within Limits.shape_reach z

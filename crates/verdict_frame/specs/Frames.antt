-- The frame of a difference: three points of it that are independent, with a box where a gap widens it, or where it is flat.
-- With no gap r = 3: nowhere flat, no box; r = 2: in a plane; r = 1: on a line; r = 0: at the origin. F1 to F4 of the walk's proof.
use Rattle.std.specs.Prelude.{◌≡◌, Option, Some, None, Bool, true, false, ◌⊎◌, ℕ, ◌-◌, ◌<◌, ltb, ℤ, pos, negsuc, ◌-ℤ◌, ◌≤ℤ◌, ◌<ℤ◌}
use Rattle.space.specs.declared.Vec3.{Vec3}
use Rattle.space.specs.declared.Axis.{Axis}
use Rattle.space.specs.declared.Axis.TheVariants.{X, Y, Z}
use Rattle.space.specs.Vectors.{dot, cross, minus, plus, det, origin, opposite, unit, next_axis, coordinate}
use Rattle.space.specs.Ranges.{Upto, point_reach, normal_reach}
use Rattle.space.specs.Verdicts.{Piece, corner_count, corner_at, cube_corners, widened_at}
use Rattle.verdict_portal.specs.declared.Three.{Three}
use Rattle.verdict_portal.specs.Flat.{had, vec, ones, Drops, line_row}
use Rattle.verdict_walk.specs.declared.support.Difference.{Difference}
use Rattle.verdict_frame.specs.declared.frame.Frame.{Frame}
use Rattle.verdict_walk.specs.Points.{cube_signs, cube_of, Tagged, Box, cube_widths, BoxOf, Signed}

-- ---- a difference of two corners, with their numbers
abbrev pub difference_at : Piece → Piece → ℕ → ℕ → Difference
difference_at A B i j = record { at = minus (corner_at A i) (corner_at B j); first = i; cube = 0; second = j }

-- ---- level with three rows
pub record Level (rows : Three Vec3) (y : Vec3) : Type 0 where
  pub one : dot rows.a y ≡ pos 0
  pub two : dot rows.b y ≡ pos 0
  pub three : dot rows.c y ≡ pos 0

-- rows that a dot with a point fits
pub record Rows (rows : Three Vec3) : Type 0 where
  pub one : Upto normal_reach rows.a
  pub two : Upto normal_reach rows.b
  pub three : Upto normal_reach rows.c

-- ---- the scan: every a − b₀, then every a₀ − b
abbrev pub pick_left : Bool → ℕ → ℕ
pick_left true k = k
pick_left false k = 0

abbrev pub pick_right : Bool → ℕ → ℕ → ℕ
pick_right true k m = 0
pick_right false k m = k - m

abbrev pub left_at : ℕ → ℕ → ℕ
left_at k m = pick_left (ltb k m) k

abbrev pub right_at : ℕ → ℕ → ℕ
right_at k m = pick_right (ltb k m) k m

abbrev pub scanned : Piece → Piece → ℕ → Vec3
scanned A B k = minus (corner_at A (left_at k (corner_count A))) (corner_at B (right_at k (corner_count A)))

-- every difference is level
pub record AllLevel (rows : Three Vec3) (A B : Piece) : Type 0 where
  pub all : (i j : ℕ) → i < corner_count A → j < corner_count B → Level rows (minus (corner_at A i) (corner_at B j))

-- what the scan hands back: a difference that is not level, or none where all are
pub record NotLevel (rows : Three Vec3) (A B : Piece) (p : Difference) : Type 0 where
  pub tagged : Tagged A B origin p
  pub apart : Level rows p.at → ⊥

abbrev pub Sought : Three Vec3 → Piece → Piece → Option Difference → Type 0
Sought rows A B None = AllLevel rows A B
Sought rows A B (Some p) = NotLevel rows A B p

-- the k-th look of the scan is at a difference of the two lists
pub record ScannedAt (A B : Piece) (k : ℕ) (p : Difference) : Type 0 where
  pub tagged : Tagged A B origin p
  pub near : Upto point_reach p.at
  pub is : p.at ≡ scanned A B k

-- ---- what a frame is to say
-- every point drops by one linear map to its base, the difference of the widened first piece that it stands for
pub record Dropping (gap : ℕ) (A B : Piece) (g : Vec3) : Type 0 where
  pub k : ℤ
  pub r1 : Vec3
  pub r2 : Vec3
  pub r3 : Vec3
  pub nonzero : k ≡ pos 0 → ⊥
  pub drop : (i c j : ℕ) → i < corner_count A → c < cube_corners → j < corner_count B
      → Drops k r1 r2 r3 (plus (minus (corner_at A i) (corner_at B j)) (had (cube_signs c) g)) (minus (widened_at gap A i c) (corner_at B j))

pub record Framed (gap : ℕ) (A B : Piece) (r : Frame) : Type 0 where
  pub ofa : Tagged A B r.widths r.a
  pub ofb : Tagged A B r.widths r.b
  pub ofc : Tagged A B r.widths r.c
  pub free : det r.a.at r.b.at r.c.at ≡ pos 0 → ⊥
  pub box : Box r.widths
  pub of_gap : BoxOf gap r.widths
  pub dropping : Dropping gap A B r.widths

-- ---- what is thick
abbrev pub thick_of : Difference → Vec3 → Difference
thick_of p w = record { at = plus p.at w; first = p.first; cube = cube_of w; second = p.second }

-- ---- with a gap: three corners of its cube about p, on the side away from the origin's height
abbrev pub gap_frame : ℕ → Difference → ℤ → Frame
gap_frame gap p away = record {
  widths = cube_widths gap;
  a = thick_of p (vec (pos gap) (pos gap) away);
  b = thick_of p (vec (pos 0 -ℤ pos gap) (pos gap) away);
  c = thick_of p (vec (pos gap) (pos 0 -ℤ pos gap) away);
}

pub record Widened (gap : ℕ) (p : Difference) (r : Frame) : Type 0 where
  pub away : ℤ
  pub of : Signed p.at.z (pos gap) away
  pub is : r ≡ gap_frame gap p away

-- ---- r = 3: nowhere flat
abbrev pub solid_frame : Difference → Difference → Difference → Frame
solid_frame a b c = record { widths = origin; a = a; b = b; c = c }

-- ---- r = 2: in the plane of n
abbrev pub plane_frame : Difference → Difference → Axis → Frame
plane_frame a b j = record { widths = unit j; a = thick_of a (unit j); b = thick_of b (unit j); c = thick_of a (opposite (unit j)) }

-- the axis along which a vector that is not the origin is not 0
pub record AxisOf (v : Vec3) (r : Axis) : Type 0 where
  pub other : (v ≡ origin → ⊥) → coordinate r v ≡ pos 0 → ⊥

-- ---- r = 1: on the line of a, e and f the axes besides that of a coordinate of a that is not 0
abbrev pub line_frame : Difference → Axis → Frame
line_frame a j = record {
  widths = plus (unit (next_axis j)) (unit (next_axis (next_axis j)));
  a = thick_of a (plus (unit (next_axis j)) (unit (next_axis (next_axis j))));
  b = thick_of a (minus (unit (next_axis (next_axis j))) (unit (next_axis j)));
  c = thick_of a (minus (unit (next_axis j)) (unit (next_axis (next_axis j))));
}

-- level with these is along c
abbrev pub line_rows : Vec3 → Three Vec3
line_rows c = record { a = line_row c X; b = line_row c Y; c = line_row c Z }

-- ---- r = 0: at the origin
abbrev pub box_corner : Vec3 → ℕ → Difference
box_corner at cube = record { at = at; first = 0; cube = cube; second = 0 }

abbrev pub point_frame : Frame
point_frame = record {
  widths = ones;
  a = box_corner (vec (pos 1) (pos 1) (pos 1)) 7;
  b = box_corner (vec (negsuc 0) (pos 1) (pos 1)) 3;
  c = box_corner (vec (pos 1) (negsuc 0) (pos 1)) 5;
}

-- level with these is the origin
abbrev pub unit_rows : Three Vec3
unit_rows = record { a = unit X; b = unit Y; c = unit Z }

-- ---- what the code makes, by the axis that it finds
pub record OnLine (a : Difference) (r : Frame) : Type 0 where
  pub axis_is : Axis
  pub of : AxisOf a.at axis_is
  pub is : r ≡ line_frame a axis_is

pub record InPlane (a b : Difference) (n : Vec3) (r : Frame) : Type 0 where
  pub axis_is : Axis
  pub of : AxisOf n axis_is
  pub is : r ≡ plane_frame a b axis_is

-- ---- the three scans
abbrev pub plane_rows : Vec3 → Three Vec3
plane_rows n = record { a = n; b = n; c = n }

-- what the second scan begins with: a difference that is not the origin
pub record OffPoint (A B : Piece) (a : Difference) : Type 0 where
  pub tagged : Tagged A B origin a
  pub other : a.at ≡ origin → ⊥

-- and the third: two that are not along one line
pub record Wide (A B : Piece) (a b : Difference) : Type 0 where
  pub tagged_a : Tagged A B origin a
  pub tagged_b : Tagged A B origin b
  pub other : cross a.at b.at ≡ origin → ⊥

-- ---- the portal of a frame
abbrev pub frame_places : Frame → Three Vec3
frame_places f = record { a = f.a.at; b = f.b.at; c = f.c.at }

abbrev pub FirstPortal : Frame → Three Difference → Type 0
FirstPortal f r =
    ((det f.a.at f.b.at f.c.at <ℤ pos 0) × (r ≡ record { a = f.a; b = f.b; c = f.c }))
    ⊎ ((pos 0 ≤ℤ det f.a.at f.b.at f.c.at) × (r ≡ record { a = f.a; b = f.c; c = f.b }))

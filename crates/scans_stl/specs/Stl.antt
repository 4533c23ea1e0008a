-- Binary STL, as the scanner writes it (document 02, W2): "80 header bytes, a little-endian 32-bit triangle count, then 50 bytes a triangle (a normal,
-- three corners, each three little-endian binary32 numbers, and a 16-bit attribute)." "Header, normals and attributes aren't read."
use Rattle.std.specs.Prelude.{ℕ, zero, suc, ◌+◌, ◌*◌, ◌<◌, ◌≡◌, List, [], ◌∷◌, ◌++◌, ◌⊎◌, ℤ, length, get_or, Float}
use Rattle.limits.specs.Limits
use Rattle.limits.specs.Lowest.{Rule, ◌when◌}
use Rattle.scans.specs.Floats.{InSteps, steps_of}
use Rattle.scans.specs.Scanned.{One, of_patterns}
use Rattle.scans.specs.declared.Point.{Point}

-- ---- the layout. A file is the list of its bytes
abbrev pub header_bytes : ℕ
header_bytes = 80

-- where the first triangle starts: behind the header and the count
abbrev pub first_at : ℕ
first_at = 84

abbrev pub triangle_bytes : ℕ
triangle_bytes = 50

-- where a triangle's corners start, from its own start: behind the normal
abbrev pub normal_bytes : ℕ
normal_bytes = 12

abbrev pub corner_bytes : ℕ
corner_bytes = 12

-- "little-endian": the four bytes from a position on, the lowest first
unfoldable pub word_at : List ℕ → ℕ → ℕ
word_at file at = get_or file at 0 + 256 * get_or file (at + 1) 0 + 65536 * get_or file (at + 2) 0 + 16777216 * get_or file (at + 3) 0

abbrev pub triangle_count : List ℕ → ℕ
triangle_count file = word_at file header_bytes

-- ---- the corners, three floats each
abbrev pub point_at : List ℕ → ℕ → Point
point_at file at = of_patterns (word_at file at) (word_at file (at + 4)) (word_at file (at + 8))

-- the three corners of the triangle whose 50 bytes start at a position
abbrev pub triangle_at : List ℕ → ℕ → List Point
triangle_at file at =
    point_at file (at + normal_bytes)
    ∷ point_at file (at + normal_bytes + corner_bytes)
    ∷ point_at file (at + normal_bytes + 2 * corner_bytes)
    ∷ []

-- so many triangles from a position on, and all corners of a file, three a triangle, in order
abbrev pub corners_from : List ℕ → ℕ → ℕ → List Point
corners_from file at zero = []
corners_from file at (suc n) = triangle_at file at ++ corners_from file (at + triangle_bytes) n

abbrev pub file_corners : List ℕ → List Point
file_corners file = corners_from file first_at (triangle_count file)

-- C is so of a float of one of the corners
abbrev pub AnyOf : (Float → Type 0) → List Point → Type 0
AnyOf C [] = ⊥
AnyOf C (p ∷ rest) = One C p ⊎ AnyOf C rest

-- ---- corners in steps
pub record Corner : Type 0 where
  pub x : ℤ
  pub y : ℤ
  pub z : ℤ

abbrev pub in_steps : Point → Corner
in_steps p = record { x = steps_of p.x; y = steps_of p.y; z = steps_of p.z }

-- every float of the corners is, in steps, what `in_steps` says
abbrev pub AllInSteps : List Point → Type 0
AllInSteps [] = Unit {0}
AllInSteps (p ∷ rest) = (InSteps p.x (steps_of p.x) × InSteps p.y (steps_of p.y) × InSteps p.z (steps_of p.z)) × AllInSteps rest

-- corners as they are written: three numbers each
abbrev pub numbers_of : List Corner → List ℤ
numbers_of [] = []
numbers_of (c ∷ rest) = c.x ∷ c.y ∷ c.z ∷ numbers_of rest

-- ---- when a file is refused
-- 21: "length under 84 or not exactly 84 + 50 × count"
abbrev pub WrongLength : List ℕ → Type 0
WrongLength file = (length file < first_at) ⊎ (length file ≡ first_at + triangle_bytes * triangle_count file → ⊥)

-- 22: "count zero"
abbrev pub NoTriangles : List ℕ → Type 0
NoTriangles file = triangle_count file ≡ 0

-- "Order: 21, 22", and what follows is each call's own
abbrev pub file_refusals : List ℕ → List Rule
file_refusals file = Limits.file_length when WrongLength file ∷ Limits.count_zero when NoTriangles file ∷ []

-- THE DEFINITIONS of document 01, "The verdicts", with touching as W5 amends it and the first piece widened as W6 asks: separate, meeting, touching, penetrating.
-- "With a over placed corners of the first piece and b over those of the second." No proof stands here: what follows from them is in Exclusion, and what they say with no gap in NoGapLaws.
use Rattle.std.specs.Prelude.{◌≡◌, ◌⊎◌, ℕ, zero, suc, ◌+◌, ◌*◌, ◌/◌, ◌%◌, ◌≤◌, ◌<◌, length, get_or, ℤ, pos, neg_ℤ, ◌+ℤ◌, ◌*ℤ◌, ◌≤ℤ◌, ◌<ℤ◌}
use mathlib.Core.List.{List, [], ◌∷◌, Memᴰ}
use Rattle.limits.specs.Limits
use Rattle.space.specs.Vectors.{Vec3, dot, minus, plus}
pub use Rattle.space.specs.declared.Pair.{Pair}

-- a piece is a list of placed corners, three numbers each; corners count from 0
abbrev pub Piece : Type 0
Piece = List ℤ

abbrev pub corner_count : Piece → ℕ
corner_count s = length s / 3

unfoldable pub corner_at : Piece → ℕ → Vec3
corner_at s i = record { x = get_or s (3 * i) (pos 0); y = get_or s (3 * i + 1) (pos 0); z = get_or s (3 * i + 2) (pos 0) }

-- W6: "all eight corners of the cube from −g to g". Cube corner c, of 0 to 7: x is −g or +g by 4, y by 2, z by 1, so 0 is −g −g −g and 7 is +g +g +g
abbrev pub cube_corners : ℕ
cube_corners = 8

abbrev pub side : ℕ → ℕ → ℤ
side g zero = neg_ℤ (pos g)
side g (suc k) = pos g

abbrev pub cube_corner : ℕ → ℕ → Vec3
cube_corner g c = record { x = side g (c / 4 % 2); y = side g (c / 2 % 2); z = side g (c % 2) }

-- W6: "The first piece [..] is treated as its corners plus all eight corners of the cube": its corner i plus cube corner c. With no gap that is corner i
unfoldable pub widened_at : ℕ → Piece → ℕ → ℕ → Vec3
widened_at g A i c = plus (corner_at A i) (cube_corner g c)

-- d·a < d·b for all a, b: a over the corners of the first piece, widened by g
pub record Below (d : Vec3) (g : ℕ) (A B : Piece) : Type 0 where
  pub all : (i c j : ℕ) → i < corner_count A → c < cube_corners → j < corner_count B → dot d (widened_at g A i c) <ℤ dot d (corner_at B j)

-- d·a ≤ d·b for all a, b
pub record NotAbove (d : Vec3) (g : ℕ) (A B : Piece) : Type 0 where
  pub all : (i c j : ℕ) → i < corner_count A → c < cube_corners → j < corner_count B → dot d (widened_at g A i c) ≤ℤ dot d (corner_at B j)

-- "separate: a direction d of whole numbers has d·a < d·b for all a, b."
pub record Separate (g : ℕ) (A B : Piece) : Type 0 where
  pub direction : Vec3
  pub parts : Below direction g A B

-- the difference a − b of a pair. W6: "pairs name a cube corner as well"
abbrev pub difference_of : ℕ → Piece → Piece → Pair → Vec3
difference_of g A B p = minus (widened_at g A p.first p.cube) (corner_at B p.second)

-- the weighted differences a − b of some pairs, summed along one coordinate
unfoldable pub weighted : (Vec3 → ℤ) → ℕ → Piece → Piece → List Pair → ℤ
weighted along g A B [] = pos 0
weighted along g A B (p ∷ ps) = p.weight *ℤ along (difference_of g A B p) +ℤ weighted along g A B ps

-- a pair (a, b) of corners, with a whole weight from 1 to 2^57
pub record Fair (A B : Piece) (p : Pair) : Type 0 where
  pub of_first : p.first < corner_count A
  pub of_cube : p.cube < cube_corners
  pub of_second : p.second < corner_count B
  pub least : pos 1 ≤ℤ p.weight
  pub most : p.weight ≤ℤ pos Limits.weight_most

-- "one to four pairs (a, b) and whole weights from 1 to 2^57 have weighted differences a−b summing to zero"
pub record Balance (g : ℕ) (A B : Piece) (ps : List Pair) : Type 0 where
  pub some : 1 ≤ length ps
  pub few : length ps ≤ 4
  pub fair : (p : Pair) → Memᴰ p ps → Fair A B p
  pub zero_x : weighted (λ v. v.x) g A B ps ≡ pos 0
  pub zero_y : weighted (λ v. v.y) g A B ps ≡ pos 0
  pub zero_z : weighted (λ v. v.z) g A B ps ≡ pos 0

-- "meeting": there are such pairs
pub record Meeting (g : ℕ) (A B : Piece) : Type 0 where
  pub pairs : List Pair
  pub balance : Balance g A B pairs

-- d·a < d·b for at least one pair (a, b)
pub record SomeBelow (d : Vec3) (g : ℕ) (A B : Piece) : Type 0 where
  pub first : ℕ
  pub cube : ℕ
  pub second : ℕ
  pub of_first : first < corner_count A
  pub of_cube : cube < cube_corners
  pub of_second : second < corner_count B
  pub less : dot d (widened_at g A first cube) <ℤ dot d (corner_at B second)

-- a direction of touching. It is not zero, as 01 asks: along zero no pair is parted (Exclusion, supported_nonzero), so that is not asked again
pub record Supported (d : Vec3) (g : ℕ) (A B : Piece) : Type 0 where
  pub above : NotAbove d g A B
  pub parted : SomeBelow d g A B

-- Document 01: "touching: meeting, and some non-zero d has d·a ≤ d·b for all a, b."
-- W5 amends it: "meeting pieces are touching exactly when some direction d has d·a ≤ d·b for all corners and d·a < d·b for at least one pair; else penetrating."
-- So sheets that lie over each other in one plane are penetrating, and sheets that share an edge are touching.
pub record Touching (g : ℕ) (A B : Piece) : Type 0 where
  pub meeting : Meeting g A B
  pub direction : Vec3
  pub supported : Supported direction g A B

-- "penetrating: meeting and not touching"; W5: "else penetrating"
pub record Penetrating (g : ℕ) (A B : Piece) : Type 0 where
  pub meeting : Meeting g A B
  pub free : (d : Vec3) → Supported d g A B → ⊥

-- the verdict's number: 1 separate, 2 touching, 3 penetrating
abbrev pub separate : ℕ
separate = Limits.separate

abbrev pub touching : ℕ
touching = Limits.touching

abbrev pub penetrating : ℕ
penetrating = Limits.penetrating

-- v is the right verdict of A, the piece named first, and B, with a gap of g
abbrev pub VerdictIs : ℕ → Piece → Piece → ℕ → Type 0
VerdictIs g A B v = ((v ≡ separate) × Separate g A B) ⊎ (((v ≡ touching) × Touching g A B) ⊎ ((v ≡ penetrating) × Penetrating g A B))

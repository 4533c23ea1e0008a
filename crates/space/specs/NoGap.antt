-- The definitions as they stood before W6, document 01's as W5 amends them: two pieces with no gap between them, and pairs whose cube corner is not read.
-- It is asked to be one of eight all the same, since `Fair` of Verdicts is cited.
-- No proof stands here. That with g = 0 the definitions of Verdicts say the same is in NoGapLaws: "With g = 0 all of 01 as amended stands."
use Rattle.std.specs.Prelude.{◌≡◌, ◌⊎◌, ℕ, ◌≤◌, ◌<◌, length, ℤ, pos, ◌+ℤ◌, ◌*ℤ◌, ◌≤ℤ◌, ◌<ℤ◌}
use mathlib.Core.List.{List, [], ◌∷◌, Memᴰ}
use Rattle.space.specs.Vectors.{Vec3, dot, minus}
use Rattle.space.specs.Verdicts.{Piece, Pair, corner_count, corner_at, Fair, separate, touching, penetrating}

-- "separate: a direction d of whole numbers has d·a < d·b for all a, b."
pub record PlainBelow (d : Vec3) (A B : Piece) : Type 0 where
  pub all : (i j : ℕ) → i < corner_count A → j < corner_count B → dot d (corner_at A i) <ℤ dot d (corner_at B j)

pub record PlainSeparate (A B : Piece) : Type 0 where
  pub direction : Vec3
  pub parts : PlainBelow direction A B

-- "meeting: [..] one to four pairs (a, b) and whole weights from 1 to 2^57 have weighted differences a−b summing to zero"
unfoldable pub plain_weighted : (Vec3 → ℤ) → Piece → Piece → List Pair → ℤ
plain_weighted along A B [] = pos 0
plain_weighted along A B (p ∷ ps) = p.weight *ℤ along (minus (corner_at A p.first) (corner_at B p.second)) +ℤ plain_weighted along A B ps

pub record PlainBalance (A B : Piece) (ps : List Pair) : Type 0 where
  pub some : 1 ≤ length ps
  pub few : length ps ≤ 4
  pub fair : (p : Pair) → Memᴰ p ps → Fair A B p
  pub zero_x : plain_weighted (λ v. v.x) A B ps ≡ pos 0
  pub zero_y : plain_weighted (λ v. v.y) A B ps ≡ pos 0
  pub zero_z : plain_weighted (λ v. v.z) A B ps ≡ pos 0

pub record PlainMeeting (A B : Piece) : Type 0 where
  pub pairs : List Pair
  pub balance : PlainBalance A B pairs

-- W5: "touching exactly when some direction d has d·a ≤ d·b for all corners and d·a < d·b for at least one pair"
pub record PlainSupported (d : Vec3) (A B : Piece) : Type 0 where
  pub above : (i j : ℕ) → i < corner_count A → j < corner_count B → dot d (corner_at A i) ≤ℤ dot d (corner_at B j)
  pub first : ℕ
  pub second : ℕ
  pub of_first : first < corner_count A
  pub of_second : second < corner_count B
  pub less : dot d (corner_at A first) <ℤ dot d (corner_at B second)

pub record PlainTouching (A B : Piece) : Type 0 where
  pub meeting : PlainMeeting A B
  pub direction : Vec3
  pub supported : PlainSupported direction A B

-- "else penetrating"
pub record PlainPenetrating (A B : Piece) : Type 0 where
  pub meeting : PlainMeeting A B
  pub free : (d : Vec3) → PlainSupported d A B → ⊥

abbrev pub PlainVerdict : Piece → Piece → ℕ → Type 0
PlainVerdict A B v = ((v ≡ separate) × PlainSeparate A B) ⊎ (((v ≡ touching) × PlainTouching A B) ⊎ ((v ≡ penetrating) × PlainPenetrating A B))

-- How large the numbers of a verdict can be. H = 2^18 + 2^12 bounds every coordinate of a difference of placed corners, widened by a box of half-width 4,096 at most.
-- Every number that the walk computes is a polynomial of such coordinates, and each bound below is the sum of its terms' sizes.
use Rattle.std.specs.Prelude.{◌≡◌, ℕ, T, leb, ℤ}
use Rattle.ints.specs.Bounds.{Known, Within, within, within_le, ◌&◌, and_l, and_r, worth, upto?}
use Rattle.space.specs.Vectors.{Vec3, vec_eq}

-- H: a point of the difference
abbrev pub point_reach : ℕ
point_reach = 266240

-- 2H: a difference of two points
abbrev pub pair_reach : ℕ
pair_reach = 532480

-- 3H: the sum of three points, by which the weak walk shifts
abbrev pub shift_reach : ℕ
shift_reach = 798720

-- 2H²: a product of two points
abbrev pub edge_reach : ℕ
edge_reach = 141767475200

-- 12H²: a product of a difference and a shift
abbrev pub cross_reach : ℕ
cross_reach = 850604851200

-- 24H²: two of those
abbrev pub sum_reach : ℕ
sum_reach = 1701209702400

-- 6H²: a normal, which is what an answer's direction is
abbrev pub normal_reach : ℕ
normal_reach = 425302425600

-- 6H³: a determinant, which is what an answer's weight is
abbrev pub weight_reach : ℕ
weight_reach = 113232517791744000

-- no coordinate is larger than n
pub record Upto (n : ℕ) (v : Vec3) : Type 0 where
  pub ux : Within n v.x
  pub uy : Within n v.y
  pub uz : Within n v.z

pub upto_le : {m n : ℕ} {v : Vec3} → T (leb m n) → Upto m v → Upto n v
upto_le t u = record { ux = within_le t u.ux; uy = within_le t u.uy; uz = within_le t u.uz }

-- a vector that is made of three terms, each known: what it is worth, and its range
pub made : {x y z : ℤ} (n : ℕ) (kx : Known x) (ky : Known y) (kz : Known z)
    → T ((upto? kx.lo kx.hi n & kx.ok) & (upto? ky.lo ky.hi n & ky.ok) & (upto? kz.lo kz.hi n & kz.ok))
    → (◌≡◌ {A = Vec3} (record { x = x; y = y; z = z }) (record { x = kx.value; y = ky.value; z = kz.value })) × Upto n (record { x = x; y = y; z = z })
made n kx ky kz t =
    let tx = and_l (upto? kx.lo kx.hi n & kx.ok) _ t in
    let ty = and_l (upto? ky.lo ky.hi n & ky.ok) _ (and_r (upto? kx.lo kx.hi n & kx.ok) _ t) in
    let tz = and_r (upto? ky.lo ky.hi n & ky.ok) _ (and_r (upto? kx.lo kx.hi n & kx.ok) _ t) in (
      vec_eq (worth kx (and_r (upto? kx.lo kx.hi n) kx.ok tx)) (worth ky (and_r (upto? ky.lo ky.hi n) ky.ok ty)) (worth kz (and_r (upto? kz.lo kz.hi n) kz.ok tz)),
      record { ux = within kx tx; uy = within ky ty; uz = within kz tz },
    )

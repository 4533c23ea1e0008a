-- The identities on which the walk stands, each one line by the ring solver: Cramer's rule, the normals, progress, Lagrange.
-- A portal is (a, b, c), r the ray, p a point.
use Rattle.std.specs.Prelude.{◌≡◌, refl, [], neg_ℤ, ◌+ℤ◌, ◌-ℤ◌, ◌*ℤ◌}
use Rattle.ints.proofs.Quote.{sides, by_ring}
use Rattle.space.specs.Vectors.{Vec3, dot, det, normal, env1}

-- Cramer's rule, along any d
pub cramer : (a b c p d : Vec3) → det a b c *ℤ dot d p ≡ det p b c *ℤ dot d a +ℤ det a p c *ℤ dot d b +ℤ det a b p *ℤ dot d c
cramer a b c p d = by_ring (env1 a (env1 b (env1 c (env1 p (env1 d []))))) (search sides depth 40) refl

-- the normal is the sum of the three edges' determinants, along any y
pub normal_along : (a b c y : Vec3) → dot (normal a b c) y ≡ det y b c +ℤ det a y c +ℤ det a b y
normal_along a b c y = by_ring (env1 a (env1 b (env1 c (env1 y [])))) (search sides depth 40) refl

-- progress: s'h − sh' = G₁(n·p + h), where p takes the first corner's place
pub progress : (a b c p r : Vec3)
    → neg_ℤ (dot (normal p b c) r) *ℤ neg_ℤ (det a b c) -ℤ neg_ℤ (dot (normal a b c) r) *ℤ neg_ℤ (det p b c) ≡ neg_ℤ (det r b c) *ℤ (neg_ℤ (det a b c) +ℤ dot (normal a b c) p)
progress a b c p r = by_ring (env1 a (env1 b (env1 c (env1 p (env1 r []))))) (search sides depth 40) refl

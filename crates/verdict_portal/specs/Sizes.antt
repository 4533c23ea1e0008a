-- The sizes of the walk. Every coordinate is within H = 2^18 + 2^12 = 266240, those of q within 3H. L = 2^60 and K = 2^180 are shut: what is known of them stands here.
use Rattle.std.specs.Prelude.{◌≡◌, refl, [], ◌∷◌, ℕ, ℤ, pos, neg_ℤ, ◌+ℤ◌, ◌*ℤ◌, ◌≤ℤ◌, ◌<ℤ◌}
use Rattle.std.proofs.Common.{sym, ap, subst}
use Rattle.ints.proofs.Quote.{sides, by_ring}
use Rattle.ints.proofs.OrderLaws.{nn_factor, pos_mul}
use Rattle.ints.specs.Bounds.{Within, within, within_upper}
use Rattle.ints.proofs.Known.{known}
use Rattle.space.specs.declared.Vec3.{Vec3}
use Rattle.space.specs.Vectors.{dot, cross, minus, det, normal, env1, origin}
use Rattle.space.specs.Ranges.{Upto, point_reach, shift_reach}
use Rattle.verdict_portal.specs.Portal.{Inv, reach}
use Rattle.ints.specs.Sign.{Same, Under}
use Rattle.ints.proofs.SignLaws.{under}
use Rattle.verdict_portal.specs.Shift.{shift, ray, row, side, side_low, front, tie, k1_sign, k2_sign, k2_normal, k3_one, k3_sign, k4, k4_back, k5, k5_flipped}

unfoldable pub big_l : ℤ
big_l = pos 1152921504606846976

unfoldable pub big_k : ℤ
big_k = pos 1532495540865888858358347027150309183618739122183602176

-- what bounds every reach: K² 18 H³ (L² + L + 1)
unfoldable pub big_s : ℕ
big_s = 1060450344795019890719302839269907025709626068663761881492022064636286549033384827851926998810564426744023913402455251280996521379114934284954751737748202192896000

pub pos_l : pos 0 <ℤ big_l
unfolding big_l
pos_l = record { lt = tt }

pub pos_k : pos 0 <ℤ big_k
unfolding big_k
pos_k = record { lt = tt }

under_l : {b : ℤ} → Within 679395106750464000 b → Under big_l b
unfolding big_l
under_l w = under (record { lt = tt }) w

under_k : {b : ℤ} → Within 903070996091998232084584859862870128912240939630592000 b → Under big_k b
unfolding big_k
under_k w = under (record { lt = tt }) w

-- a shifted point, and the ray
unfoldable pub hat : Vec3 → Vec3 → Vec3
hat q p = shift big_k q p

unfoldable pub beam : Vec3 → Vec3 → Vec3 → Vec3
beam c1 c2 c3 = ray big_l c1 c2 c3

pub hat_dot : (q p d : Vec3) → dot d (hat q p) ≡ big_k *ℤ dot d p +ℤ dot d q
unfolding hat
hat_dot q p d = by_ring (big_k ∷ env1 q (env1 p (env1 d []))) (search sides depth 40) refl

pub hat_normal : (q a b c y : Vec3) → dot (normal (hat q a) (hat q b) (hat q c)) y ≡ big_k *ℤ big_k *ℤ dot (normal a b c) y
unfolding hat
hat_normal q a b c y = k2_normal big_k q a b c y

-- ---- bounds
pub side_under : {q p b c : Vec3} → Upto shift_reach q → Upto point_reach p → Upto point_reach b → Upto point_reach c → Under big_k (side_low q p b c)
side_under uq up ub uc = under_k (within (search known depth 15) tt)

pub front_under : {q a b c : Vec3} → Upto shift_reach q → Upto point_reach a → Upto point_reach b → Upto point_reach c → Under big_k (dot (normal a b c) q)
front_under uq ua ub uc = under_k (within (search known depth 15) tt)

front_neg : {q a b c : Vec3} → Upto shift_reach q → Upto point_reach a → Upto point_reach b → Upto point_reach c → Under big_k (neg_ℤ (dot (normal a b c) q))
front_neg uq ua ub uc = under_k (within (search known depth 15) tt)

edge_high : {p r c : Vec3} → Upto point_reach p → Upto point_reach r → Upto point_reach c → Under big_l (dot (cross p r) c)
edge_high up ur uc = under_l (within (search known depth 15) tt)

edge_low : {q p r c : Vec3} → Upto shift_reach q → Upto point_reach p → Upto point_reach r → Upto point_reach c → Within 679395106750464000 (dot (cross (minus p r) q) c)
edge_low uq up ur uc = within (search known depth 15) tt

row_under : {u v w : ℤ} → Within 679395106750464000 u → Within 679395106750464000 v → Within 679395106750464000 w → Under big_k (row big_l u v w)
unfolding big_l
row_under a b c = under_k (within (search known depth 15) tt)

ray_under : {q p r c1 c2 c3 : Vec3} → Upto shift_reach q → Upto point_reach p → Upto point_reach r → Upto point_reach c1 → Upto point_reach c2 → Upto point_reach c3
    → Under big_k (neg_ℤ (dot (cross (minus p r) q) (beam c1 c2 c3)))
unfolding beam big_l
ray_under uq up ur u1 u2 u3 = under_k (within (search known depth 15) tt)

-- ---- signs
pub side_sign : {q p b c : Vec3} → Upto shift_reach q → Upto point_reach p → Upto point_reach b → Upto point_reach c → Same (det (hat q p) (hat q b) (hat q c)) (side q p b c)
unfolding hat
side_sign {q} {p} {b} {c} uq up ub uc = k1_sign big_k q p b c pos_k (side_under uq up ub uc)

pub front_sign : {q a b c : Vec3} (p : Vec3) → Upto shift_reach q → Upto point_reach a → Upto point_reach b → Upto point_reach c
    → Same (dot (normal (hat q a) (hat q b) (hat q c)) (hat q p)) (front q p a b c)
unfolding hat
front_sign {q} {a} {b} {c} p uq ua ub uc = k2_sign big_k q a b c p pos_k (front_under uq ua ub uc)

pub tie_sign : {q p r c1 c2 c3 : Vec3} → Upto shift_reach q → Upto point_reach p → Upto point_reach r → Upto point_reach c1 → Upto point_reach c2 → Upto point_reach c3
    → Same (dot (cross (hat q p) (hat q r)) (beam c1 c2 c3)) (tie q p r c1 c2 c3)
unfolding hat beam
tie_sign {q} {p} {r} {c1} {c2} {c3} uq up ur u1 u2 u3 = k3_sign big_k big_l q p r c1 c2 c3 pos_k
    (record { at1 = edge_high up ur u1; at2 = edge_high up ur u2; at3 = edge_high up ur u3 })
    (record { at1 = under_l (edge_low uq up ur u1); at2 = under_l (edge_low uq up ur u2); at3 = under_l (edge_low uq up ur u3) })
    (row_under (edge_low uq up ur u1) (edge_low uq up ur u2) (edge_low uq up ur u3))

pub tie_one : (q p r c : Vec3) → dot (cross (hat q p) (hat q r)) c ≡ big_k *ℤ (big_k *ℤ dot (cross p r) c +ℤ dot (cross (minus p r) q) c)
unfolding hat
tie_one q p r c = k3_one big_k q p r c

-- ---- the reach
reach_within : {a b c c1 c2 c3 : Vec3} → Upto point_reach a → Upto point_reach b → Upto point_reach c → Upto point_reach c1 → Upto point_reach c2 → Upto point_reach c3
    → Within big_s (neg_ℤ (big_k *ℤ big_k *ℤ dot (normal a b c) (beam c1 c2 c3)))
unfolding big_s big_k big_l beam
reach_within ua ub uc u1 u2 u3 = within (search known depth 15) tt

pub reach_upper : (q : Vec3) {a b c c1 c2 c3 : Vec3} → Upto point_reach a → Upto point_reach b → Upto point_reach c → Upto point_reach c1 → Upto point_reach c2 → Upto point_reach c3
    → reach (hat q a) (hat q b) (hat q c) (beam c1 c2 c3) ≤ℤ pos big_s
reach_upper q {a} {b} {c} {c1} {c2} {c3} ua ub uc u1 u2 u3 = subst (λ z. z ≤ℤ pos big_s) (ap neg_ℤ (sym (hat_normal q a b c (beam c1 c2 c3)))) (within_upper (reach_within ua ub uc u1 u2 u3))

-- ---- the starts
-- from the plain portal to the shifted one, and back where q is the origin
pub start_shifted : {q a b c c1 c2 c3 : Vec3} → Upto shift_reach q → Upto point_reach a → Upto point_reach b → Upto point_reach c → Upto point_reach c1 → Upto point_reach c2 → Upto point_reach c3
    → Inv a b c (beam c1 c2 c3) → Inv (hat q a) (hat q b) (hat q c) (beam c1 c2 c3)
unfolding hat
start_shifted {q} {a} {b} {c} {c1} {c2} {c3} uq ua ub uc u1 u2 u3 i =
    k4 big_k q a b c (beam c1 c2 c3) pos_k (front_neg uq ua ub uc) (ray_under uq ub uc u1 u2 u3) (ray_under uq uc ua u1 u2 u3) (ray_under uq ua ub u1 u2 u3) i

pub plain : (a b c c1 c2 c3 : Vec3) → Inv (hat origin a) (hat origin b) (hat origin c) (beam c1 c2 c3) → Inv a b c (beam c1 c2 c3)
unfolding hat
plain a b c c1 c2 c3 i = k4_back big_k a b c (beam c1 c2 c3) pos_k i

pub start : (c1 c2 c3 : Vec3) → det c1 c2 c3 <ℤ pos 0 → Inv c1 c2 c3 (beam c1 c2 c3)
unfolding beam
start c1 c2 c3 d = k5 big_l c1 c2 c3 pos_l d

pub start_flipped : (c1 c2 c3 : Vec3) → pos 0 <ℤ det c1 c2 c3 → Inv c1 c3 c2 (beam c1 c2 c3)
unfolding beam
start_flipped c1 c2 c3 d = k5_flipped big_l c1 c2 c3 pos_l d

-- where the shift is by nothing, a determinant has the sign of the plain one
pub plain_nn : (p b c : Vec3) → pos 0 ≤ℤ det (hat origin p) (hat origin b) (hat origin c) → pos 0 ≤ℤ det p b c
unfolding hat
plain_nn p b c h =
    nn_factor {a = big_k *ℤ (big_k *ℤ big_k)} {b = det p b c} (pos_mul pos_k (pos_mul pos_k pos_k)) (subst (λ z. pos 0 ≤ℤ z) (by_ring (big_k ∷ env1 p (env1 b (env1 c []))) (search sides depth 40) refl) h)

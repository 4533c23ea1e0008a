-- Flat sets are made thick by a box along the axes that complete their span: the vectors of that, with no set in sight.
-- The determinants of the thick frames, how a thick point drops to its base, and how a direction lifts (F2, F4, W5).
use Rattle.std.specs.Prelude.{◌≡◌, refl, [], ◌∷◌, ◌⊎◌, ℤ, pos, negsuc, neg_ℤ, ◌+ℤ◌, ◌-ℤ◌, ◌*ℤ◌, ◌<ℤ◌}
use Rattle.std.proofs.Common.{sym, ◌∙◌, subst, ⊎_elim}
use Rattle.std.proofs.Math.IntN.{*ℤ-zero}
use Rattle.ints.specs.Laws.{*ℤ-distribl}
use Rattle.ints.proofs.Quote.{sides, by_ring}
use Rattle.ints.specs.Order.{trichotomy}
use Rattle.ints.proofs.OrderLaws.{zero-product, eq_comb, z_diff, z_add, pos_mul, <ℤ-neg}
use Rattle.space.specs.declared.Vec3.{Vec3}
use Rattle.space.specs.declared.Axis.{Axis}
use Rattle.space.specs.declared.Axis.TheVariants.{X, Y, Z}
use Rattle.space.specs.Vectors.{dot, cross, minus, plus, scale, det, env1, opposite, vec_eq, unit, next_axis, coordinate}
use Rattle.verdict_portal.specs.Portal.{ZeroSum, zero_sum_dot}

-- coordinate by coordinate
abbrev pub had : Vec3 → Vec3 → Vec3
had s g = record { x = s.x *ℤ g.x; y = s.y *ℤ g.y; z = s.z *ℤ g.z }

abbrev pub vec : ℤ → ℤ → ℤ → Vec3
vec u v w = record { x = u; y = v; z = w }

abbrev pub ones : Vec3
ones = vec (pos 1) (pos 1) (pos 1)

-- σ: three signs
abbrev pub Sign : ℤ → Type 0
Sign s = (s ≡ pos 1) ⊎ (s ≡ negsuc 0)

pub record Signs (s : Vec3) : Type 0 where
  pub one_x : Sign s.x
  pub one_y : Sign s.y
  pub one_z : Sign s.z

-- ---- the axes
-- an axis as the table of flat sets needs it
pub record FlatAxis (j : Axis) : Type 0 where
  pub spread : (s : Vec3) → had s (unit j) ≡ scale (coordinate j s) (unit j)
  pub along : (v : Vec3) → dot v (unit j) ≡ coordinate j v
  pub box : (v : Vec3) → det v (unit (next_axis j)) (unit (next_axis (next_axis j))) ≡ coordinate j v

nil : (u v : ℤ) → u *ℤ pos 0 ≡ v *ℤ pos 0
nil u v = *ℤ-zero u ∙ sym (*ℤ-zero v)

pub axis : (j : Axis) → FlatAxis j
axis X = record {
  spread = λ s. vec_eq refl (nil s.y s.x) (nil s.z s.x);
  along = λ v. by_ring (env1 v []) (search sides depth 9) refl;
  box = λ v. by_ring (env1 v []) (search sides depth 9) refl;
}
axis Y = record {
  spread = λ s. vec_eq (nil s.x s.y) refl (nil s.z s.y);
  along = λ v. by_ring (env1 v []) (search sides depth 9) refl;
  box = λ v. by_ring (env1 v []) (search sides depth 9) refl;
}
axis Z = record {
  spread = λ s. vec_eq (nil s.x s.z) (nil s.y s.z) refl;
  along = λ v. by_ring (env1 v []) (search sides depth 9) refl;
  box = λ v. by_ring (env1 v []) (search sides depth 9) refl;
}

pub had_plus : (s e f : Vec3) → had s (plus e f) ≡ plus (had s e) (had s f)
had_plus s e f = vec_eq (*ℤ-distribl s.x e.x f.x) (*ℤ-distribl s.y e.y f.y) (*ℤ-distribl s.z e.z f.z)

-- ---- F2: the determinants of the table
pub f2_plane : (c1 c2 e : Vec3) → det (plus c1 e) (plus c2 e) (plus c1 (opposite e)) ≡ negsuc 1 *ℤ dot (cross c1 c2) e
f2_plane c1 c2 e = by_ring (env1 c1 (env1 c2 (env1 e []))) (search sides depth 40) refl

pub f2_line : (c1 e f : Vec3) → det (plus c1 (plus e f)) (plus c1 (minus f e)) (plus c1 (minus e f)) ≡ pos 4 *ℤ det c1 e f
f2_line c1 e f = by_ring (env1 c1 (env1 e (env1 f []))) (search sides depth 40) refl

pub times_other : (k u : ℤ) → (k ≡ pos 0 → ⊥) → (u ≡ pos 0 → ⊥) → k *ℤ u ≡ pos 0 → ⊥
times_other k u f g e = ⊎_elim f g (zero-product k u e)

-- ---- F4: a sum drops. Three rows take a thick point y' to k times its base y
pub record Drops (k : ℤ) (r1 r2 r3 y' y : Vec3) : Type 0 where
  pub dx : dot r1 y' ≡ k *ℤ y.x
  pub dy : dot r2 y' ≡ k *ℤ y.y
  pub dz : dot r3 y' ≡ k *ℤ y.z

drop_sum : (k w0 w1 w2 w3 p a b c s t u v : ℤ) → (k ≡ pos 0 → ⊥) → s ≡ k *ℤ p → t ≡ k *ℤ a → u ≡ k *ℤ b → v ≡ k *ℤ c
    → w0 *ℤ s +ℤ w1 *ℤ t +ℤ w2 *ℤ u +ℤ w3 *ℤ v ≡ pos 0 → w0 *ℤ p +ℤ w1 *ℤ a +ℤ w2 *ℤ b +ℤ w3 *ℤ c ≡ pos 0
drop_sum k w0 w1 w2 w3 p a b c s t u v f es et eu ev e = ⊎_elim (λ h. absurd (f h)) (λ h. h) (zero-product k (w0 *ℤ p +ℤ w1 *ℤ a +ℤ w2 *ℤ b +ℤ w3 *ℤ c)
    (eq_comb (z_add (z_add (z_add (z_add (z_diff (pos 1) e) (z_diff (neg_ℤ w0) es)) (z_diff (neg_ℤ w1) et)) (z_diff (neg_ℤ w2) eu)) (z_diff (neg_ℤ w3) ev))
    (by_ring (k ∷ w0 ∷ w1 ∷ w2 ∷ w3 ∷ p ∷ a ∷ b ∷ c ∷ s ∷ t ∷ u ∷ v ∷ []) (search sides depth 40) refl)))

pub f4 : {k w0 w1 w2 w3 : ℤ} {r1 r2 r3 p' a' b' c' p a b c : Vec3} → (k ≡ pos 0 → ⊥) → Drops k r1 r2 r3 p' p → Drops k r1 r2 r3 a' a → Drops k r1 r2 r3 b' b → Drops k r1 r2 r3 c' c
    → ZeroSum w0 w1 w2 w3 p' a' b' c' → ZeroSum w0 w1 w2 w3 p a b c
f4 {k} {w0} {w1} {w2} {w3} {r1} {r2} {r3} {p'} {a'} {b'} {c'} {p} {a} {b} {c} f dp da db dc e = record {
  bx = drop_sum k w0 w1 w2 w3 p.x a.x b.x c.x (dot r1 p') (dot r1 a') (dot r1 b') (dot r1 c') f dp.dx da.dx db.dx dc.dx (zero_sum_dot e r1);
  by = drop_sum k w0 w1 w2 w3 p.y a.y b.y c.y (dot r2 p') (dot r2 a') (dot r2 b') (dot r2 c') f dp.dy da.dy db.dy dc.dy (zero_sum_dot e r2);
  bz = drop_sum k w0 w1 w2 w3 p.z a.z b.z c.z (dot r3 p') (dot r3 a') (dot r3 b') (dot r3 c') f dp.dz da.dz db.dz dc.dz (zero_sum_dot e r3);
}

-- in the plane of n, thick along e: y ↦ (n·e) y − (n·y) e
abbrev pub plane_row : Vec3 → Vec3 → Axis → Vec3
plane_row n e j = minus (scale (dot n e) (unit j)) (scale (coordinate j e) n)

pub drops_plane : (n e y : Vec3) (t : ℤ) → dot n y ≡ pos 0 → Drops (dot n e) (plane_row n e X) (plane_row n e Y) (plane_row n e Z) (plus y (scale t e)) y
drops_plane n e y t h = record {
  dx = eq_comb (z_diff (neg_ℤ e.x) h) (by_ring (t ∷ env1 n (env1 e (env1 y []))) (search sides depth 40) refl);
  dy = eq_comb (z_diff (neg_ℤ e.y) h) (by_ring (t ∷ env1 n (env1 e (env1 y []))) (search sides depth 40) refl);
  dz = eq_comb (z_diff (neg_ℤ e.z) h) (by_ring (t ∷ env1 n (env1 e (env1 y []))) (search sides depth 40) refl);
}

-- on the line of c, thick along e and f: y ↦ (y·(e×f)) c. A vector is along c where it is level with three rows
abbrev pub line_row : Vec3 → Axis → Vec3
line_row c X = vec (pos 0) c.z (pos 0 -ℤ c.y)
line_row c Y = vec (pos 0 -ℤ c.z) (pos 0) c.x
line_row c Z = vec c.y (pos 0 -ℤ c.x) (pos 0)

pub drops_line : (c e f y : Vec3) (t u : ℤ) → dot (line_row c X) y ≡ pos 0 → dot (line_row c Y) y ≡ pos 0 → dot (line_row c Z) y ≡ pos 0
    → Drops (det e f c) (scale c.x (cross e f)) (scale c.y (cross e f)) (scale c.z (cross e f)) (plus y (plus (scale t e) (scale u f))) y
drops_line c e f y t u hx hy hz = record {
  dx = eq_comb (z_add (z_diff (cross e f).z hy) (z_diff (neg_ℤ (cross e f).y) hz)) (by_ring (t ∷ u ∷ env1 c (env1 e (env1 f (env1 y [])))) (search sides depth 40) refl);
  dy = eq_comb (z_add (z_diff (cross e f).x hz) (z_diff (neg_ℤ (cross e f).z) hx)) (by_ring (t ∷ u ∷ env1 c (env1 e (env1 f (env1 y [])))) (search sides depth 40) refl);
  dz = eq_comb (z_add (z_diff (cross e f).y hx) (z_diff (neg_ℤ (cross e f).x) hy)) (by_ring (t ∷ u ∷ env1 c (env1 e (env1 f (env1 y [])))) (search sides depth 40) refl);
}

-- ---- W5: a direction lifts. Along it a thick point is k² times as far as its base is along d
abbrev pub lifted : ℤ → Vec3 → Vec3 → Vec3 → Vec3 → Vec3
lifted k r1 r2 r3 d = scale k (plus (plus (scale d.x r1) (scale d.y r2)) (scale d.z r3))

pub lifted_dot : {k : ℤ} {r1 r2 r3 y' y : Vec3} → Drops k r1 r2 r3 y' y → (d : Vec3) → dot (lifted k r1 r2 r3 d) y' ≡ k *ℤ k *ℤ dot d y
lifted_dot {k} {r1} {r2} {r3} {y'} {y} p d = eq_comb (z_add (z_add (z_diff (k *ℤ d.x) p.dx) (z_diff (k *ℤ d.y) p.dy)) (z_diff (k *ℤ d.z) p.dz))
    (by_ring (k ∷ env1 d (env1 r1 (env1 r2 (env1 r3 (env1 y' (env1 y [])))))) (search sides depth 40) refl)

pub square_pos : (k : ℤ) → (k ≡ pos 0 → ⊥) → pos 0 <ℤ (k *ℤ k)
square_pos k f = ⊎_elim
    (λ h. subst (λ z. pos 0 <ℤ z) (by_ring (k ∷ []) (search sides depth 9) refl) (pos_mul (<ℤ-neg h) (<ℤ-neg h)))
    (⊎_elim (λ h. absurd (f h)) (λ h. pos_mul h h)) (trichotomy k (pos 0))

-- The abstract walk: any integer vectors, no sizes. A portal (a, b, c), a ray r, a point p.
use Rattle.std.specs.Prelude.{◌≡◌, refl, [], ◌∷◌, ◌⊎◌, ℤ, pos, neg_ℤ, ◌+ℤ◌, ◌-ℤ◌, ◌*ℤ◌, ◌≤ℤ◌, ◌<ℤ◌}
use Rattle.std.proofs.Common.{sym, ap, ap₂, ◌∙◌, subst, ⊎_elim}
use Rattle.std.proofs.Math.IntN.{zero-*ℤ}
use Rattle.std.specs.Int.Signed.{clash_ℤ}
use Rattle.ints.proofs.Quote.{sides, by_ring}
use Rattle.ints.specs.Order.{lt→≤ℤ}
use Rattle.ints.proofs.OrderLaws.{lt_comb, nn_mul, pos_add, pos_mul, pos_factor, <ℤ-neg, ≤ℤ-neg, zero-product}
use Rattle.space.specs.declared.Vec3.{Vec3}
use Rattle.space.specs.Vectors.{dot, cross, det, normal, env1}
use Rattle.space.specs.Identities.{normal_along, progress}

-- how far the portal is from the origin, and from the ray, each times something positive: h and s
abbrev pub depth : Vec3 → Vec3 → Vec3 → ℤ
depth a b c = neg_ℤ (det a b c)

abbrev pub reach : Vec3 → Vec3 → Vec3 → Vec3 → ℤ
reach a b c r = neg_ℤ (dot (normal a b c) r)

-- the origin is behind the portal, and the ray goes through it: h, G1, G2, G3
pub record Inv (a b c r : Vec3) : Type 0 where
  pub hp : pos 0 <ℤ neg_ℤ (det a b c)
  pub g1 : pos 0 <ℤ neg_ℤ (det r b c)
  pub g2 : pos 0 <ℤ neg_ℤ (det a r c)
  pub g3 : pos 0 <ℤ neg_ℤ (det a b r)

-- ---- A1
pub a1_ray : (a b c r : Vec3) → reach a b c r ≡ neg_ℤ (det r b c) +ℤ neg_ℤ (det a r c) +ℤ neg_ℤ (det a b r)
a1_ray a b c r = by_ring (env1 a (env1 b (env1 c (env1 r [])))) (search sides depth 40) refl

-- ---- A2, Cramer: h p + D1 a + D2 b + D3 c = 0. The sum of four weighted vectors is zero
pub record ZeroSum (w0 w1 w2 w3 : ℤ) (p a b c : Vec3) : Type 0 where
  pub bx : w0 *ℤ p.x +ℤ w1 *ℤ a.x +ℤ w2 *ℤ b.x +ℤ w3 *ℤ c.x ≡ pos 0
  pub by : w0 *ℤ p.y +ℤ w1 *ℤ a.y +ℤ w2 *ℤ b.y +ℤ w3 *ℤ c.y ≡ pos 0
  pub bz : w0 *ℤ p.z +ℤ w1 *ℤ a.z +ℤ w2 *ℤ b.z +ℤ w3 *ℤ c.z ≡ pos 0

pub cramer : (a b c p : Vec3) → ZeroSum (depth a b c) (det p b c) (det a p c) (det a b p) p a b c
cramer a b c p = record {
  bx = by_ring (env1 a (env1 b (env1 c (env1 p [])))) (search sides depth 40) refl;
  by = by_ring (env1 a (env1 b (env1 c (env1 p [])))) (search sides depth 40) refl;
  bz = by_ring (env1 a (env1 b (env1 c (env1 p [])))) (search sides depth 40) refl;
}

-- such a sum along any d
pub zero_sum_dot : {w0 w1 w2 w3 : ℤ} {p a b c : Vec3} → ZeroSum w0 w1 w2 w3 p a b c → (d : Vec3) → w0 *ℤ dot d p +ℤ w1 *ℤ dot d a +ℤ w2 *ℤ dot d b +ℤ w3 *ℤ dot d c ≡ pos 0
zero_sum_dot {w0} {w1} {w2} {w3} {p} {a} {b} {c} e d =
    split ∙ ap₂ (λ u v. d.x *ℤ u +ℤ d.y *ℤ v +ℤ d.z *ℤ (w0 *ℤ p.z +ℤ w1 *ℤ a.z +ℤ w2 *ℤ b.z +ℤ w3 *ℤ c.z)) e.bx e.by
    ∙ ap (λ u. d.x *ℤ pos 0 +ℤ d.y *ℤ pos 0 +ℤ d.z *ℤ u) e.bz ∙ by_ring (env1 d []) (search sides depth 9) refl
  where
    split : w0 *ℤ dot d p +ℤ w1 *ℤ dot d a +ℤ w2 *ℤ dot d b +ℤ w3 *ℤ dot d c
        ≡ d.x *ℤ (w0 *ℤ p.x +ℤ w1 *ℤ a.x +ℤ w2 *ℤ b.x +ℤ w3 *ℤ c.x) +ℤ d.y *ℤ (w0 *ℤ p.y +ℤ w1 *ℤ a.y +ℤ w2 *ℤ b.y +ℤ w3 *ℤ c.y)
        +ℤ d.z *ℤ (w0 *ℤ p.z +ℤ w1 *ℤ a.z +ℤ w2 *ℤ b.z +ℤ w3 *ℤ c.z)
    split = by_ring (w0 ∷ w1 ∷ w2 ∷ w3 ∷ env1 d (env1 p (env1 a (env1 b (env1 c []))))) (search sides depth 40) refl

-- ---- A3: the three edges
pub a3_c : (a b c p r : Vec3) → depth a b c *ℤ dot (cross p c) r ≡ det a p c *ℤ neg_ℤ (det r b c) -ℤ det p b c *ℤ neg_ℤ (det a r c)
a3_c a b c p r = by_ring (env1 a (env1 b (env1 c (env1 p (env1 r []))))) (search sides depth 40) refl

pub a3_a : (a b c p r : Vec3) → depth a b c *ℤ dot (cross p a) r ≡ det a b p *ℤ neg_ℤ (det a r c) -ℤ det a p c *ℤ neg_ℤ (det a b r)
a3_a a b c p r = by_ring (env1 a (env1 b (env1 c (env1 p (env1 r []))))) (search sides depth 40) refl

pub a3_b : (a b c p r : Vec3) → depth a b c *ℤ dot (cross p b) r ≡ det p b c *ℤ neg_ℤ (det a b r) -ℤ det a b p *ℤ neg_ℤ (det r b c)
a3_b a b c p r = by_ring (env1 a (env1 b (env1 c (env1 p (env1 r []))))) (search sides depth 40) refl

-- ---- A4: rotation
pub det_rot : (a b c : Vec3) → det b c a ≡ det a b c
det_rot a b c = by_ring (env1 a (env1 b (env1 c []))) (search sides depth 40) refl

pub reach_rot : (a b c r : Vec3) → reach b c a r ≡ reach a b c r
reach_rot a b c r = by_ring (env1 a (env1 b (env1 c (env1 r [])))) (search sides depth 40) refl

pub normal_rot : (a b c y : Vec3) → dot (normal b c a) y ≡ dot (normal a b c) y
normal_rot a b c y = by_ring (env1 a (env1 b (env1 c (env1 y [])))) (search sides depth 40) refl

pos_is : {t s : ℤ} → t ≡ s → pos 0 <ℤ s → pos 0 <ℤ t
pos_is e h = subst (λ z. pos 0 <ℤ z) (sym e) h

pub inv_rot : {a b c r : Vec3} → Inv a b c r → Inv b c a r
inv_rot {a} {b} {c} {r} i = record {
  hp = pos_is (ap neg_ℤ (det_rot a b c)) i.hp;
  g1 = pos_is (ap neg_ℤ (det_rot a r c)) i.g2;
  g2 = pos_is (ap neg_ℤ (det_rot a b r)) i.g3;
  g3 = pos_is (ap neg_ℤ (det_rot r b c)) i.g1;
}

-- the reach of a portal is positive
pub reach_pos : {a b c r : Vec3} → Inv a b c r → pos 0 <ℤ reach a b c r
reach_pos {a} {b} {c} {r} i = pos_is (a1_ray a b c r) (pos_add (pos_add i.g1 (lt→≤ℤ i.g2)) (lt→≤ℤ i.g3))

-- ---- A5: not all three are negative
pub a5 : (a b c p : Vec3) → pos 0 ≤ℤ dot (normal a b c) p → det p b c <ℤ pos 0 → det a p c <ℤ pos 0 → det a b p <ℤ pos 0 → ⊥
a5 a b c p v h1 h2 h3 =
    clash_ℤ (pos_add (pos_add (<ℤ-neg h1) (lt→≤ℤ (<ℤ-neg h2))) (lt→≤ℤ (<ℤ-neg h3)))
    (subst (λ z. z ≤ℤ pos 0) (neg_sum (det p b c) (det a p c) (det a b p)) (≤ℤ-neg (subst (λ z. pos 0 ≤ℤ z) (normal_along a b c p) v)))
  where
    neg_sum : (u v w : ℤ) → neg_ℤ (u +ℤ v +ℤ w) ≡ neg_ℤ u +ℤ neg_ℤ v +ℤ neg_ℤ w
    neg_sum u v w = by_ring (u ∷ v ∷ w ∷ []) (search sides depth 9) refl

-- ---- B1, B2: p takes the place of the first corner. h' = - D1 and G1' = G1 hold as they are written
pub b1_second : (p c r : Vec3) → neg_ℤ (det p r c) ≡ dot (cross p c) r
b1_second p c r = by_ring (env1 p (env1 c (env1 r []))) (search sides depth 40) refl

pub b1_first : (p c r : Vec3) → det r p c ≡ dot (cross p c) r
b1_first p c r = by_ring (env1 p (env1 c (env1 r []))) (search sides depth 40) refl

-- progress, where p takes the place of the second corner
pub b2_second : (a b c p r : Vec3) → reach a p c r *ℤ depth a b c -ℤ reach a b c r *ℤ depth a p c ≡ neg_ℤ (det a r c) *ℤ (depth a b c +ℤ dot (normal a b c) p)
b2_second a b c p r = by_ring (env1 a (env1 b (env1 c (env1 p (env1 r []))))) (search sides depth 40) refl

-- ---- B5
pub b5_edge : (a c p : Vec3) → dot (cross p c) a ≡ det a p c
b5_edge a c p = by_ring (env1 a (env1 c (env1 p []))) (search sides depth 40) refl

pub b5_frame : (c1 c2 c3 m y : Vec3) → det c1 c2 c3 *ℤ dot m y ≡ dot m c1 *ℤ det y c2 c3 +ℤ dot m c2 *ℤ det c1 y c3 +ℤ dot m c3 *ℤ det c1 c2 y
b5_frame c1 c2 c3 m y = by_ring (env1 c1 (env1 c2 (env1 c3 (env1 m (env1 y []))))) (search sides depth 40) refl

-- what is 0 on three independent vectors is 0
pub frame_zero : (c1 c2 c3 m y : Vec3) → (det c1 c2 c3 ≡ pos 0 → ⊥) → dot m c1 ≡ pos 0 → dot m c2 ≡ pos 0 → dot m c3 ≡ pos 0 → dot m y ≡ pos 0
frame_zero c1 c2 c3 m y f e1 e2 e3 = ⊎_elim (λ e. absurd (f e)) (λ e. e)
    (zero-product (det c1 c2 c3) (dot m y) (b5_frame c1 c2 c3 m y ∙ ap₂ ◌+ℤ◌ (ap₂ ◌+ℤ◌ (nil e1 (det y c2 c3)) (nil e2 (det c1 y c3))) (nil e3 (det c1 c2 y))))
  where
    nil : {u : ℤ} → u ≡ pos 0 → (v : ℤ) → u *ℤ v ≡ pos 0
    nil e v = ap (λ w. w *ℤ v) e ∙ zero-*ℤ v

-- ---- B3, B4: what follows a round
-- the new portal (a', b', c') is one of the ray's, and further on than (a, b, c): s' h > s h'
pub record Onward (a b c r a' b' c' : Vec3) : Type 0 where
  pub inv : Inv a' b' c' r
  pub more : (reach a b c r *ℤ depth a' b' c') <ℤ (reach a' b' c' r *ℤ depth a b c)

flip : (u g v k : ℤ) → u *ℤ g -ℤ v *ℤ k ≡ neg_ℤ v *ℤ k +ℤ u *ℤ g
flip u g v k = by_ring (u ∷ g ∷ v ∷ k ∷ []) (search sides depth 9) refl

pub b3 : {a b c r : Vec3} (p : Vec3) → Inv a b c r → pos 0 ≤ℤ dot (normal a b c) p → det p b c <ℤ pos 0 → pos 0 ≤ℤ det a b p
    → (pos 0 ≤ℤ det a p c) ⊎ (pos 0 <ℤ dot (cross p c) r) → Onward a b c r p b c
b3 {a} {b} {c} {r} p i v d1 d3 t = record {
  inv = record {
    hp = <ℤ-neg d1;
    g1 = i.g1;
    g2 = pos_is (b1_second p c r) (⊎_elim second (λ h. h) t);
    g3 = third;
  };
  more = lt_comb (pos_mul i.g1 (pos_add i.hp v)) (progress a b c p r);
}
  where
    second : pos 0 ≤ℤ det a p c → pos 0 <ℤ dot (cross p c) r
    second d2 = pos_factor {a = depth a b c} {b = dot (cross p c) r} i.hp
        (pos_is (a3_c a b c p r ∙ flip (det a p c) (neg_ℤ (det r b c)) (det p b c) (neg_ℤ (det a r c))) (pos_add (pos_mul (<ℤ-neg d1) i.g2) (nn_mul d2 (lt→≤ℤ i.g1))))

    third : pos 0 <ℤ neg_ℤ (det p b r)
    third = pos_factor {a = depth a b c} {b = neg_ℤ (det p b r)} i.hp
        (pos_is (neg_out (depth a b c) (det p b r) ∙ ap neg_ℤ (a3_b a b c p r) ∙ turned (det p b c *ℤ neg_ℤ (det a b r)) (det a b p *ℤ neg_ℤ (det r b c))
        ∙ flip (det a b p) (neg_ℤ (det r b c)) (det p b c) (neg_ℤ (det a b r)))
        (pos_add (pos_mul (<ℤ-neg d1) i.g3) (nn_mul d3 (lt→≤ℤ i.g1))))
      where
        neg_out : (u v : ℤ) → u *ℤ neg_ℤ v ≡ neg_ℤ (u *ℤ v)
        neg_out u v = by_ring (u ∷ v ∷ []) (search sides depth 9) refl

        turned : (u v : ℤ) → neg_ℤ (u -ℤ v) ≡ v -ℤ u
        turned u v = by_ring (u ∷ v ∷ []) (search sides depth 9) refl

pub b4 : {a b c r : Vec3} (p : Vec3) → Inv a b c r → pos 0 ≤ℤ dot (normal a b c) p → det a p c <ℤ pos 0 → pos 0 ≤ℤ det a b p
    → dot (cross p c) r <ℤ pos 0 → Onward a b c r a p c
b4 {a} {b} {c} {r} p i v d2 d3 t = record {
  inv = record {
    hp = <ℤ-neg d2;
    g1 = pos_is (ap neg_ℤ (b1_first p c r)) (<ℤ-neg t);
    g2 = i.g2;
    g3 = third;
  };
  more = lt_comb (pos_mul i.g2 (pos_add i.hp v)) (b2_second a b c p r);
}
  where
    third : pos 0 <ℤ neg_ℤ (det a p r)
    third = pos_factor {a = depth a b c} {b = neg_ℤ (det a p r)} i.hp
        (pos_is (ap (λ z. depth a b c *ℤ z) (swap a p r) ∙ a3_a a b c p r ∙ flip (det a b p) (neg_ℤ (det a r c)) (det a p c) (neg_ℤ (det a b r)))
        (pos_add (pos_mul (<ℤ-neg d2) i.g3) (nn_mul d3 (lt→≤ℤ i.g2))))
      where
        swap : (a p r : Vec3) → neg_ℤ (det a p r) ≡ dot (cross p a) r
        swap a p r = by_ring (env1 a (env1 p (env1 r []))) (search sides depth 40) refl

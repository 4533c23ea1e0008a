-- Shifted points k p + q and the ray l² c1 + l c2 + c3, for any k and l: the identities K1 to K5, and what they say of signs.
use Rattle.std.specs.Prelude.{◌≡◌, refl, [], ◌∷◌, ℤ, pos, neg_ℤ, ◌+ℤ◌, ◌*ℤ◌, ◌<ℤ◌}
use Rattle.std.proofs.Common.{sym, ap, ap₂, ◌∙◌, subst}
use Rattle.ints.proofs.Quote.{sides, by_ring}
use Rattle.ints.proofs.OrderLaws.{pos_mul, pos_factor, <ℤ-neg}
use Rattle.space.specs.declared.Vec3.{Vec3}
use Rattle.space.specs.Vectors.{dot, cross, minus, plus, scale, det, normal, env1, origin}
use Rattle.verdict_portal.specs.Portal.{Inv, depth}
use Rattle.ints.specs.Sign.{Same, Under, lex}
use Rattle.ints.proofs.SignLaws.{l1, l2, same_trans, same_eq, same_mul, same_lex, lex_assoc, lex_other, gt_other}

abbrev pub shift : ℤ → Vec3 → Vec3 → Vec3
shift k q p = plus (scale k p) q

abbrev pub ray : ℤ → Vec3 → Vec3 → Vec3 → Vec3
ray l c1 c2 c3 = plus (plus (scale (l *ℤ l) c1) (scale l c2)) c3

-- l² u + l v + w
abbrev pub row : ℤ → ℤ → ℤ → ℤ → ℤ
row l u v w = l *ℤ l *ℤ u +ℤ l *ℤ v +ℤ w

-- ---- what the walk computes
-- the side of p at the edge from b to c: (b×c)·p, and (b×c + p×(b-c))·q
abbrev pub side_low : Vec3 → Vec3 → Vec3 → Vec3 → ℤ
side_low q p b c = dot (plus (cross b c) (cross p (minus b c))) q

abbrev pub side : Vec3 → Vec3 → Vec3 → Vec3 → ℤ
side q p b c = lex (dot (cross b c) p) (side_low q p b c)

-- the exit: n·p, and n·q
abbrev pub front : Vec3 → Vec3 → Vec3 → Vec3 → Vec3 → ℤ
front q p a b c = lex (dot (normal a b c) p) (dot (normal a b c) q)

-- the first of m·c1, m·c2, m·c3, m'·c1, m'·c2, m'·c3 that is not 0, m = p×r, m' = (p-r)×q
abbrev pub tie6 : Vec3 → Vec3 → Vec3 → Vec3 → Vec3 → ℤ
tie6 m n c1 c2 c3 = lex (dot m c1) (lex (dot m c2) (lex (dot m c3) (lex (dot n c1) (lex (dot n c2) (dot n c3)))))

abbrev pub tie : Vec3 → Vec3 → Vec3 → Vec3 → Vec3 → Vec3 → ℤ
tie q p r c1 c2 c3 = tie6 (cross p r) (cross (minus p r) q) c1 c2 c3

-- ---- K1
pub k1 : (k : ℤ) (q p b c : Vec3) → det (shift k q p) (shift k q b) (shift k q c) ≡ k *ℤ k *ℤ (k *ℤ dot (cross b c) p +ℤ side_low q p b c)
k1 k q p b c = by_ring (k ∷ env1 q (env1 p (env1 b (env1 c [])))) (search sides depth 40) refl

pub k1_sign : (k : ℤ) (q p b c : Vec3) → pos 0 <ℤ k → Under k (side_low q p b c) → Same (det (shift k q p) (shift k q b) (shift k q c)) (side q p b c)
k1_sign k q p b c h u =
    same_trans (same_eq (k1 k q p b c)) (same_trans (same_mul (k *ℤ k) (k *ℤ dot (cross b c) p +ℤ side_low q p b c) (pos_mul h h)) (l2 k (dot (cross b c) p) (side_low q p b c) u))

-- ---- K2
pub k2_normal : (k : ℤ) (q a b c y : Vec3) → dot (normal (shift k q a) (shift k q b) (shift k q c)) y ≡ k *ℤ k *ℤ dot (normal a b c) y
k2_normal k q a b c y = by_ring (k ∷ env1 q (env1 a (env1 b (env1 c (env1 y []))))) (search sides depth 40) refl

pub k2 : (k : ℤ) (q a b c p : Vec3) → dot (normal (shift k q a) (shift k q b) (shift k q c)) (shift k q p) ≡ k *ℤ k *ℤ (k *ℤ dot (normal a b c) p +ℤ dot (normal a b c) q)
k2 k q a b c p = by_ring (k ∷ env1 q (env1 a (env1 b (env1 c (env1 p []))))) (search sides depth 40) refl

pub k2_sign : (k : ℤ) (q a b c p : Vec3) → pos 0 <ℤ k → Under k (dot (normal a b c) q)
    → Same (dot (normal (shift k q a) (shift k q b) (shift k q c)) (shift k q p)) (front q p a b c)
k2_sign k q a b c p h u =
    same_trans (same_eq (k2 k q a b c p))
    (same_trans (same_mul (k *ℤ k) (k *ℤ dot (normal a b c) p +ℤ dot (normal a b c) q) (pos_mul h h)) (l2 k (dot (normal a b c) p) (dot (normal a b c) q) u))

-- ---- K3
pub k3_one : (k : ℤ) (q p r c : Vec3) → dot (cross (shift k q p) (shift k q r)) c ≡ k *ℤ (k *ℤ dot (cross p r) c +ℤ dot (cross (minus p r) q) c)
k3_one k q p r c = by_ring (k ∷ env1 q (env1 p (env1 r (env1 c [])))) (search sides depth 40) refl

pub along : (l : ℤ) (m c1 c2 c3 : Vec3) → dot m (ray l c1 c2 c3) ≡ row l (dot m c1) (dot m c2) (dot m c3)
along l m c1 c2 c3 = by_ring (l ∷ env1 m (env1 c1 (env1 c2 (env1 c3 [])))) (search sides depth 40) refl

-- three numbers that l outweighs
pub record Under3 (l u v w : ℤ) : Type 0 where
  pub at1 : Under l u
  pub at2 : Under l v
  pub at3 : Under l w

tie_row : (k l u1 u2 u3 v1 v2 v3 : ℤ) → Under3 l u1 u2 u3 → Under3 l v1 v2 v3 → Under k (row l v1 v2 v3)
    → Same (k *ℤ row l u1 u2 u3 +ℤ row l v1 v2 v3) (lex u1 (lex u2 (lex u3 (lex v1 (lex v2 v3)))))
tie_row k l u1 u2 u3 v1 v2 v3 hu hv hr =
    same_trans (l2 k (row l u1 u2 u3) (row l v1 v2 v3) hr)
    (same_trans (same_lex (l1 l u1 u2 u3 hu.at2 hu.at3) (l1 l v1 v2 v3 hv.at2 hv.at3))
    (same_eq (lex_assoc u1 (lex u2 u3) (lex v1 (lex v2 v3)) ∙ ap (lex u1) (lex_assoc u2 u3 (lex v1 (lex v2 v3))))))

pub k3_sign : (k l : ℤ) (q p r c1 c2 c3 : Vec3) → pos 0 <ℤ k
    → Under3 l (dot (cross p r) c1) (dot (cross p r) c2) (dot (cross p r) c3)
    → Under3 l (dot (cross (minus p r) q) c1) (dot (cross (minus p r) q) c2) (dot (cross (minus p r) q) c3)
    → Under k (row l (dot (cross (minus p r) q) c1) (dot (cross (minus p r) q) c2) (dot (cross (minus p r) q) c3))
    → Same (dot (cross (shift k q p) (shift k q r)) (ray l c1 c2 c3)) (tie q p r c1 c2 c3)
k3_sign k l q p r c1 c2 c3 h hu hv hr =
    same_trans (same_eq (k3_one k q p r (ray l c1 c2 c3) ∙ ap₂ (λ s t. k *ℤ (k *ℤ s +ℤ t)) (along l (cross p r) c1 c2 c3) (along l (cross (minus p r) q) c1 c2 c3)))
    (same_trans (same_mul k
    (k *ℤ row l (dot (cross p r) c1) (dot (cross p r) c2) (dot (cross p r) c3) +ℤ row l (dot (cross (minus p r) q) c1) (dot (cross (minus p r) q) c2) (dot (cross (minus p r) q) c3)) h)
    (tie_row k l (dot (cross p r) c1) (dot (cross p r) c2) (dot (cross p r) c3) (dot (cross (minus p r) q) c1) (dot (cross (minus p r) q) c2) (dot (cross (minus p r) q) c3) hu hv hr))

-- ---- K4: from the plain portal to the shifted one
over_pos : (k a b : ℤ) → Under k b → pos 0 <ℤ a → pos 0 <ℤ (k *ℤ a +ℤ b)
over_pos k a b u h = (l2 k a b u).up (subst (λ z. pos 0 <ℤ z) (sym (lex_other b (gt_other h))) h)

k4_h : (k : ℤ) (q a b c : Vec3) → depth (shift k q a) (shift k q b) (shift k q c) ≡ k *ℤ k *ℤ (k *ℤ depth a b c +ℤ neg_ℤ (dot (normal a b c) q))
k4_h k q a b c = by_ring (k ∷ env1 q (env1 a (env1 b (env1 c [])))) (search sides depth 40) refl

k4_g1 : (k : ℤ) (q r b c : Vec3) → neg_ℤ (det r (shift k q b) (shift k q c)) ≡ k *ℤ (k *ℤ neg_ℤ (det r b c) +ℤ neg_ℤ (dot (cross (minus b c) q) r))
k4_g1 k q r b c = by_ring (k ∷ env1 q (env1 r (env1 b (env1 c [])))) (search sides depth 40) refl

k4_g2 : (k : ℤ) (q a r c : Vec3) → neg_ℤ (det (shift k q a) r (shift k q c)) ≡ k *ℤ (k *ℤ neg_ℤ (det a r c) +ℤ neg_ℤ (dot (cross (minus c a) q) r))
k4_g2 k q a r c = by_ring (k ∷ env1 q (env1 r (env1 a (env1 c [])))) (search sides depth 40) refl

k4_g3 : (k : ℤ) (q a b r : Vec3) → neg_ℤ (det (shift k q a) (shift k q b) r) ≡ k *ℤ (k *ℤ neg_ℤ (det a b r) +ℤ neg_ℤ (dot (cross (minus a b) q) r))
k4_g3 k q a b r = by_ring (k ∷ env1 q (env1 r (env1 a (env1 b [])))) (search sides depth 40) refl

pub k4 : (k : ℤ) (q a b c r : Vec3) → pos 0 <ℤ k → Under k (neg_ℤ (dot (normal a b c) q))
    → Under k (neg_ℤ (dot (cross (minus b c) q) r)) → Under k (neg_ℤ (dot (cross (minus c a) q) r)) → Under k (neg_ℤ (dot (cross (minus a b) q) r))
    → Inv a b c r → Inv (shift k q a) (shift k q b) (shift k q c) r
k4 k q a b c r h u u1 u2 u3 i = record {
  hp = subst (λ z. pos 0 <ℤ z) (sym (k4_h k q a b c)) (pos_mul (pos_mul h h) (over_pos k (depth a b c) (neg_ℤ (dot (normal a b c) q)) u i.hp));
  g1 = subst (λ z. pos 0 <ℤ z) (sym (k4_g1 k q r b c)) (pos_mul h (over_pos k (neg_ℤ (det r b c)) (neg_ℤ (dot (cross (minus b c) q) r)) u1 i.g1));
  g2 = subst (λ z. pos 0 <ℤ z) (sym (k4_g2 k q a r c)) (pos_mul h (over_pos k (neg_ℤ (det a r c)) (neg_ℤ (dot (cross (minus c a) q) r)) u2 i.g2));
  g3 = subst (λ z. pos 0 <ℤ z) (sym (k4_g3 k q a b r)) (pos_mul h (over_pos k (neg_ℤ (det a b r)) (neg_ℤ (dot (cross (minus a b) q) r)) u3 i.g3));
}

-- and back, where the shift is by nothing: what the strict walk hands to the weak one
pub k4_back : (k : ℤ) (a b c r : Vec3) → pos 0 <ℤ k → Inv (shift k origin a) (shift k origin b) (shift k origin c) r → Inv a b c r
k4_back k a b c r h i = record {
  hp = pos_factor {a = k *ℤ (k *ℤ k)} (pos_mul h (pos_mul h h)) (subst (λ z. pos 0 <ℤ z) (by_ring (k ∷ env1 a (env1 b (env1 c []))) (search sides depth 40) refl) i.hp);
  g1 = pos_factor {a = k *ℤ k} (pos_mul h h) (subst (λ z. pos 0 <ℤ z) (by_ring (k ∷ env1 r (env1 b (env1 c []))) (search sides depth 40) refl) i.g1);
  g2 = pos_factor {a = k *ℤ k} (pos_mul h h) (subst (λ z. pos 0 <ℤ z) (by_ring (k ∷ env1 a (env1 r (env1 c []))) (search sides depth 40) refl) i.g2);
  g3 = pos_factor {a = k *ℤ k} (pos_mul h h) (subst (λ z. pos 0 <ℤ z) (by_ring (k ∷ env1 a (env1 b (env1 r []))) (search sides depth 40) refl) i.g3);
}

-- ---- K5: the portals of the frame
pub k5 : (l : ℤ) (c1 c2 c3 : Vec3) → pos 0 <ℤ l → det c1 c2 c3 <ℤ pos 0 → Inv c1 c2 c3 (ray l c1 c2 c3)
k5 l c1 c2 c3 h d = record {
  hp = <ℤ-neg d;
  g1 = subst (λ z. pos 0 <ℤ z) (by_ring (l ∷ env1 c1 (env1 c2 (env1 c3 []))) (search sides depth 40) refl) (pos_mul (pos_mul h h) (<ℤ-neg d));
  g2 = subst (λ z. pos 0 <ℤ z) (by_ring (l ∷ env1 c1 (env1 c2 (env1 c3 []))) (search sides depth 40) refl) (pos_mul h (<ℤ-neg d));
  g3 = subst (λ z. pos 0 <ℤ z) (by_ring (l ∷ env1 c1 (env1 c2 (env1 c3 []))) (search sides depth 40) refl) (<ℤ-neg d);
}

pub k5_flipped : (l : ℤ) (c1 c2 c3 : Vec3) → pos 0 <ℤ l → pos 0 <ℤ det c1 c2 c3 → Inv c1 c3 c2 (ray l c1 c2 c3)
k5_flipped l c1 c2 c3 h d = record {
  hp = subst (λ z. pos 0 <ℤ z) (by_ring (env1 c1 (env1 c2 (env1 c3 []))) (search sides depth 40) refl) d;
  g1 = subst (λ z. pos 0 <ℤ z) (by_ring (l ∷ env1 c1 (env1 c2 (env1 c3 []))) (search sides depth 40) refl) (pos_mul (pos_mul h h) d);
  g2 = subst (λ z. pos 0 <ℤ z) (by_ring (l ∷ env1 c1 (env1 c2 (env1 c3 []))) (search sides depth 40) refl) d;
  g3 = subst (λ z. pos 0 <ℤ z) (by_ring (l ∷ env1 c1 (env1 c2 (env1 c3 []))) (search sides depth 40) refl) (pos_mul h d);
}

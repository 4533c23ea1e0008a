-- One round of the walk: what its signs, all of small numbers, say of the shifted points. The portal is (a, b, c), the support p; the slots' signs are side q p b c, side q p c a, side q p a b.
use Rattle.std.specs.Prelude.{◌≡◌, ◌⊎◌, ℕ, ◌<◌, ℤ, pos, neg_ℤ, ◌+ℤ◌, ◌*ℤ◌, ◌≤ℤ◌, ◌<ℤ◌}
use Rattle.std.proofs.Common.{sym, ap, ap₂, ◌∙◌, subst, inl, inr, ⊎_elim}
use Rattle.std.proofs.Math.IntN.{*ℤ-zero}
use Rattle.std.specs.Int.Signed.{clash_ℤ}
use Rattle.ints.specs.Order.{le-or-lt, trichotomy, lt→≤ℤ}
use Rattle.space.specs.declared.Vec3.{Vec3}
use Rattle.space.specs.Vectors.{dot, cross, minus, det, normal}
use Rattle.space.specs.Ranges.{Upto, point_reach, shift_reach}
use Rattle.verdict_portal.specs.Portal.{Inv, Onward, ZeroSum, depth, reach, inv_rot, reach_pos, reach_rot, det_rot, normal_rot, a5, b3, b4, b5_edge, frame_zero, cramer}
use Rattle.ints.specs.Measure.{measure}
use Rattle.ints.proofs.MeasureLaws.{falls}
use Rattle.ints.specs.Sign.{Same, lex}
use Rattle.ints.proofs.SignLaws.{same_nn, same_trans, same_eq, lex_both, lt_other}
use Rattle.verdict_portal.specs.Shift.{side, front, tie}
use Rattle.verdict_portal.specs.Sizes.{big_k, big_s, hat, beam, side_sign, front_sign, tie_sign, tie_one, reach_upper}

-- ---- what a walk holds fast
pub record Setting (q c1 c2 c3 : Vec3) : Type 0 where
  pub inq : Upto shift_reach q
  pub in1 : Upto point_reach c1
  pub in2 : Upto point_reach c2
  pub in3 : Upto point_reach c3
  pub free : det c1 c2 c3 ≡ pos 0 → ⊥

-- ---- its portal
pub record PortalHeld (q c1 c2 c3 a b c : Vec3) : Type 0 where
  pub ina : Upto point_reach a
  pub inb : Upto point_reach b
  pub inc : Upto point_reach c
  pub inv : Inv (hat q a) (hat q b) (hat q c) (beam c1 c2 c3)

-- ---- its measure
unfoldable pub left : (q c1 c2 c3 a b c : Vec3) → ℕ
left q c1 c2 c3 a b c = measure big_s (depth (hat q a) (hat q b) (hat q c)) (reach (hat q a) (hat q b) (hat q c) (beam c1 c2 c3))

-- ---- what a round makes of it
pub record Moved (q c1 c2 c3 a b c a' b' c' : Vec3) : Type 0 where
  pub held : PortalHeld q c1 c2 c3 a' b' c'
  pub less : left q c1 c2 c3 a' b' c' < left q c1 c2 c3 a b c

-- ---- or the meeting that it finds: the balance of the shifted points, the weight of p positive
pub record Met (q p a b c : Vec3) : Type 0 where
  pub w0 : pos 0 <ℤ depth (hat q a) (hat q b) (hat q c)
  pub w1 : pos 0 ≤ℤ det (hat q p) (hat q b) (hat q c)
  pub w2 : pos 0 ≤ℤ det (hat q a) (hat q p) (hat q c)
  pub w3 : pos 0 ≤ℤ det (hat q a) (hat q b) (hat q p)
  pub sum : ZeroSum (depth (hat q a) (hat q b) (hat q c)) (det (hat q p) (hat q b) (hat q c))
      (det (hat q a) (hat q p) (hat q c)) (det (hat q a) (hat q b) (hat q p)) (hat q p) (hat q a) (hat q b) (hat q c)

-- ---- the slot of p: all three edges have it inside, or it is outside at one, u, and inside at the one before, w
pub record AllNN (u v w : ℤ) : Type 0 where
  pub n1 : pos 0 ≤ℤ u
  pub n2 : pos 0 ≤ℤ v
  pub n3 : pos 0 ≤ℤ w

pub record At (u w : ℤ) : Type 0 where
  pub here : u <ℤ pos 0
  pub back : pos 0 ≤ℤ w

-- ---- rotation
pub held_rot : {q c1 c2 c3 a b c : Vec3} → PortalHeld q c1 c2 c3 a b c → PortalHeld q c1 c2 c3 b c a
held_rot h = record { ina = h.inb; inb = h.inc; inc = h.ina; inv = inv_rot h.inv }

pub left_rot : (q c1 c2 c3 a b c : Vec3) → left q c1 c2 c3 b c a ≡ left q c1 c2 c3 a b c
unfolding left
left_rot q c1 c2 c3 a b c = ap₂ (λ h s. measure big_s h s) (ap neg_ℤ (det_rot (hat q a) (hat q b) (hat q c))) (reach_rot (hat q a) (hat q b) (hat q c) (beam c1 c2 c3))

pub moved_rot : {q c1 c2 c3 a b c u v w : Vec3} → Moved q c1 c2 c3 b c a v w u → Moved q c1 c2 c3 a b c u v w
moved_rot {q} {c1} {c2} {c3} {a} {b} {c} {u} {v} {w} m = record {
  held = held_rot (held_rot m.held);
  less = subst (λ n. n < left q c1 c2 c3 a b c) (left_rot q c1 c2 c3 u v w) (subst (λ n. left q c1 c2 c3 v w u < n) (left_rot q c1 c2 c3 a b c) m.less);
}

pub front_rot : (q p a b c : Vec3) → front q p b c a ≡ front q p a b c
front_rot q p a b c = ap₂ lex (normal_rot a b c p) (normal_rot a b c q)

-- ---- the three slots' signs
module _ {q c1 c2 c3 a b c p : Vec3} (s : Setting q c1 c2 c3) (h : PortalHeld q c1 c2 c3 a b c) (i : Upto point_reach p) where
  slot1 : Same (det (hat q p) (hat q b) (hat q c)) (side q p b c)
  slot1 = side_sign s.inq i h.inb h.inc

  slot2 : Same (det (hat q a) (hat q p) (hat q c)) (side q p c a)
  slot2 = same_trans (same_eq (sym (det_rot (hat q a) (hat q p) (hat q c)))) (side_sign s.inq i h.inc h.ina)

  slot3 : Same (det (hat q a) (hat q b) (hat q p)) (side q p a b)
  slot3 = same_trans (same_eq (det_rot (hat q p) (hat q a) (hat q b))) (side_sign s.inq i h.ina h.inb)

  fore : pos 0 ≤ℤ front q p a b c → pos 0 ≤ℤ dot (normal (hat q a) (hat q b) (hat q c)) (hat q p)
  fore v = same_nn (front_sign p s.inq h.ina h.inb h.inc) v

  tie_of : Same (dot (cross (hat q p) (hat q c)) (beam c1 c2 c3)) (tie q p c c1 c2 c3)
  tie_of = tie_sign s.inq i h.inc s.in1 s.in2 s.in3

  -- A5
  pub not-all : pos 0 ≤ℤ front q p a b c → side q p b c <ℤ pos 0 → side q p c a <ℤ pos 0 → side q p a b <ℤ pos 0 → ⊥
  not-all v d1 d2 d3 = a5 (hat q a) (hat q b) (hat q c) (hat q p) (fore v) (slot1.down d1) (slot2.down d2) (slot3.down d3)

  -- B5
  pub tie_decides : side q p c a <ℤ pos 0 → tie q p c c1 c2 c3 ≡ pos 0 → ⊥
  tie_decides d2 e =
      lt_other (slot2.down d2)
      (sym (b5_edge (hat q a) (hat q c) (hat q p)) ∙ frame_zero c1 c2 c3 (cross (hat q p) (hat q c)) (hat q a) s.free (one c1 z1.0 z4.0) (one c2 z2.0 z5.0) (one c3 z3.0 z5.1))
    where
      z1 : (dot (cross p c) c1 ≡ pos 0)
          × (lex (dot (cross p c) c2) (lex (dot (cross p c) c3) (lex (dot (cross (minus p c) q) c1) (lex (dot (cross (minus p c) q) c2) (dot (cross (minus p c) q) c3)))) ≡ pos 0)
      z1 =
          lex_both (dot (cross p c) c1) (lex (dot (cross p c) c2) (lex (dot (cross p c) c3) (lex (dot (cross (minus p c) q) c1) (lex (dot (cross (minus p c) q) c2) (dot (cross (minus p c) q) c3))))) e

      z2 : (dot (cross p c) c2 ≡ pos 0) × (lex (dot (cross p c) c3) (lex (dot (cross (minus p c) q) c1) (lex (dot (cross (minus p c) q) c2) (dot (cross (minus p c) q) c3))) ≡ pos 0)
      z2 = lex_both (dot (cross p c) c2) (lex (dot (cross p c) c3) (lex (dot (cross (minus p c) q) c1) (lex (dot (cross (minus p c) q) c2) (dot (cross (minus p c) q) c3)))) z1.1

      z3 : (dot (cross p c) c3 ≡ pos 0) × (lex (dot (cross (minus p c) q) c1) (lex (dot (cross (minus p c) q) c2) (dot (cross (minus p c) q) c3)) ≡ pos 0)
      z3 = lex_both (dot (cross p c) c3) (lex (dot (cross (minus p c) q) c1) (lex (dot (cross (minus p c) q) c2) (dot (cross (minus p c) q) c3))) z2.1

      z4 : (dot (cross (minus p c) q) c1 ≡ pos 0) × (lex (dot (cross (minus p c) q) c2) (dot (cross (minus p c) q) c3) ≡ pos 0)
      z4 = lex_both (dot (cross (minus p c) q) c1) (lex (dot (cross (minus p c) q) c2) (dot (cross (minus p c) q) c3)) z3.1

      z5 : (dot (cross (minus p c) q) c2 ≡ pos 0) × (dot (cross (minus p c) q) c3 ≡ pos 0)
      z5 = lex_both (dot (cross (minus p c) q) c2) (dot (cross (minus p c) q) c3) z4.1

      one : (y : Vec3) → dot (cross p c) y ≡ pos 0 → dot (cross (minus p c) q) y ≡ pos 0 → dot (cross (hat q p) (hat q c)) y ≡ pos 0
      one y u v = tie_one q p c y ∙ ap₂ (λ m n. big_k *ℤ (big_k *ℤ m +ℤ n)) u v ∙ ap (λ m. big_k *ℤ (m +ℤ pos 0)) (*ℤ-zero big_k) ∙ *ℤ-zero big_k

  -- the measure of a portal that is further on
  on : {a' b' c' : Vec3} → Upto point_reach a' → Upto point_reach b' → Upto point_reach c' → Onward (hat q a) (hat q b) (hat q c) (beam c1 c2 c3) (hat q a') (hat q b') (hat q c')
      → Moved q c1 c2 c3 a b c a' b' c'
  unfolding left
  on {a'} {b'} {c'} u v w o = record {
    held = record { ina = u; inb = v; inc = w; inv = o.inv };
    less =
        falls big_s (depth (hat q a) (hat q b) (hat q c)) (reach (hat q a) (hat q b) (hat q c) (beam c1 c2 c3)) (depth (hat q a') (hat q b') (hat q c'))
        (reach (hat q a') (hat q b') (hat q c') (beam c1 c2 c3))
        (lt→≤ℤ h.inv.hp) (lt→≤ℤ o.inv.hp) (reach_pos h.inv) (reach_pos o.inv)
        (reach_upper q h.ina h.inb h.inc s.in1 s.in2 s.in3) (reach_upper q u v w s.in1 s.in2 s.in3) o.more;
  }

  -- B3, B4: the first slot's round
  pub round_here : pos 0 ≤ℤ front q p a b c → side q p b c <ℤ pos 0 → pos 0 ≤ℤ side q p a b → (pos 0 ≤ℤ side q p c a) ⊎ (pos 0 ≤ℤ tie q p c c1 c2 c3) → Moved q c1 c2 c3 a b c p b c
  round_here v d1 d3 t = on i h.inb h.inc (b3 (hat q p) h.inv (fore v) (slot1.down d1) (same_nn slot3 d3) (pick (le-or-lt (pos 0) (side q p c a)) t))
    where
      pick : (pos 0 ≤ℤ side q p c a) ⊎ (side q p c a <ℤ pos 0) → (pos 0 ≤ℤ side q p c a) ⊎ (pos 0 ≤ℤ tie q p c c1 c2 c3)
          → (pos 0 ≤ℤ det (hat q a) (hat q p) (hat q c)) ⊎ (pos 0 <ℤ dot (cross (hat q p) (hat q c)) (beam c1 c2 c3))
      pick (inl u) t = inl (same_nn slot2 u)
      pick (inr u) (inl k) = absurd (clash_ℤ u k)
      pick (inr u) (inr k) = inr (tie_of.up (⊎_elim (λ m. absurd (clash_ℤ m k)) (⊎_elim (λ e. absurd (tie_decides u e)) (λ m. m)) (trichotomy (tie q p c c1 c2 c3) (pos 0))))

  pub round_next : pos 0 ≤ℤ front q p a b c → side q p c a <ℤ pos 0 → pos 0 ≤ℤ side q p a b → tie q p c c1 c2 c3 <ℤ pos 0 → Moved q c1 c2 c3 a b c a p c
  round_next v d2 d3 t = on h.ina i h.inc (b4 (hat q p) h.inv (fore v) (slot2.down d2) (same_nn slot3 d3) (tie_of.down t))

  -- all three not negative
  pub meet : AllNN (side q p b c) (side q p c a) (side q p a b) → Met q p a b c
  meet n = record {
    w0 = h.inv.hp;
    w1 = same_nn slot1 n.n1;
    w2 = same_nn slot2 n.n2;
    w3 = same_nn slot3 n.n3;
    sum = cramer (hat q a) (hat q b) (hat q c) (hat q p);
  }

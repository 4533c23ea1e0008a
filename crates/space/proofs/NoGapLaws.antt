-- "With g = 0 all of 01 as amended stands": with no gap each definition of Verdicts says what the one of NoGap says, both ways.
-- A corner of the first piece widened by a cube of no size is the corner itself, whatever cube corner is named.
use Rattle.std.specs.Prelude.{◌≡◌, ◌↔◌, ℕ, zero, suc, ◌/◌, ◌%◌, ℤ, pos, ◌+ℤ◌, ◌*ℤ◌, ◌≤ℤ◌, ◌<ℤ◌}
use Rattle.std.proofs.Math.Path.{refl, ap₂}
use Rattle.std.proofs.Common.{sym, ap, ◌∙◌, subst, inl, inr, ⊎_elim, arith}
use mathlib.Core.List.{List, [], ◌∷◌}
use Rattle.std.proofs.Math.IntN.{+ℤ_idr}
use Rattle.space.specs.Vectors.{Vec3, dot, minus, vec_eq}
use Rattle.space.specs.Verdicts.{Piece, Pair, corner_at, side, widened_at, Below, weighted, Balance, Meeting, Supported}
use Rattle.space.specs.Verdicts.{VerdictIs}
use Rattle.space.specs.NoGap.{PlainBelow, plain_weighted, PlainBalance, PlainMeeting, PlainSupported, PlainVerdict}

no_side : (k : ℕ) → side 0 k ≡ pos 0
no_side zero = refl
no_side (suc k) = refl

pub unwidened : (A : Piece) (i c : ℕ) → widened_at 0 A i c ≡ corner_at A i
unfolding widened_at
unwidened A i c = vec_eq (none (c / 4 % 2)) (none (c / 2 % 2)) (none (c % 2))
  where
    none : {u : ℤ} (k : ℕ) → u +ℤ side 0 k ≡ u
    none {u} k = ap (λ z. u +ℤ z) (no_side k) ∙ +ℤ_idr u

module _ (A B : Piece) where
  along_unwidened : (d : Vec3) (i c : ℕ) → dot d (widened_at 0 A i c) ≡ dot d (corner_at A i)
  along_unwidened d i c = ap (dot d) (unwidened A i c)

  pub below_plain : {d : Vec3} → (Below d 0 A B ↔ PlainBelow d A B)
  below_plain {d} = (
    λ b. record { all = λ i j hi hj. subst (λ z. z <ℤ dot d (corner_at B j)) (along_unwidened d i 0) (b.all i 0 j hi (omega arith) hj) },
    λ b. record { all = λ i c j hi hc hj. subst (λ z. z <ℤ dot d (corner_at B j)) (sym (along_unwidened d i c)) (b.all i j hi hj) },
  )

  pub supported_plain : {d : Vec3} → (Supported d 0 A B ↔ PlainSupported d A B)
  supported_plain {d} = (
    λ s. record {
      above = λ i j hi hj. subst (λ z. z ≤ℤ dot d (corner_at B j)) (along_unwidened d i 0) (s.above.all i 0 j hi (omega arith) hj);
      first = s.parted.first;
      second = s.parted.second;
      of_first = s.parted.of_first;
      of_second = s.parted.of_second;
      less = subst (λ z. z <ℤ dot d (corner_at B s.parted.second)) (along_unwidened d s.parted.first s.parted.cube) s.parted.less;
    },
    λ s. record {
      above = record { all = λ i c j hi hc hj. subst (λ z. z ≤ℤ dot d (corner_at B j)) (sym (along_unwidened d i c)) (s.above i j hi hj) };
      parted = record {
        first = s.first;
        cube = 0;
        second = s.second;
        of_first = s.of_first;
        of_cube = omega arith;
        of_second = s.of_second;
        less = subst (λ z. z <ℤ dot d (corner_at B s.second)) (sym (along_unwidened d s.first 0)) s.less;
      };
    },
  )

  weighted_plain : (along : Vec3 → ℤ) (ps : List Pair) → weighted along 0 A B ps ≡ plain_weighted along A B ps
  unfolding weighted plain_weighted
  weighted_plain along [] = refl
  weighted_plain along (p ∷ ps) = ap₂ (λ v z. p.weight *ℤ along (minus v (corner_at B p.second)) +ℤ z) (unwidened A p.first p.cube) (weighted_plain along ps)

  pub balance_plain : {ps : List Pair} → (Balance 0 A B ps ↔ PlainBalance A B ps)
  balance_plain {ps} = (
    λ b. record {
      some = b.some;
      few = b.few;
      fair = b.fair;
      zero_x = sym (weighted_plain (λ v. v.x) ps) ∙ b.zero_x;
      zero_y = sym (weighted_plain (λ v. v.y) ps) ∙ b.zero_y;
      zero_z = sym (weighted_plain (λ v. v.z) ps) ∙ b.zero_z;
    },
    λ b. record {
      some = b.some;
      few = b.few;
      fair = b.fair;
      zero_x = weighted_plain (λ v. v.x) ps ∙ b.zero_x;
      zero_y = weighted_plain (λ v. v.y) ps ∙ b.zero_y;
      zero_z = weighted_plain (λ v. v.z) ps ∙ b.zero_z;
    },
  )

  pub meeting_plain : (Meeting 0 A B ↔ PlainMeeting A B)
  meeting_plain = (
    λ m. record { pairs = m.pairs; balance = balance_plain.0 m.balance },
    λ m. record { pairs = m.pairs; balance = balance_plain.1 m.balance },
  )

  pub verdict_plain : {v : ℕ} → (VerdictIs 0 A B v ↔ PlainVerdict A B v)
  verdict_plain {v} = (
    ⊎_elim (λ h. inl (h.0, record { direction = h.1.direction; parts = below_plain.0 h.1.parts })) (⊎_elim
        (λ h. inr (inl (h.0, record { meeting = meeting_plain.0 h.1.meeting; direction = h.1.direction; supported = supported_plain.0 h.1.supported })))
        (λ h. inr (inr (h.0, record { meeting = meeting_plain.0 h.1.meeting; free = λ d s. h.1.free d (supported_plain.1 s) })))),
    ⊎_elim (λ h. inl (h.0, record { direction = h.1.direction; parts = below_plain.1 h.1.parts })) (⊎_elim
        (λ h. inr (inl (h.0, record { meeting = meeting_plain.1 h.1.meeting; direction = h.1.direction; supported = supported_plain.1 h.1.supported })))
        (λ h. inr (inr (h.0, record { meeting = meeting_plain.1 h.1.meeting; free = λ d s. h.1.free d (supported_plain.0 s) })))),
  )

-- Signs. `Same t u`: t and u have one sign. `lex u v` is u, or v where u is 0. A number k a + b, with b smaller than k, has the sign of lex a b.
use Rattle.std.specs.Prelude.{◌≡◌, refl, [], ◌∷◌, ℕ, zero, suc, ℤ, pos, negsuc, ◌+ℤ◌, ◌*ℤ◌, ◌≤ℤ◌, ◌<ℤ◌}
use Rattle.std.proofs.Common.{sym, ap, ◌∙◌, subst, ⊎_elim, le→leb}
use Rattle.std.proofs.Math.IntN.{*ℤ-zero, +ℤ_idl}
use Rattle.std.specs.Int.Signed.{clash_ℤ, <ℤ_irrefl}
use Rattle.ints.proofs.Quote.{sides, by_ring}
use Rattle.ints.specs.Order.{le-or-lt, trichotomy, lt→≤ℤ, le_of_eq}
use Rattle.ints.proofs.OrderLaws.{le_comb, lt_comb, nn_of_le, pos_of_lt, nn_mul, pos_add, pos_mul, nn_pos, <ℤ-neg}
use Rattle.ints.specs.Bounds.{Within}
use Rattle.ints.specs.Order.{≤ℤ-<ℤ-trans}
use Rattle.ints.proofs.OrderLaws.{lt_succ}
use Rattle.ints.specs.Sign.{Same, lex, Under}

-- ---- the ways back, and not negative
pub same_nn : {t u : ℤ} → Same t u → pos 0 ≤ℤ u → pos 0 ≤ℤ t
same_nn {t} {u} s h = ⊎_elim (λ k. absurd (clash_ℤ k h)) (⊎_elim (λ k. le_of_eq (sym (s.none k))) (λ k. lt→≤ℤ (s.up k))) (trichotomy u (pos 0))

pub same_sym : {t u : ℤ} → Same t u → Same u t
same_sym {t} {u} s = record {
  down = λ h. ⊎_elim (λ k. k) (⊎_elim (λ k. absurd (<ℤ_irrefl (subst (λ z. z <ℤ pos 0) (s.none k) h))) (λ k. absurd (clash_ℤ h (lt→≤ℤ (s.up k))))) (trichotomy u (pos 0));
  none = λ e. ⊎_elim (λ k. absurd (<ℤ_irrefl (subst (λ z. z <ℤ pos 0) e (s.down k)))) (⊎_elim (λ k. k) (λ k. absurd (<ℤ_irrefl (subst (λ z. pos 0 <ℤ z) e (s.up k))))) (trichotomy u (pos 0));
  up = λ h. ⊎_elim (λ k. absurd (clash_ℤ h (lt→≤ℤ (s.down k)))) (⊎_elim (λ k. absurd (<ℤ_irrefl (subst (λ z. pos 0 <ℤ z) (s.none k) h))) (λ k. k)) (trichotomy u (pos 0));
}

pub same_trans : {t u v : ℤ} → Same t u → Same u v → Same t v
same_trans a b = record { down = λ h. a.down (b.down h); none = λ e. a.none (b.none e); up = λ h. a.up (b.up h) }

pub same_eq : {t u : ℤ} → t ≡ u → Same t u
same_eq {t} {u} e = record { down = λ h. subst (λ z. z <ℤ pos 0) (sym e) h; none = λ f. e ∙ f; up = λ h. subst (λ z. pos 0 <ℤ z) (sym e) h }

-- times something positive
pub same_mul : (k u : ℤ) → pos 0 <ℤ k → Same (k *ℤ u) u
same_mul k u h = record {
  down = λ d. lt_comb (pos_mul h (pos_of_lt d)) (by_ring (k ∷ u ∷ []) (search sides depth 9) refl);
  none = λ e. ap (λ z. k *ℤ z) e ∙ *ℤ-zero k;
  up = λ d. pos_mul h d;
}

pub lex_zero : {u : ℤ} (v : ℤ) → u ≡ pos 0 → lex u v ≡ v
unfolding lex
lex_zero v e = ap (λ z. lex z v) e

pub lex_other : {u : ℤ} (v : ℤ) → (u ≡ pos 0 → ⊥) → lex u v ≡ u
unfolding lex
lex_other {u = pos zero} v f = absurd (f refl)
lex_other {u = pos (suc n)} v f = refl
lex_other {u = negsuc n} v f = refl

pub lt_other : {u : ℤ} → u <ℤ pos 0 → u ≡ pos 0 → ⊥
lt_other h e = <ℤ_irrefl (subst (λ z. z <ℤ pos 0) e h)

pub gt_other : {u : ℤ} → pos 0 <ℤ u → u ≡ pos 0 → ⊥
gt_other h e = <ℤ_irrefl (subst (λ z. pos 0 <ℤ z) e h)

-- both are 0 where the first of them that is not 0 is 0
pub lex_both : (u v : ℤ) → lex u v ≡ pos 0 → (u ≡ pos 0) × (v ≡ pos 0)
lex_both u v e = ⊎_elim
    (λ k. absurd (lt_other k (sym (lex_other v (lt_other k)) ∙ e)))
    (⊎_elim (λ k. (k, sym (lex_zero v k) ∙ e)) (λ k. absurd (gt_other k (sym (lex_other v (gt_other k)) ∙ e))))
    (trichotomy u (pos 0))

pub lex_assoc : (u v w : ℤ) → lex (lex u v) w ≡ lex u (lex v w)
unfolding lex
lex_assoc (pos zero) v w = refl
lex_assoc (pos (suc n)) v w = refl
lex_assoc (negsuc n) v w = refl

pub same_lex : {t u t' u' : ℤ} → Same t u → Same t' u' → Same (lex t t') (lex u u')
same_lex {t} {u} {t'} {u'} a b = ⊎_elim
    (λ k. same_trans (same_eq (lex_other t' (lt_other (a.down k)))) (same_trans a (same_eq (sym (lex_other u' (lt_other k))))))
    (⊎_elim
    (λ k. same_trans (same_eq (lex_zero t' (a.none k))) (same_trans b (same_eq (sym (lex_zero u' k)))))
    (λ k. same_trans (same_eq (lex_other t' (gt_other (a.up k)))) (same_trans a (same_eq (sym (lex_other u' (gt_other k)))))))
    (trichotomy u (pos 0))

pub under : {n : ℕ} {k b : ℤ} → pos n <ℤ k → Within n b → Under k b
under {n} {k} {b = pos m} h w = record {
  over = lt_comb (pos_add (≤ℤ-<ℤ-trans (nn_pos n) h) (nn_pos m)) (by_ring (k ∷ pos m ∷ []) (search sides depth 9) refl);
  below = ≤ℤ-<ℤ-trans (record { le = le→leb m n w.abs }) h;
}
under {n} {k} {b = negsuc m} h w = record {
  over = <ℤ-neg (≤ℤ-<ℤ-trans {a = pos (suc m)} {b = pos n} {c = k} (record { le = le→leb (suc m) n w.abs }) h);
  below = ≤ℤ-<ℤ-trans {a = negsuc m} {b = pos n} (record { le = tt }) h;
}

pub l2 : (k a b : ℤ) → Under k b → Same (k *ℤ a +ℤ b) (lex a b)
l2 k a b h = ⊎_elim
    (λ n. same_trans (record { down = λ _. less n; none = λ e. absurd (lt_other n e); up = λ m. absurd (clash_ℤ n (lt→≤ℤ m)) }) (same_eq (sym (lex_other b (lt_other n)))))
    (⊎_elim
    (λ e. same_eq (ap (λ z. k *ℤ z +ℤ b) e ∙ ap (λ z. z +ℤ b) (*ℤ-zero k) ∙ +ℤ_idl b ∙ sym (lex_zero b e)))
    (λ p. same_trans (record { down = λ m. absurd (clash_ℤ p (lt→≤ℤ m)); none = λ e. absurd (gt_other p e); up = λ _. more p }) (same_eq (sym (lex_other b (gt_other p))))))
    (trichotomy a (pos 0))
  where
    kp : pos 0 <ℤ (k +ℤ k)
    kp = lt_comb (pos_add (pos_of_lt h.below) (lt→≤ℤ (pos_of_lt h.over))) (by_ring (k ∷ b ∷ []) (search sides depth 9) refl)

    kn : pos 0 ≤ℤ k
    kn = ⊎_elim (λ u. u) (λ u. absurd (clash_ℤ kp (le_comb (lt→≤ℤ (pos_add (pos_of_lt u) (lt→≤ℤ (pos_of_lt u)))) (by_ring (k ∷ []) (search sides depth 9) refl)))) (le-or-lt (pos 0) k)

    less : a <ℤ pos 0 → (k *ℤ a +ℤ b) <ℤ pos 0
    less n = lt_comb (pos_add (pos_of_lt h.below) (nn_mul kn (nn_of_le (lt_succ n)))) (by_ring (k ∷ a ∷ b ∷ []) (search sides depth 9) refl)

    more : pos 0 <ℤ a → pos 0 <ℤ (k *ℤ a +ℤ b)
    more p = lt_comb (pos_add (pos_of_lt h.over) (nn_mul kn (nn_of_le (lt_succ p)))) (by_ring (k ∷ a ∷ b ∷ []) (search sides depth 9) refl)

-- ---- L1: three in a row
pub l1 : (l u v w : ℤ) → Under l v → Under l w → Same (l *ℤ l *ℤ u +ℤ l *ℤ v +ℤ w) (lex u (lex v w))
l1 l u v w hv hw =
    same_trans (same_eq (by_ring (l ∷ u ∷ v ∷ w ∷ []) (search sides depth 9) refl))
    (same_trans (l2 l (l *ℤ u +ℤ v) w hw) (same_trans (same_lex (l2 l u v hv) (same_eq refl)) (same_eq (lex_assoc u v w))))

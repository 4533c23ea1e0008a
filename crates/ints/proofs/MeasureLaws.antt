-- A natural number that falls: the floor of S² h / s, where h / s falls and s stays from 1 to S.
-- It is the measure of a walk whose fractions h / s only ever get smaller.
use Rattle.std.specs.Prelude.{◌≡◌, refl, [], ◌∷◌, ℕ, ◌*◌, ◌/◌, ◌≤◌, ◌<◌, ℤ, pos, negsuc, nat_abs, ◌+ℤ◌, ◌-ℤ◌, ◌*ℤ◌, ◌≤ℤ◌, ◌<ℤ◌}
use Rattle.std.proofs.Common.{sym, ap₂, subst, arith, div-mul-le_self, le-div_iff_mul-le}
use Rattle.ints.proofs.Quote.{sides, by_ring}
use Rattle.ints.specs.Order.{lt→≤ℤ}
use Rattle.ints.proofs.OrderLaws.{le_of_nn, nn_of_le, nn_add, nn_mul, nn_pos, nn_factor, pos_le, le_pos, pos_lt, lt_pos, lt_succ}
use Rattle.ints.specs.Measure.{measure}

-- ---- the measure
falls_z : (S q h s h' s' : ℤ) → pos 0 ≤ℤ S → pos 0 <ℤ s → pos 0 <ℤ s' → s ≤ℤ S → s' ≤ℤ S
    → (q *ℤ s') ≤ℤ (S *ℤ S *ℤ h') → (s *ℤ h' +ℤ pos 1) ≤ℤ (s' *ℤ h) → ((q +ℤ pos 1) *ℤ s) ≤ℤ (S *ℤ S *ℤ h)
falls_z S q h s h' s' hS hs hs' b b' d m = le_of_nn (nn_factor {a = s'} {b = S *ℤ S *ℤ h -ℤ (q +ℤ pos 1) *ℤ s} hs' (subst (λ z. pos 0 ≤ℤ z) (sym cert) parts))
  where
    cert : s' *ℤ (S *ℤ S *ℤ h -ℤ (q +ℤ pos 1) *ℤ s) ≡ S *ℤ S *ℤ (s' *ℤ h -ℤ (s *ℤ h' +ℤ pos 1)) +ℤ s *ℤ (S *ℤ S *ℤ h' -ℤ q *ℤ s') +ℤ (S *ℤ (S -ℤ s') +ℤ s' *ℤ (S -ℤ s))
    cert = by_ring (S ∷ q ∷ h ∷ s ∷ h' ∷ s' ∷ []) (search sides depth 40) refl

    parts : pos 0 ≤ℤ (S *ℤ S *ℤ (s' *ℤ h -ℤ (s *ℤ h' +ℤ pos 1)) +ℤ s *ℤ (S *ℤ S *ℤ h' -ℤ q *ℤ s') +ℤ (S *ℤ (S -ℤ s') +ℤ s' *ℤ (S -ℤ s)))
    parts = nn_add (nn_add (nn_mul (nn_mul hS hS) (nn_of_le m)) (nn_mul (lt→≤ℤ hs) (nn_of_le d))) (nn_add (nn_mul hS (nn_of_le b')) (nn_mul (lt→≤ℤ hs') (nn_of_le b)))

falls_n : (S h s h' s' : ℕ) → 0 < s → 0 < s' → s ≤ S → s' ≤ S → (pos s *ℤ pos h') <ℤ (pos s' *ℤ pos h) → S * S * h' / s' < S * S * h / s
falls_n S h s h' s' hs hs' b b' m = (le-div_iff_mul-le hs).1 (subst (λ k. k * s ≤ S * S * h) (omega arith)
    (le_pos (falls_z (pos S) (pos (S * S * h' / s')) (pos h) (pos s) (pos h') (pos s') (nn_pos S) (pos_lt hs) (pos_lt hs') (pos_le b) (pos_le b') (pos_le (div-mul-le_self (S * S * h') s'))
    (lt_succ m))))

pub nat_of : {a : ℤ} → pos 0 ≤ℤ a → a ≡ pos (nat_abs a)
nat_of {a = pos n} h = refl
nat_of {a = negsuc n} h = absurd h.le

-- M: s, s' from 1 to S and s h' < s' h
pub falls : (S : ℕ) (h s h' s' : ℤ) → pos 0 ≤ℤ h → pos 0 ≤ℤ h' → pos 0 <ℤ s → pos 0 <ℤ s' → s ≤ℤ pos S → s' ≤ℤ pos S
    → (s *ℤ h') <ℤ (s' *ℤ h) → measure S h' s' < measure S h s
unfolding measure
falls S h s h' s' nh nh' ps ps' b b' m =
    let es = nat_of (lt→≤ℤ ps) in
    let es' = nat_of (lt→≤ℤ ps') in
    falls_n S (nat_abs h) (nat_abs s) (nat_abs h') (nat_abs s')
    (lt_pos (subst (λ z. pos 0 <ℤ z) es ps)) (lt_pos (subst (λ z. pos 0 <ℤ z) es' ps')) (le_pos (subst (λ z. z ≤ℤ pos S) es b)) (le_pos (subst (λ z. z ≤ℤ pos S) es' b'))
    (subst (λ z. z <ℤ (pos (nat_abs s') *ℤ pos (nat_abs h))) (ap₂ ◌*ℤ◌ es (nat_of nh')) (subst (λ z. (s *ℤ h') <ℤ z) (ap₂ ◌*ℤ◌ es' (nat_of nh)) m))

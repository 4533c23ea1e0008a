-- The order of ℤ: `a ≤ℤ b` is `b ≡ a +ℤ pos n` for some n, and `a <ℤ b` is `b ≡ a +ℤ pos (suc n)`. The laws of an ordered ring follow from that and ring identities.
use Rattle.std.specs.Prelude.{◌≡◌, refl, [], ◌∷◌, ◌⊎◌, ℕ, suc, ◌+◌, ◌*◌, ◌≤◌, ◌<◌, ℤ, pos, neg_ℤ, ◌+ℤ◌, ◌-ℤ◌, ◌*ℤ◌, ◌≤ℤ◌, ◌<ℤ◌}
use Rattle.std.proofs.Common.{sym, ap, ap₂, ◌∙◌, subst, inl, inr, ⊎_elim, arith, leb→le, le→leb, ltb→lt, lt→ltb}
use Rattle.std.proofs.Math.IntN.{+ℤ_idl, +ℤ_idr, +ℤ_assoc, +ℤ_invr, *ℤ-zero}
use Rattle.std.specs.Int.Signed.{clash_ℤ}
use Rattle.ints.specs.Laws.{negℤ-*ℤ}
use Rattle.ints.proofs.Quote.{sides, by_ring}
use Rattle.ints.specs.Order.{le_dest, le_by, lt_dest, lt_by, lt→≤ℤ, le-or-lt, ≤ℤ-antisymm, trichotomy, le_of_eq}

-- ---- the order by the difference
plus_minus : (a n : ℤ) → a +ℤ n -ℤ a ≡ pos 0 +ℤ n
plus_minus a n = by_ring (a ∷ n ∷ []) (search sides depth 9) refl

minus_plus : (a b : ℤ) → b ≡ a +ℤ (b -ℤ a)
minus_plus a b = by_ring (a ∷ b ∷ []) (search sides depth 9) refl

pub nn_of_le : {a b : ℤ} → a ≤ℤ b → pos 0 ≤ℤ (b -ℤ a)
nn_of_le {a} {b} h = let u = le_dest h in le_by u.0 (ap (λ z. z -ℤ a) u.1 ∙ plus_minus a (pos u.0))

-- what is not negative is a natural number
pub nn_dest : {a : ℤ} → pos 0 ≤ℤ a → (n : ℕ) × (a ≡ pos n)
nn_dest {a} h = let u = le_dest h in (u.0, u.1 ∙ +ℤ_idl (pos u.0))

pub le_of_nn : {a b : ℤ} → pos 0 ≤ℤ (b -ℤ a) → a ≤ℤ b
le_of_nn {a} {b} h = let u = nn_dest h in le_by u.0 (minus_plus a b ∙ ap (λ z. a +ℤ z) u.1)

pub pos_of_lt : {a b : ℤ} → a <ℤ b → pos 0 <ℤ (b -ℤ a)
pos_of_lt {a} {b} h = let u = lt_dest h in lt_by u.0 (ap (λ z. z -ℤ a) u.1 ∙ plus_minus a (pos (suc u.0)))

pub pos_dest : {a : ℤ} → pos 0 <ℤ a → (n : ℕ) × (a ≡ pos (suc n))
pos_dest {a} h = let u = lt_dest h in (u.0, u.1 ∙ +ℤ_idl (pos (suc u.0)))

pub lt_of_pos : {a b : ℤ} → pos 0 <ℤ (b -ℤ a) → a <ℤ b
lt_of_pos {a} {b} h = let u = pos_dest h in lt_by u.0 (minus_plus a b ∙ ap (λ z. a +ℤ z) u.1)

-- ---- what is not negative, and what is positive
pub nn_pos : (n : ℕ) → pos 0 ≤ℤ pos n
nn_pos n = record { le = le→leb 0 n (omega arith) }

pub pos_suc : (n : ℕ) → pos 0 <ℤ pos (suc n)
pos_suc n = record { lt = lt→ltb 0 (suc n) (omega arith) }

pub nn_add : {a b : ℤ} → pos 0 ≤ℤ a → pos 0 ≤ℤ b → pos 0 ≤ℤ (a +ℤ b)
nn_add h k = let u = nn_dest h in let v = nn_dest k in subst (λ z. pos 0 ≤ℤ z) (sym (ap₂ ◌+ℤ◌ u.1 v.1)) (nn_pos (u.0 + v.0))

pub nn_mul : {a b : ℤ} → pos 0 ≤ℤ a → pos 0 ≤ℤ b → pos 0 ≤ℤ (a *ℤ b)
nn_mul h k = let u = nn_dest h in let v = nn_dest k in subst (λ z. pos 0 ≤ℤ z) (sym (ap₂ ◌*ℤ◌ u.1 v.1)) (nn_pos (u.0 * v.0))

pub pos_add : {a b : ℤ} → pos 0 <ℤ a → pos 0 ≤ℤ b → pos 0 <ℤ (a +ℤ b)
pos_add h k = let u = pos_dest h in let v = nn_dest k in subst (λ z. pos 0 <ℤ z) (sym (ap₂ ◌+ℤ◌ u.1 v.1 ∙ ap pos (omega arith))) (pos_suc (u.0 + v.0))

pub pos_mul : {a b : ℤ} → pos 0 <ℤ a → pos 0 <ℤ b → pos 0 <ℤ (a *ℤ b)
pos_mul h k =
    let u = pos_dest h in
    let v = pos_dest k in
    subst (λ z. pos 0 <ℤ z) (sym (ap₂ ◌*ℤ◌ u.1 v.1 ∙ ap pos (omega arith))) (pos_suc (u.0 * v.0 + u.0 + v.0))

-- ---- a linear combination: the difference of the two sides is an expression that is not negative, or positive. The equation is `solve`'s
pub le_comb : {a b s : ℤ} → pos 0 ≤ℤ s → b -ℤ a ≡ s → a ≤ℤ b
le_comb h e = le_of_nn (subst (λ z. pos 0 ≤ℤ z) (sym e) h)

pub lt_comb : {a b s : ℤ} → pos 0 <ℤ s → b -ℤ a ≡ s → a <ℤ b
lt_comb h e = lt_of_pos (subst (λ z. pos 0 <ℤ z) (sym e) h)

-- ---- monotonicity
pub <ℤ-add : {a b c d : ℤ} → a <ℤ b → c ≤ℤ d → (a +ℤ c) <ℤ (b +ℤ d)
<ℤ-add {a} {b} {c} {d} h k = lt_comb (pos_add (pos_of_lt h) (nn_of_le k)) (by_ring (a ∷ b ∷ c ∷ d ∷ []) (search sides depth 9) refl)

pub ≤ℤ-neg : {a b : ℤ} → a ≤ℤ b → neg_ℤ b ≤ℤ neg_ℤ a
≤ℤ-neg {a} {b} h = le_comb (nn_of_le h) (by_ring (a ∷ b ∷ []) (search sides depth 9) refl)

pub <ℤ-neg : {a b : ℤ} → a <ℤ b → neg_ℤ b <ℤ neg_ℤ a
<ℤ-neg {a} {b} h = lt_comb (pos_of_lt h) (by_ring (a ∷ b ∷ []) (search sides depth 9) refl)

pub ≤ℤ-mul : {a b c : ℤ} → pos 0 ≤ℤ c → a ≤ℤ b → (c *ℤ a) ≤ℤ (c *ℤ b)
≤ℤ-mul {a} {b} {c} hc h = le_comb (nn_mul hc (nn_of_le h)) (by_ring (a ∷ b ∷ c ∷ []) (search sides depth 9) refl)

pub <ℤ-mul : {a b c : ℤ} → pos 0 <ℤ c → a <ℤ b → (c *ℤ a) <ℤ (c *ℤ b)
<ℤ-mul {a} {b} {c} hc h = lt_comb (pos_mul hc (pos_of_lt h)) (by_ring (a ∷ b ∷ c ∷ []) (search sides depth 9) refl)

-- ---- cancellation by a positive factor
pub ≤ℤ-cancel : {a b : ℤ} (c : ℤ) → pos 0 <ℤ c → (c *ℤ a) ≤ℤ (c *ℤ b) → a ≤ℤ b
≤ℤ-cancel {a} {b} c hc h = ⊎_elim (λ k. k) (λ k. clash_ℤ (<ℤ-mul hc k) h) (le-or-lt a b)

pub <ℤ-cancel : {a b : ℤ} (c : ℤ) → pos 0 <ℤ c → (c *ℤ a) <ℤ (c *ℤ b) → a <ℤ b
<ℤ-cancel {a} {b} c hc h = ⊎_elim (λ k. clash_ℤ h (≤ℤ-mul (lt→≤ℤ hc) k)) (λ k. k) (le-or-lt b a)

pub ≡-cancel : {a b : ℤ} (c : ℤ) → pos 0 <ℤ c → c *ℤ a ≡ c *ℤ b → a ≡ b
≡-cancel c hc e = ≤ℤ-antisymm (≤ℤ-cancel c hc (le_of_eq e)) (≤ℤ-cancel c hc (le_of_eq (sym e)))

-- ---- signs of a product
pub zero-product : (a b : ℤ) → a *ℤ b ≡ pos 0 → (a ≡ pos 0) ⊎ (b ≡ pos 0)
zero-product a b e = ⊎_elim
    (λ h. inr (≡-cancel (neg_ℤ a) (<ℤ-neg h) (negℤ-*ℤ a b ∙ ap neg_ℤ e ∙ sym (*ℤ-zero (neg_ℤ a)))))
    (λ h. ⊎_elim (λ k. inl k) (λ k. inr (≡-cancel a k (e ∙ sym (*ℤ-zero a)))) h)
    (trichotomy a (pos 0))

pub pos_factor : {a b : ℤ} → pos 0 <ℤ a → pos 0 <ℤ (a *ℤ b) → pos 0 <ℤ b
pos_factor {a} {b} h k = <ℤ-cancel a h (subst (λ z. z <ℤ (a *ℤ b)) (sym (*ℤ-zero a)) k)

pub nn_factor : {a b : ℤ} → pos 0 <ℤ a → pos 0 ≤ℤ (a *ℤ b) → pos 0 ≤ℤ b
nn_factor {a} {b} h k = ≤ℤ-cancel a h (subst (λ z. z ≤ℤ (a *ℤ b)) (sym (*ℤ-zero a)) k)

-- ---- equations: c ≡ d where c - d is a combination of differences that are 0
pub z_diff : {a b : ℤ} (k : ℤ) → a ≡ b → k *ℤ (a -ℤ b) ≡ pos 0
z_diff {a} {b} k e = ap (λ z. k *ℤ (z -ℤ b)) e ∙ ap (λ z. k *ℤ z) (+ℤ_invr b) ∙ *ℤ-zero k

pub z_add : {s t : ℤ} → s ≡ pos 0 → t ≡ pos 0 → s +ℤ t ≡ pos 0
z_add e f = ap₂ ◌+ℤ◌ e f

pub eq_comb : {c d s : ℤ} → s ≡ pos 0 → c -ℤ d ≡ s → c ≡ d
eq_comb {c} {d} h e = minus_plus d c ∙ ap (λ z. d +ℤ z) (e ∙ h) ∙ +ℤ_idr d

-- ---- naturals as integers, and a < b as a + 1 ≤ b
pub pos_le : {a b : ℕ} → a ≤ b → pos a ≤ℤ pos b
pos_le {a} {b} h = record { le = le→leb a b h }

pub le_pos : {a b : ℕ} → pos a ≤ℤ pos b → a ≤ b
le_pos {a} {b} h = leb→le a b h.le

pub pos_lt : {a b : ℕ} → a < b → pos a <ℤ pos b
pos_lt {a} {b} h = record { lt = lt→ltb a b h }

pub lt_pos : {a b : ℕ} → pos a <ℤ pos b → a < b
lt_pos {a} {b} h = ltb→lt a b h.lt

pub lt_succ : {a b : ℤ} → a <ℤ b → (a +ℤ pos 1) ≤ℤ b
lt_succ {a} {b} h = let u = lt_dest h in le_by u.0 (u.1 ∙ ap (λ n. a +ℤ pos n) (omega arith) ∙ sym (+ℤ_assoc a (pos 1) (pos u.0)))

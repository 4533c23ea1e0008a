-- The walk's two exits, over any set D of points. Strict: q is the origin. Weak: q = c1 + c2 + c3.
-- And the exit before the weak walk: where four points weigh something, no direction has all of D at or behind it.
use Rattle.std.specs.Prelude.{◌≡◌, refl, [], ◌∷◌, ◌⊎◌, ℤ, pos, ◌+ℤ◌, ◌-ℤ◌, ◌*ℤ◌, ◌≤ℤ◌, ◌<ℤ◌}
use Rattle.std.proofs.Common.{sym, ◌∙◌, subst, inl, inr, ⊎_elim}
use Rattle.std.specs.Int.Signed.{clash_ℤ, <ℤ_irrefl}
use Rattle.ints.proofs.Quote.{sides, by_ring}
use Rattle.ints.specs.Order.{le-or-lt, lt→≤ℤ, ≤ℤ-<ℤ-trans, ≤ℤ-antisymm}
use Rattle.ints.proofs.OrderLaws.{le_comb, lt_comb, nn_of_le, pos_of_lt, nn_add, nn_mul, pos_add, pos_mul}
use Rattle.space.specs.declared.Vec3.{Vec3}
use Rattle.space.specs.Vectors.{dot, plus, det, env1, origin, vec_eq}
use Rattle.verdict_portal.specs.Portal.{ZeroSum, zero_sum_dot, frame_zero}
use Rattle.ints.specs.Sign.{Under, lex}
use Rattle.ints.proofs.SignLaws.{lex_other, same_sym, l2, gt_other}
use Rattle.verdict_portal.specs.Sizes.{big_k, pos_k, hat, hat_dot}
use Rattle.verdict_portal.specs.Round.{Met}

-- p is a support of D along n
pub record Support (D : Vec3 → Type 0) (n p : Vec3) : Type 0 where
  pub of : D p
  pub most : (y : Vec3) → D y → dot n y ≤ℤ dot n p

-- all of D, shifted by q, is behind n
pub record Behind (D : Vec3 → Type 0) (q n : Vec3) : Type 0 where
  pub all : (y : Vec3) → D y → (big_k *ℤ dot n y +ℤ dot n q) <ℤ pos 0

-- ---- X1
pub x1 : {D : Vec3 → Type 0} {p : Vec3} (q n : Vec3) → Under big_k (dot n q) → Support D n p → lex (dot n p) (dot n q) <ℤ pos 0 → Behind D q n
x1 {p} q n u s v = record { all = λ y m. ≤ℤ-<ℤ-trans (le_comb (nn_mul (lt→≤ℤ pos_k) (nn_of_le (s.most y m))) (lift big_k (dot n y) (dot n p) (dot n q))) ((l2 big_k (dot n p) (dot n q) u).down v) }
  where
    lift : (k a b c : ℤ) → (k *ℤ b +ℤ c) -ℤ (k *ℤ a +ℤ c) ≡ k *ℤ (b -ℤ a)
    lift k a b c = by_ring (k ∷ a ∷ b ∷ c ∷ []) (search sides depth 9) refl

-- a sum of four products that is 0: weights of p positive, the others not negative, values not positive. Then that of p is not negative
pub no_balance : (w0 w1 w2 w3 t u v w : ℤ) → pos 0 <ℤ w0 → pos 0 ≤ℤ w1 → pos 0 ≤ℤ w2 → pos 0 ≤ℤ w3
    → t <ℤ pos 0 → u ≤ℤ pos 0 → v ≤ℤ pos 0 → w ≤ℤ pos 0 → w0 *ℤ t +ℤ w1 *ℤ u +ℤ w2 *ℤ v +ℤ w3 *ℤ w ≡ pos 0 → ⊥
no_balance w0 w1 w2 w3 t u v w h0 h1 h2 h3 ht hu hv hw e =
    <ℤ_irrefl (subst (λ z. z <ℤ pos 0) e
    (lt_comb (pos_add (pos_add (pos_add (pos_mul h0 (pos_of_lt ht)) (nn_mul h1 (nn_of_le hu))) (nn_mul h2 (nn_of_le hv))) (nn_mul h3 (nn_of_le hw)))
    (by_ring (w0 ∷ w1 ∷ w2 ∷ w3 ∷ t ∷ u ∷ v ∷ w ∷ []) (search sides depth 40) refl)))

-- a walk's two ends exclude each other: what meets is not all behind any direction
pub not_behind : {D : Vec3 → Type 0} {q p a b c : Vec3} (n : Vec3) → D p → D a → D b → D c → Met q p a b c → Behind D q n → ⊥
not_behind {D} {q} {p} {a} {b} {c} n mp ma mb mc met h = no_balance _ _ _ _ (dot n (hat q p)) (dot n (hat q a)) (dot n (hat q b)) (dot n (hat q c))
    met.w0 met.w1 met.w2 met.w3 (low p mp) (lt→≤ℤ (low a ma)) (lt→≤ℤ (low b mb)) (lt→≤ℤ (low c mc)) (zero_sum_dot met.sum n)
  where
    low : (y : Vec3) → D y → dot n (hat q y) <ℤ pos 0
    low y m = subst (λ z. z <ℤ pos 0) (sym (hat_dot q y n)) (h.all y m)

-- ---- W1: touching
pub record Wall (D : Vec3 → Type 0) (n : Vec3) : Type 0 where
  pub flat : (y : Vec3) → D y → dot n y ≤ℤ pos 0
  pub some : Vec3
  pub some_of : D some
  pub some_less : dot n some <ℤ pos 0

abbrev pub sum3 : Vec3 → Vec3 → Vec3 → Vec3
sum3 c1 c2 c3 = plus (plus c1 c2) c3

sum3_dot : (d c1 c2 c3 : Vec3) → dot d (sum3 c1 c2 c3) ≡ dot d c1 +ℤ dot d c2 +ℤ dot d c3
sum3_dot d c1 c2 c3 = by_ring (env1 d (env1 c1 (env1 c2 (env1 c3 [])))) (search sides depth 40) refl

pub w1 : {D : Vec3 → Type 0} (n c1 c2 c3 : Vec3) → D c1 → D c2 → D c3 → Under big_k (dot n (sum3 c1 c2 c3)) → Behind D (sum3 c1 c2 c3) n → Wall D n
w1 {D} n c1 c2 c3 m1 m2 m3 u b =
    ⊎_elim (λ l. wall c1 m1 l) (λ h1. ⊎_elim (λ l. wall c2 m2 l) (λ h2. ⊎_elim (λ l. wall c3 m3 l) (λ h3. absurd (none h1 h2 h3)) (lt_or (dot n c3))) (lt_or (dot n c2))) (lt_or (dot n c1))
  where
    lt_or : (t : ℤ) → (t <ℤ pos 0) ⊎ (pos 0 ≤ℤ t)
    lt_or t = ⊎_elim (λ h. inr h) (λ h. inl h) (le-or-lt (pos 0) t)

    below : (y : Vec3) → D y → dot n y ≤ℤ pos 0
    below y m =
        ⊎_elim (λ h. h) (λ h. absurd
        (clash_ℤ h (subst (λ z. z ≤ℤ pos 0) (lex_other (dot n (sum3 c1 c2 c3)) (gt_other h)) (lt→≤ℤ ((same_sym (l2 big_k (dot n y) (dot n (sum3 c1 c2 c3)) u)).down (b.all y m)))))) (le-or-lt (dot n y)
        (pos 0))

    wall : (y : Vec3) → D y → dot n y <ℤ pos 0 → Wall D n
    wall y m l = record { flat = below; some = y; some_of = m; some_less = l }

    none : pos 0 ≤ℤ dot n c1 → pos 0 ≤ℤ dot n c2 → pos 0 ≤ℤ dot n c3 → ⊥
    none h1 h2 h3 = clash_ℤ (b.all c1 m1) (nn_add (nn_mul (lt→≤ℤ pos_k) h1) (subst (λ z. pos 0 ≤ℤ z) (sym (sum3_dot n c1 c2 c3)) (nn_add (nn_add h1 h2) h3)))

-- ---- W2: penetrating. No direction but the origin has all of D at or behind it
pub record Walled (D : Vec3 → Type 0) (d : Vec3) : Type 0 where
  pub flat : (y : Vec3) → D y → dot d y ≤ℤ pos 0
  pub some : d ≡ origin → ⊥

-- what is 0 on three independent vectors is the origin
pub frame_origin : (c1 c2 c3 d : Vec3) → (det c1 c2 c3 ≡ pos 0 → ⊥) → dot d c1 ≡ pos 0 → dot d c2 ≡ pos 0 → dot d c3 ≡ pos 0 → d ≡ origin
frame_origin c1 c2 c3 d f e1 e2 e3 = vec_eq
    (by_ring (env1 d []) (search sides depth 9) refl ∙ frame_zero c1 c2 c3 d (record { x = pos 1; y = pos 0; z = pos 0 }) f e1 e2 e3)
    (by_ring (env1 d []) (search sides depth 9) refl ∙ frame_zero c1 c2 c3 d (record { x = pos 0; y = pos 1; z = pos 0 }) f e1 e2 e3)
    (by_ring (env1 d []) (search sides depth 9) refl ∙ frame_zero c1 c2 c3 d (record { x = pos 0; y = pos 0; z = pos 1 }) f e1 e2 e3)

pub w2 : {D : Vec3 → Type 0} {p a b c : Vec3} (c1 c2 c3 : Vec3) → D c1 → D c2 → D c3 → (det c1 c2 c3 ≡ pos 0 → ⊥)
    → D p → D a → D b → D c → Met (sum3 c1 c2 c3) p a b c → (d : Vec3) → Walled D d → ⊥
w2 {D} {p} {a} {b} {c} c1 c2 c3 m1 m2 m3 f mp ma mb mc met d w = no_balance _ _ _ _ (dot d (hat q p)) (dot d (hat q a)) (dot d (hat q b)) (dot d (hat q c))
    met.w0 met.w1 met.w2 met.w3 (low p mp) (lt→≤ℤ (low a ma)) (lt→≤ℤ (low b mb)) (lt→≤ℤ (low c mc)) (zero_sum_dot met.sum d)
  where
    q : Vec3
    q = sum3 c1 c2 c3

    dq : dot d q <ℤ pos 0
    dq = ⊎_elim (λ h. absurd (w.some (zero h))) (λ h. h) (le-or-lt (pos 0) (dot d q))
      where
        up1 : (s t u : ℤ) → s ≤ℤ pos 0 → t ≤ℤ pos 0 → u ≤ℤ pos 0 → pos 0 ≤ℤ (s +ℤ t +ℤ u) → s ≡ pos 0
        up1 s t u hs ht hu h = ≤ℤ-antisymm hs (le_comb (nn_add (nn_add h (nn_of_le ht)) (nn_of_le hu)) (by_ring (s ∷ t ∷ u ∷ []) (search sides depth 9) refl))

        zero : pos 0 ≤ℤ dot d q → d ≡ origin
        zero h = frame_origin c1 c2 c3 d f
            (up1 (dot d c1) (dot d c2) (dot d c3) (w.flat c1 m1) (w.flat c2 m2) (w.flat c3 m3) g)
            (up1 (dot d c2) (dot d c1) (dot d c3) (w.flat c2 m2) (w.flat c1 m1) (w.flat c3 m3)
            (subst (λ z. pos 0 ≤ℤ z) (by_ring (dot d c1 ∷ dot d c2 ∷ dot d c3 ∷ []) (search sides depth 9) refl) g))
            (up1 (dot d c3) (dot d c1) (dot d c2) (w.flat c3 m3) (w.flat c1 m1) (w.flat c2 m2)
            (subst (λ z. pos 0 ≤ℤ z) (by_ring (dot d c1 ∷ dot d c2 ∷ dot d c3 ∷ []) (search sides depth 9) refl) g))
          where
            g : pos 0 ≤ℤ (dot d c1 +ℤ dot d c2 +ℤ dot d c3)
            g = subst (λ z. pos 0 ≤ℤ z) (sum3_dot d c1 c2 c3) h

    low : (y : Vec3) → D y → dot d (hat q y) <ℤ pos 0
    low y m = subst (λ z. z <ℤ pos 0) (sym (hat_dot q y d)) (lt_comb (pos_add (pos_of_lt dq) (nn_mul (lt→≤ℤ pos_k) (nn_of_le (w.flat y m)))) (drop big_k (dot d y) (dot d q)))
      where
        drop : (k s t : ℤ) → pos 0 -ℤ (k *ℤ s +ℤ t) ≡ (pos 0 -ℤ t) +ℤ k *ℤ (pos 0 -ℤ s)
        drop k s t = by_ring (k ∷ s ∷ t ∷ []) (search sides depth 9) refl

-- ---- E1: penetrating at once. Four points of D with positive weights that balance, three of them independent
-- of four numbers that are not positive and balance so, the first is 0
balanced_zero : (w0 w1 w2 w3 t u v w : ℤ) → pos 0 <ℤ w0 → pos 0 <ℤ w1 → pos 0 <ℤ w2 → pos 0 <ℤ w3
    → t ≤ℤ pos 0 → u ≤ℤ pos 0 → v ≤ℤ pos 0 → w ≤ℤ pos 0 → w0 *ℤ t +ℤ w1 *ℤ u +ℤ w2 *ℤ v +ℤ w3 *ℤ w ≡ pos 0 → t ≡ pos 0
balanced_zero w0 w1 w2 w3 t u v w h0 h1 h2 h3 ht hu hv hw e = ⊎_elim
    (λ h. ≤ℤ-antisymm ht h)
    (λ h. absurd (no_balance w0 w1 w2 w3 t u v w h0 (lt→≤ℤ h1) (lt→≤ℤ h2) (lt→≤ℤ h3) h hu hv hw e)) (le-or-lt (pos 0) t)

pub e1 : {D : Vec3 → Type 0} {w0 w1 w2 w3 : ℤ} {p a b c : Vec3} → D p → D a → D b → D c → pos 0 <ℤ w0 → pos 0 <ℤ w1 → pos 0 <ℤ w2 → pos 0 <ℤ w3
    → ZeroSum w0 w1 w2 w3 p a b c → (det a b c ≡ pos 0 → ⊥) → (d : Vec3) → Walled D d → ⊥
e1 {D} {w0} {w1} {w2} {w3} {p} {a} {b} {c} mp ma mb mc h0 h1 h2 h3 z f d w = w.some (frame_origin a b c d f
    (balanced_zero w1 w0 w2 w3 (dot d a) (dot d p) (dot d b) (dot d c) h1 h0 h2 h3 (w.flat a ma) low (w.flat b mb) (w.flat c mc) (swap w1 w0 w2 w3 (dot d a) (dot d p) (dot d b) (dot d c) ∙ sum))
    (balanced_zero w2 w0 w1 w3 (dot d b) (dot d p) (dot d a) (dot d c) h2 h0 h1 h3 (w.flat b mb) low (w.flat a ma) (w.flat c mc) (turn w2 w0 w1 w3 (dot d b) (dot d p) (dot d a) (dot d c) ∙ sum))
    (balanced_zero w3 w0 w1 w2 (dot d c) (dot d p) (dot d a) (dot d b) h3 h0 h1 h2 (w.flat c mc) low (w.flat a ma) (w.flat b mb) (last w3 w0 w1 w2 (dot d c) (dot d p) (dot d a) (dot d b) ∙ sum)))
  where
    low : dot d p ≤ℤ pos 0
    low = w.flat p mp

    sum : w0 *ℤ dot d p +ℤ w1 *ℤ dot d a +ℤ w2 *ℤ dot d b +ℤ w3 *ℤ dot d c ≡ pos 0
    sum = zero_sum_dot z d

    swap : (x y u v s t k l : ℤ) → x *ℤ s +ℤ y *ℤ t +ℤ u *ℤ k +ℤ v *ℤ l ≡ y *ℤ t +ℤ x *ℤ s +ℤ u *ℤ k +ℤ v *ℤ l
    swap x y u v s t k l = by_ring (x ∷ y ∷ u ∷ v ∷ s ∷ t ∷ k ∷ l ∷ []) (search sides depth 40) refl

    turn : (x y u v s t k l : ℤ) → x *ℤ s +ℤ y *ℤ t +ℤ u *ℤ k +ℤ v *ℤ l ≡ y *ℤ t +ℤ u *ℤ k +ℤ x *ℤ s +ℤ v *ℤ l
    turn x y u v s t k l = by_ring (x ∷ y ∷ u ∷ v ∷ s ∷ t ∷ k ∷ l ∷ []) (search sides depth 40) refl

    last : (x y u v s t k l : ℤ) → x *ℤ s +ℤ y *ℤ t +ℤ u *ℤ k +ℤ v *ℤ l ≡ y *ℤ t +ℤ u *ℤ k +ℤ v *ℤ l +ℤ x *ℤ s
    last x y u v s t k l = by_ring (x ∷ y ∷ u ∷ v ∷ s ∷ t ∷ k ∷ l ∷ []) (search sides depth 40) refl

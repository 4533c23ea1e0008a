-- "A float is taken exactly when its value times 64 is a whole number within ±65,536" (document 01): the sentence itself, as a law of what a scan may answer.
-- With it, what the three refusals and the range come to for a float that is a whole number of steps.
use Rattle.std.specs.Prelude.{ℕ, zero, suc, ◌*◌, ◌≤◌, ◌<◌, ◌≡◌, refl, Bool, true, false, ◌⊎◌, eqb, ℤ, pos, negsuc, nat_abs, ◌*ℤ◌, Float}
use Rattle.std.proofs.Common.{sym, ap, ◌∙◌, subst, inl, inr, ⊎_elim, arith, mul-lt-mul_of_pos_right, mul-le-mul_right, eqb-true}
use Rattle.std.proofs.Math.Nat.{div-eq_of_eq-mul_left}
use Rattle.std.proofs.lemmas.Bool.{eqb-false}
use Rattle.std.proofs.Math.IntN.{pos-ne-negsuc}
use Rattle.std.specs.Float.{nan, inf, fin}
use Rattle.std.specs.Float.Ieee.{up, down}
use Rattle.std.specs.Float.Ieee.Fits.{down_pos}
use Rattle.ints.specs.Order.{lt-or-ge}
use Rattle.limits.specs.Limits
use Rattle.limits.specs.Lowest.{Lowest}
use Rattle.scans.specs.Floats.{with_sign, InSteps, steps_of, NotFinite, NotWhole, Beyond, refusals}
use Rattle.scans.specs.Scanned.{Scan, ScannedAs}
use Rattle.scans.specs.Signs.{sign_of, size_of}
use Rattle.scans.specs.Once.{steps_once}

-- a float that is z steps has z as its steps
pub steps_are : (x : Float) (z : ℤ) → InSteps x z → steps_of x ≡ z
unfolding steps_of
steps_are nan z v = absurd v
steps_are (inf s) z v = absurd v
steps_are (fin s m e) z v =
    ap (with_sign s) (div-eq_of_eq-mul_left (down_pos e) (size_of s (m * up e * 64) (down e) z v)) ∙ signed z v
  where
    signed : (z : ℤ) → with_sign s (m * up e * 64) ≡ z *ℤ pos (down e) → with_sign s (nat_abs z) ≡ z
    signed (pos zero) v = no_sign s
      where
        no_sign : (s : Bool) → with_sign s 0 ≡ pos 0
        no_sign true = refl
        no_sign false = refl
    signed (pos (suc n)) v =
        ap (λ (s : Bool). with_sign s (suc n)) (sign_of s (m * up e * 64) (down e) (pos (suc n)) (down_pos e) (λ z. let k : suc n ≡ 0 = ap nat_abs z in omega arith) v)
    signed (negsuc n) v =
        ap (λ (s : Bool). with_sign s (suc n)) (sign_of s (m * up e * 64) (down e) (negsuc n) (down_pos e) (λ z. pos-ne-negsuc 0 n (sym z)) v)

same_or : (y z : ℤ) → (y ≡ z) ⊎ (y ≡ z → ⊥)
same_or (pos m) (pos n) = by (eqb m n) refl
  where
    by : (t : Bool) → eqb m n ≡ t → (pos m ≡ pos n) ⊎ (pos m ≡ pos n → ⊥)
    by true e = inl (ap pos (eqb-true m n e))
    by false e = inr (λ q. eqb-false m n e (ap nat_abs q))
same_or (pos m) (negsuc n) = inr (pos-ne-negsuc m n)
same_or (negsuc m) (pos n) = inr (λ q. pos-ne-negsuc n m (sym q))
same_or (negsuc m) (negsuc n) = by (eqb m n) refl
  where
    by : (t : Bool) → eqb m n ≡ t → (negsuc m ≡ negsuc n) ⊎ (negsuc m ≡ negsuc n → ⊥)
    by true e = inl (ap negsuc (eqb-true m n e))
    by false e = inr (λ q. let k : suc m ≡ suc n = ap nat_abs q in eqb-false m n e (omega arith))

-- a float that neither 16 nor 17 refuses is its steps
pub steps_of_lem : (x : Float) → (NotFinite x → ⊥) → (NotWhole x → ⊥) → InSteps x (steps_of x)
unfolding steps_of
steps_of_lem nan f g = absurd (f tt)
steps_of_lem (inf s) f g = absurd (f tt)
steps_of_lem (fin s m e) f g = ⊎_elim (λ v. v)
    (λ (n : InSteps (fin s m e) (steps_of (fin s m e)) → ⊥). absurd (g (f, λ z v. n (subst (InSteps (fin s m e)) (sym (steps_are (fin s m e) z v)) v))))
    (same_or (with_sign s (m * up e * 64)) (steps_of (fin s m e) *ℤ pos (down e)))

-- a float that is z steps is out of range exactly when z is
pub beyond : (x : Float) (z : ℤ) → InSteps x z → Limits.shape_reach < nat_abs z → Beyond x
beyond nan z v h = v
beyond (inf s) z v h = v
beyond (fin s m e) z v h =
    subst (λ (k : ℕ). Limits.shape_reach * down e < k) (sym (size_of s (m * up e * 64) (down e) z v)) (mul-lt-mul_of_pos_right h (down_pos e))

pub not_beyond : (x : Float) (z : ℤ) → InSteps x z → nat_abs z ≤ Limits.shape_reach → Beyond x → ⊥
not_beyond nan z v h b = v
not_beyond (inf s) z v h b = v
not_beyond (fin s m e) z v h b =
    let k = subst (λ (k : ℕ). Limits.shape_reach * down e < k) (size_of s (m * up e * 64) (down e) z v) b in
    let l = mul-le-mul_right (down e) h in
    omega arith

pub finite : (x : Float) (z : ℤ) → InSteps x z → NotFinite x → ⊥
finite nan z v n = v
finite (inf s) z v n = v
finite (fin s m e) z v n = n

-- where the number is 0, none of the three refusals applies
pub none_applies : (of : (Float → Type 0) → Type 0) {n : ℕ} → Lowest (refusals of) n → n ≡ Limits.done → (of NotFinite → ⊥) × (of NotWhole → ⊥) × (of Beyond → ⊥)
none_applies of (inl p) e = absurd (omega (arith, p.1))
none_applies of (inr (f, inl p)) e = absurd (omega (arith, p.1))
none_applies of (inr (f, inr (g, inl p))) e = absurd (omega (arith, p.1))
none_applies of (inr (f, inr (g, inr p))) e = (f, g, p.0)

pub taken_only : {x : Float} {r : Scan} → ScannedAs x r → r.number ≡ Limits.done → InSteps x r.steps × (nat_abs r.steps ≤ Limits.shape_reach)
taken_only {x} {r} h e =
    let v = h.steps e in
    let f = none_applies (λ C. C x) h.number e in
    (v, ⊎_elim (λ l. absurd (f.2 (beyond x r.steps v l))) (λ l. l) (lt-or-ge Limits.shape_reach (nat_abs r.steps)))

pub taken_if : {x : Float} {r : Scan} (z : ℤ) → InSteps x z → nat_abs z ≤ Limits.shape_reach → ScannedAs x r → (r.number ≡ Limits.done) × (r.steps ≡ z)
taken_if {x} {r} z v l h = let n = none h.number in (n, steps_once x (h.steps n) v)
  where
    none : Lowest (refusals (λ C. C x)) r.number → r.number ≡ Limits.done
    none (inl p) = absurd (finite x z v p.0)
    none (inr (f, inl p)) = absurd (p.0.1 z v)
    none (inr (f, inr (g, inl p))) = absurd (not_beyond x z v l p.0)
    none (inr (f, inr (g, inr p))) = p.1

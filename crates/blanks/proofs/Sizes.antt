-- A size's sign by its steps, and the refusals of three sizes by those of the point that they are.
-- A size is refused by its float, and the code asks its steps: these laws join the two.
use Prim.Native.Nat.{zero, suc, ◌*◌, ◌≤◌, ◌<◌}
use mathlib.Core.Path.{◌≡◌, refl, sym, ap, subst}
use mathlib.Core.Bool.{Bool, true, false, ◌&&◌}
use mathlib.Core.Logic.{◌⊎◌, inl, inr, ⊎_elim}
use native.Mathlib.Omega.{arith}
use native.Mathlib.Nat.{mul-pos}
use lib.Dec.{T, leb→le, lt→ltb}
use lib.IntN.{ℤ, pos, negsuc, nat_abs, pos-ne-negsuc}
use lib.Signed.{lt_z}
use lib.Ieee.{Float, nan, inf, fin, up, down}
use lib.Ieee.Fits.{up_pos, down_pos}
use Rattle.limits.specs.Limits
use Rattle.limits.specs.Lowest.{Lowest}
use Rattle.scans.specs.Floats.{InSteps, refusals}
use Rattle.scans.specs.Scanned.{One, Scanned, PointAs}
use Rattle.scans.specs.Signs.{sign_of, size_of}
use Rattle.scans.specs.TakenWhen.{none_applies}
use Rattle.scans.specs.declared.Point.{Point}
use Rattle.blanks.specs.Blanks.{ZeroOrLess, size_refusals}
use Rattle.blanks.specs.Chosen.{all_positive, SizesAs}

-- ---- one size
-- a float of steps above 0 is not zero or less
above : (x : Float) (z : ℤ) → InSteps x z → lt_z (pos 0) z ≡ true → ZeroOrLess x → ⊥
above nan z v h l = v
above (inf s) z v h l = v
above (fin s m e) (pos zero) v h l = subst T (sym h) tt
above (fin s m e) (negsuc k) v h l = subst T (sym h) tt
above (fin true m e) (pos (suc k)) v h l = subst T (sign_of true (m * up e * 64) (down e) (pos (suc k)) (down_pos e) (λ z. let n : suc k ≡ 0 = ap nat_abs z in omega arith) v) tt
above (fin false zero e) (pos (suc k)) v h l =
    let t : 0 < suc k * down e = mul-pos (omega arith) (down_pos e) in omega (arith, size_of false (0 * up e * 64) (down e) (pos (suc k)) v)
above (fin false (suc m) e) (pos (suc k)) v h l = let n : suc m ≤ 0 = leb→le (suc m) 0 l.le in omega arith

-- a float of steps that are not above 0 is zero or less
not_above : (x : Float) (z : ℤ) → InSteps x z → lt_z (pos 0) z ≡ false → ZeroOrLess x
not_above nan z v h = v
not_above (inf s) z v h = v
not_above (fin true zero e) z v h = record { le = tt }
not_above (fin true (suc m) e) z v h = record { le = tt }
not_above (fin false zero e) z v h = record { le = tt }
not_above (fin false (suc m) e) (pos zero) v h =
    absurd (let t : 0 < suc m * up e = mul-pos (omega arith) (up_pos e) in omega (arith, size_of false (suc m * up e * 64) (down e) (pos 0) v))
not_above (fin false (suc m) e) (pos (suc k)) v h = absurd (subst T h (lt→ltb 0 (suc k) (omega arith)))
not_above (fin false (suc m) e) (negsuc k) v h =
    absurd (subst T (sym (sign_of false (suc m * up e * 64) (down e) (negsuc k) (down_pos e) (λ z. pos-ne-negsuc 0 k (sym z)) v)) tt)

-- ---- three tests
three : (a b c : Bool) → (a && b && c) ≡ true → (a ≡ true) × (b ≡ true) × (c ≡ true)
three true true true e = (refl, refl, refl)
three true true false e = absurd (subst T (sym e) tt)
three true false c e = absurd (subst T (sym e) tt)
three false b c e = absurd (subst T (sym e) tt)

one_of : (a b c : Bool) → (a && b && c) ≡ false → (a ≡ false) ⊎ ((b ≡ false) ⊎ (c ≡ false))
one_of true true true e = absurd (subst T e tt)
one_of true true false e = inr (inr refl)
one_of true false c e = inr (inl refl)
one_of false b c e = inl refl

-- ---- three sizes
module _ {p : Point} {r : Scanned} (h : PointAs p r) where
  pub refused : (r.number ≡ 0 → ⊥) → SizesAs p r
  refused f = record { number = longer h.number; steps = h.steps }
    where
      longer : Lowest (refusals (λ C. One C p)) r.number → Lowest (size_refusals p) r.number
      longer (inl a) = inl a
      longer (inr (a, inl b)) = inr (a, inl b)
      longer (inr (a, inr (b, inl c))) = inr (a, inr (b, inl c))
      longer (inr (a, inr (b, inr c))) = absurd (f c.1)

  module _ (e : r.number ≡ 0) where
    pub all_above : all_positive r.x r.y r.z ≡ true → SizesAs p r
    all_above t =
        let v = h.steps e in
        let a = three (lt_z (pos 0) r.x) (lt_z (pos 0) r.y) (lt_z (pos 0) r.z) t in
        let n = none_applies (λ C. One C p) h.number e in
        let none : One ZeroOrLess p → ⊥ =
        ⊎_elim (above p.x r.x v.0 a.0) (⊎_elim (above p.y r.y v.1 a.1) (above p.z r.z v.2 a.2)) in
        record { number = inr (n.0, inr (n.1, inr (n.2, inr (none, e)))); steps = h.steps }

    pub one_not : all_positive r.x r.y r.z ≡ false → SizesAs p (record { number = Limits.size_zero; x = pos 0; y = pos 0; z = pos 0 })
    one_not t =
        let v = h.steps e in
        let n = none_applies (λ C. One C p) h.number e in
        let one : One ZeroOrLess p = ⊎_elim
        (λ a. inl (not_above p.x r.x v.0 a))
        (⊎_elim (λ a. inr (inl (not_above p.y r.y v.1 a))) (λ a. inr (inr (not_above p.z r.z v.2 a))))
        (one_of (lt_z (pos 0) r.x) (lt_z (pos 0) r.y) (lt_z (pos 0) r.z) t) in
        record { number = inr (n.0, inr (n.1, inr (n.2, inl (one, refl)))); steps = λ z. absurd (omega arith) }

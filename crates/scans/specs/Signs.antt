-- What `z` steps say of a float's sign and of its size, each side of "value times 64 is z" being a whole number with its sign.
-- The laws are over any size n and any divisor d, so that they serve a float and its parts alike.
use Rattle.std.specs.Prelude.{ℕ, zero, suc, ◌*◌, ◌<◌, ◌≡◌, refl, Bool, true, false, ℤ, pos, negsuc, neg_ℤ, nat_abs, ◌*ℤ◌}
use Rattle.std.proofs.Common.{sym, ap, ◌∙◌, arith, mul-pos}
use Rattle.std.proofs.Math.IntN.{pos-ne-negsuc}
use Rattle.ints.specs.Bounds.{nat_abs_neg, nat_abs_mul}
use Rattle.scans.specs.Floats.{with_sign}

-- the sign of a number
abbrev pub below : ℤ → Bool
below (pos n) = false
below (negsuc n) = true

not_minus : (n k : ℕ) → 0 < k → pos n ≡ neg_ℤ (pos k) → ⊥
not_minus n zero h e = omega arith
not_minus n (suc k) h e = pos-ne-negsuc n k e

pub sign_of : (s : Bool) (n d : ℕ) (z : ℤ) → 0 < d → (z ≡ pos 0 → ⊥) → with_sign s n ≡ z *ℤ pos d → s ≡ below z
sign_of true n d (negsuc k) h f e = refl
sign_of false n d (pos k) h f e = refl
sign_of true n d (pos zero) h f e = absurd (f refl)
sign_of true n d (pos (suc k)) h f e = absurd (plus n (mul-pos (omega arith) h) e)
  where
    plus : (n : ℕ) {k : ℕ} → 0 < k → neg_ℤ (pos n) ≡ pos k → ⊥
    plus zero {k} h e = let u : 0 ≡ k = ap nat_abs e in omega arith
    plus (suc n) {k} h e = pos-ne-negsuc k n (sym e)
sign_of false n d (negsuc k) h f e = absurd (not_minus n (suc k * d) (mul-pos (omega arith) h) e)

pub nat_abs_signed : (s : Bool) (n : ℕ) → nat_abs (with_sign s n) ≡ n
nat_abs_signed true n = nat_abs_neg (pos n)
nat_abs_signed false n = refl

pub size_of : (s : Bool) (n d : ℕ) (z : ℤ) → with_sign s n ≡ z *ℤ pos d → n ≡ nat_abs z * d
size_of s n d z e = sym (nat_abs_signed s n) ∙ ap nat_abs e ∙ nat_abs_mul z (pos d)

-- a number is its size with its sign
pub own : (z : ℤ) → with_sign (below z) (nat_abs z) ≡ z
own (pos n) = refl
own (negsuc n) = refl

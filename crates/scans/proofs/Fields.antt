-- What the fields of a bit pattern say of the float's size in steps: s is the sign, f the exponent's field, t the digits below the leading one.
-- The exponent of one step is 121, and 144 that of a last digit that counts whole steps.
use Prim.Native.Nat.{ℕ, zero, suc, ◌+◌, ◌-◌, ◌*◌, ◌/◌, ◌%◌, ◌^◌, ◌≤◌, ◌<◌}
use mathlib.Core.Path.{◌≡◌, refl, sym, ap, ◌∙◌, subst}
use mathlib.Core.Bool.{Bool, true, false, cond}
use native.Mathlib.Omega.{arith}
use native.Mathlib.Nat.{mul_assoc, mul-one, one-mul, lt_of_lt_of_le, le-mul_of_pos_right}
use borrow.Author.Tests.{ne_eqb}
use lib.Dec.{leb, eqb, lit≤}
use lib.Pow.{pow-add, pow_pos, pow_mono, shl_exact}
use lib.Ieee.{nan, inf, odd, of_fields, of_bits, binary32}
use lib.Ieee.Exact.{odd_sign}
use Rattle.scans.specs.Floats.{NotFinite, NotWhole}
use Rattle.scans.proofs.Sized.{Sized, of_value, resized, under_one}

-- ---- the fields of a pattern
abbrev pub minus : ℕ → Bool
minus n = leb 2147483648 n

abbrev pub exponent : ℕ → ℕ
exponent n = n % 2147483648 / 8388608

abbrev pub digits : ℕ → ℕ
digits n = n % 8388608

pub of_bits_lem : (n : ℕ) → of_bits binary32 n ≡ of_fields binary32 (minus n) (exponent n) (digits n)
unfolding of_bits
of_bits_lem n = refl

-- ---- what they say
pub all_ones : (s : Bool) (f t : ℕ) → f ≡ 255 → NotFinite (of_fields binary32 s f t)
unfolding of_fields
all_ones s f t e = subst (λ (f : ℕ). NotFinite (of_fields binary32 s f t)) (sym e) (go (eqb t 0))
  where
    go : (b : Bool) → NotFinite (cond b (inf s) nan)
    go true = tt
    go false = tt

subnormal : (s : Bool) (t : ℕ) → Sized (of_fields binary32 s 0 t) s (t * 64) (2 ^ 149)
unfolding of_fields
subnormal s t = subst (λ (n : ℕ). Sized (odd 24 s t 0 149) s (n * 64) (2 ^ 149)) (mul-one t) (of_value (odd 24 s t 0 149) s (t * 2 ^ 0) (2 ^ 149) (odd_sign 24 s t 0 149))

normal : (s : Bool) (f t : ℕ) → (suc f ≡ 255 → ⊥) → Sized (of_fields binary32 s (suc f) t) s ((8388608 + t) * 2 ^ f * 64) (2 ^ 149)
unfolding of_fields
normal s f t h =
    subst (λ (b : Bool). Sized (cond b (cond (eqb t 0) (inf s) nan) (odd 24 s (8388608 + t) f 149)) s ((8388608 + t) * 2 ^ f * 64) (2 ^ 149))
    (sym (ne_eqb (suc f) 255 h)) (of_value (odd 24 s (8388608 + t) f 149) s ((8388608 + t) * 2 ^ f) (2 ^ 149) (odd_sign 24 s (8388608 + t) f 149))

pub nothing : (s : Bool) (f t : ℕ) → f ≡ 0 → t ≡ 0 → Sized (of_fields binary32 s f t) s 0 1
nothing s f t e h = rw (e, h) (resized 0 1 (pow_pos 149) refl (subnormal s 0))

-- below 144 the last digits stand behind the point
pub behind : (s : Bool) (f t : ℕ) → 0 < f → f < 144 → Sized (of_fields binary32 s f t) s (8388608 + t) (2 ^ (144 - f))
behind s zero t l h = absurd (omega arith)
behind s (suc f) t l h =
    let k = 144 - suc f in
    let m = 8388608 + t in
    let e : f + 6 + k ≡ 149 = omega arith in
    let p : 2 ^ f * 64 * 2 ^ k ≡ 2 ^ 149 = ap (λ (n : ℕ). n * 2 ^ k) (sym (pow-add 2 f 6)) ∙ sym (pow-add 2 (f + 6) k) ∙ ap (λ (n : ℕ). 2 ^ n) e in
    resized m (2 ^ k) (pow_pos 149)
    (ap (λ (n : ℕ). n * 2 ^ k) (mul_assoc m (2 ^ f) 64) ∙ mul_assoc m (2 ^ f * 64) (2 ^ k) ∙ ap (λ (n : ℕ). m * n) p)
    (normal s f t (λ z. omega arith))

-- from 144 on they count whole steps, too many
pub ahead : (s : Bool) (f t : ℕ) → 144 ≤ f → (f ≡ 255 → ⊥) → Sized (of_fields binary32 s f t) s ((8388608 + t) * 2 ^ (f - 144)) 1
ahead s zero t l h = absurd (omega arith)
ahead s (suc f) t l h =
    let k = suc f - 144 in
    let m = 8388608 + t in
    let e : f + 6 ≡ k + 149 = omega arith in
    let p : 2 ^ f * 64 ≡ 2 ^ k * 2 ^ 149 = sym (pow-add 2 f 6) ∙ ap (λ (n : ℕ). 2 ^ n) e ∙ pow-add 2 k 149 in
    resized (m * 2 ^ k) 1 (pow_pos 149)
    (mul-one (m * 2 ^ f * 64) ∙ mul_assoc m (2 ^ f) 64 ∙ ap (λ (n : ℕ). m * n) p ∙ sym (mul_assoc m (2 ^ k) (2 ^ 149)))
    (normal s f t h)

pub too_many : (f t : ℕ) → 65536 < (8388608 + t) * 2 ^ (f - 144)
too_many f t = lt_of_lt_of_le {m = 8388608 + t} (omega arith) (le-mul_of_pos_right (8388608 + t) (pow_pos (f - 144)))

-- below 121, the exponent of one step, they are less than one
pub small : (s : Bool) (f t : ℕ) → f < 121 → t < 8388608 → (f ≡ 0 → t ≡ 0 → ⊥) → NotWhole (of_fields binary32 s f t)
small s zero t l h z =
    under_one (let k = z refl in lt_of_not_zero t k) (lt_of_lt_of_le {m = 2 ^ 30} (omega arith) (pow_mono {i = 30} {j = 149} (lit≤ tt))) (subnormal s t)
  where
    lt_of_not_zero : (t : ℕ) → (t ≡ 0 → ⊥) → 0 < t * 64
    lt_of_not_zero t k = omega arith
small s (suc f) t l h z =
    under_one (omega arith) (lt_of_lt_of_le {m = 2 ^ 24} (omega arith) (pow_mono {i = 24} {j = 144 - suc f} (omega arith)))
    (behind s (suc f) t (omega arith) (omega arith))

-- the divisor that the code makes by a shift
pub power : (f : ℕ) → 121 ≤ f → 1 * 2 ^ (144 - f) % 4294967296 ≡ 2 ^ (144 - f)
power f h = shl_exact {a = 1} 1 (144 - f) 32 (omega arith) (omega arith) ∙ one-mul (2 ^ (144 - f))

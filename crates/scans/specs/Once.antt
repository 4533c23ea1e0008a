-- Determinacy: any two answers that a contract of this crate allows are equal, the float shown included.
-- For the float shown this is equality of the value and of its sign, since a format writes each in one way.
use Rattle.std.specs.Prelude.{ℕ, zero, suc, ◌+◌, ◌-◌, ◌*◌, ◌/◌, ◌^◌, ◌<◌, ◌≡◌, refl, Bool, cond, ◌⊎◌, [], ◌∷◌, T, ℤ, pos, negsuc, nat_abs, Float}
use Rattle.std.proofs.Common.{sym, ap, ◌∙◌, inl, inr, ⊎_elim, arith, mul_right_comm, lt→ltb, lit<}
use Rattle.std.proofs.Math.Nat.{eq_of_mul-eq-mul_right}
use Rattle.std.proofs.Math.IntN.{*ℤ_comm, pos-ne-negsuc}
use Rattle.std.specs.Float.{nan, inf, fin, binary32}
use Rattle.std.specs.Float.Ieee.{up, down, size, fits, to_bits, of_bits}
use Rattle.std.specs.Float.Ieee.Bits.{of_bits-to_bits}
use Rattle.std.specs.Float.Ieee.Fits.{down_pos}
use Rattle.std.specs.Float.Ieee.Nearest.{div_same}
use Rattle.ints.proofs.OrderLaws.{≡-cancel}
use Rattle.limits.specs.Limits
use Rattle.limits.specs.Lowest.{◌when◌}
use Rattle.limits.proofs.LowestLaws.{lowest_once}
use Rattle.scans.specs.Floats.{InSteps, refusals}
use Rattle.scans.specs.Scanned.{Scan, ScannedAs, One, Scanned, PointAs}
use Rattle.scans.specs.Shown.{Millimetres, ShownAs, PatternOf}
use Rattle.scans.specs.Signs.{sign_of, size_of}
use Rattle.scans.specs.declared.Point.{Point}

-- a number is 0, or it is not
pub zero_or : (n : ℕ) → (n ≡ 0) ⊎ (n ≡ 0 → ⊥)
zero_or zero = inl refl
zero_or (suc n) = inr (λ e. omega arith)

-- ---- steps
-- a float is one number of steps
pub steps_once : (x : Float) {y z : ℤ} → InSteps x y → InSteps x z → y ≡ z
steps_once nan v w = absurd v
steps_once (inf s) v w = absurd v
steps_once (fin s m e) {y} {z} v w =
    ≡-cancel (pos (down e)) (record { lt = lt→ltb 0 (down e) (down_pos e) })
    (*ℤ_comm (pos (down e)) y ∙ sym v ∙ w ∙ *ℤ_comm z (pos (down e)))

pub scanned_once : {x : Float} {r t : Scan} → ScannedAs x r → ScannedAs x t → r ≡ t
scanned_once {x} {r} {t} h k =
    let n : r.number ≡ t.number = lowest_once (refusals (λ C. C x)) h.number k.number in
    let z : r.steps ≡ t.steps = ⊎_elim
    (λ (e : r.number ≡ 0). steps_once x (h.steps e) (k.steps (sym n ∙ e)))
    (λ (f : r.number ≡ 0 → ⊥). h.zero f ∙ sym (k.zero (λ e. f (n ∙ e)))) (zero_or r.number) in
    λ i. record { number = n i; steps = z i }

pub point_once : {p : Point} {r t : Scanned} → PointAs p r → PointAs p t → r ≡ t
point_once {p} {r} {t} h k =
    let n : r.number ≡ t.number = lowest_once (refusals (λ C. One C p)) h.number k.number in
    let c : (r.x ≡ t.x) × (r.y ≡ t.y) × (r.z ≡ t.z) = ⊎_elim
    (λ (e : r.number ≡ 0).
    let a = h.steps e in
    let b = k.steps (sym n ∙ e) in
    (steps_once p.x a.0 b.0, steps_once p.y a.1 b.1, steps_once p.z a.2 b.2))
    (λ (f : r.number ≡ 0 → ⊥).
    let a = h.zero f in
    let b = k.zero (λ e. f (n ∙ e)) in
    (a.0 ∙ sym b.0, a.1 ∙ sym b.1, a.2 ∙ sym b.2)) (zero_or r.number) in
    λ i. record { number = n i; x = c.0 i; y = c.1 i; z = c.2 i }

-- ---- the float shown
same_bits : (s : Bool) (m n : ℕ) (e g : ℤ) → m * up e * down g ≡ n * up g * down e → to_bits binary32 (fin s m e) ≡ to_bits binary32 (fin s n g)
unfolding to_bits
same_bits s m n e g h =
    ap (λ (k : ℕ). cond s 2147483648 0 + (size k - 24) * 8388608 + k / 2 ^ (size k - 24))
    (div_same (m * up e * 2 ^ 149) (down e) (n * up g * 2 ^ 149) (down g) (down_pos e) (down_pos g)
    (mul_right_comm (m * up e) (2 ^ 149) (down g) ∙ ap (λ (k : ℕ). k * 2 ^ 149) h ∙ mul_right_comm (n * up g) (down e) (2 ^ 149)))

-- two floats of binary32 that are one number of steps, and not 0, are equal
same_float : (x y : Float) (z : ℤ) → (z ≡ pos 0 → ⊥) → T (fits binary32 x) → T (fits binary32 y) → InSteps x z → InSteps y z → x ≡ y
same_float nan y z f p q v w = absurd v
same_float (inf s) y z f p q v w = absurd v
same_float (fin s m e) nan z f p q v w = absurd w
same_float (fin s m e) (inf t) z f p q v w = absurd w
same_float (fin s m e) (fin t n g) z f p q v w =
    let a = size_of s (m * up e * 64) (down e) z v in
    let b = size_of t (n * up g * 64) (down g) z w in
    let cross : m * up e * down g ≡ n * up g * down e =
    eq_of_mul-eq-mul_right 64 (lit< tt) (m * up e * down g) (n * up g * down e)
    (mul_right_comm (m * up e) (down g) 64
    ∙ ap (λ (k : ℕ). k * down g) a
    ∙ mul_right_comm (nat_abs z) (down e) (down g)
    ∙ ap (λ (k : ℕ). k * down e) (sym b)
    ∙ mul_right_comm (n * up g) 64 (down e)) in
    let sign : s ≡ t = sign_of s (m * up e * 64) (down e) z (down_pos e) f v ∙ sym (sign_of t (n * up g * 64) (down g) z (down_pos g) f w) in
    sym (of_bits-to_bits binary32 (fin s m e) p)
    ∙ ap (of_bits binary32) (same_bits s m n e g cross ∙ ap (λ (s : Bool). to_bits binary32 (fin s n g)) sign)
    ∙ of_bits-to_bits binary32 (fin t n g) q

zero_or_not : (z : ℤ) → (z ≡ pos 0) ⊎ (z ≡ pos 0 → ⊥)
zero_or_not (pos zero) = inl refl
zero_or_not (pos (suc n)) = inr (λ e. let k : suc n ≡ 0 = ap nat_abs e in omega arith)
zero_or_not (negsuc n) = inr (λ e. pos-ne-negsuc 0 n (sym e))

pub shown_once : {z : ℤ} {r t : Millimetres} → ShownAs z r → ShownAs z t → r ≡ t
shown_once {z} {r} {t} h k =
    let n : r.number ≡ t.number = lowest_once (Limits.placed_range when (Limits.placed_reach < nat_abs z) ∷ []) h.number k.number in
    let taken : r.number ≡ 0 → r.value ≡ t.value = λ e. ⊎_elim
    (λ (u : z ≡ pos 0). h.plus u ∙ sym (k.plus u))
    (λ (u : z ≡ pos 0 → ⊥). same_float r.value t.value z u h.held k.held (h.exact e) (k.exact (sym n ∙ e))) (zero_or_not z) in
    let v : r.value ≡ t.value = ⊎_elim taken (λ (f : r.number ≡ 0 → ⊥). h.zero f ∙ sym (k.zero (λ e. f (n ∙ e)))) (zero_or r.number) in
    λ i. record { number = n i; value = v i }

pub pattern_once : {x : Float} {m n : ℕ} → PatternOf x m → PatternOf x n → m ≡ n
pattern_once h k = h.written ∙ sym k.written

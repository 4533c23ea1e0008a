-- Floats as fractions of steps: `Sized x s a c` says that x is finite, has the sign s, and is a / c steps in size.
-- The laws say what that makes of x: how many steps it is, or that it is no whole number of them.
use Prim.Native.Nat.{ℕ, ◌+◌, ◌*◌, ◌/◌, ◌%◌, ◌<◌}
use mathlib.Core.Path.{◌≡◌, refl, sym, ap, ◌∙◌, subst}
use mathlib.Core.Bool.{Bool, true, false}
use native.Mathlib.Omega.{arith}
use native.Mathlib.Nat.{mul_right_comm, mul-one, mul-mod_left, eq_of_mul-eq-mul_right, mod-eq_of_lt, div-add-mod', add-zero}
use lib.IntN.{ℤ, pos, nat_abs, ◌*ℤ◌}
use lib.Ieee.{Float, nan, inf, fin, up, down}
use lib.Ieee.Fits.{down_pos}
use lib.Ieee.Exact.{HasValue}
use Rattle.ints.specs.Laws.{negℤ-*ℤ}
use Rattle.scans.specs.Floats.{with_sign, InSteps, NotFinite, NotWhole}
use Rattle.scans.specs.Signs.{size_of}

pub data Sized : Float → Bool → ℕ → ℕ → Type 0 where
  sized : {s : Bool} {m : ℕ} {e : ℤ} {a c : ℕ} → m * up e * 64 * c ≡ a * down e → Sized (fin s m e) s a c

-- a fraction of millimetres, in steps
pub of_value : (x : Float) (s : Bool) (a c : ℕ) → HasValue x s a c → Sized x s (a * 64) c
of_value nan s a c v = absurd v
of_value (inf t) s a c v = absurd v
of_value (fin t m e) s a c v =
    subst (λ (t : Bool). Sized (fin t m e) s (a * 64) c) (sym v.0)
    (sized (mul_right_comm (m * up e) 64 c ∙ ap (λ (n : ℕ). n * 64) v.1 ∙ mul_right_comm a (down e) 64))

-- another fraction of the same size
pub resized : {x : Float} {s : Bool} {a c : ℕ} (b d : ℕ) → 0 < c → a * d ≡ b * c → Sized x s a c → Sized x s b d
resized {a} {c} b d h k (sized {m} {e} v) = sized
    (eq_of_mul-eq-mul_right c h (m * up e * 64 * d) (b * down e)
    (mul_right_comm (m * up e * 64) d c
    ∙ ap (λ (n : ℕ). n * d) v
    ∙ mul_right_comm a (down e) d
    ∙ ap (λ (n : ℕ). n * down e) k
    ∙ mul_right_comm b c (down e)))

pub finite : {x : Float} {s : Bool} {a c : ℕ} → Sized x s a c → NotFinite x → ⊥
finite (sized v) n = n

-- ---- no whole number of steps
never : {x : Float} {s : Bool} {a c : ℕ} → (a % c ≡ 0 → ⊥) → Sized x s a c → (z : ℤ) → InSteps x z → ⊥
never {s} {a} {c} f (sized {m} {e} v) z w =
    let size : m * up e * 64 ≡ nat_abs z * down e = size_of s (m * up e * 64) (down e) z w in
    let same : nat_abs z * c ≡ a =
    eq_of_mul-eq-mul_right (down e) (down_pos e) (nat_abs z * c) a
    (mul_right_comm (nat_abs z) c (down e) ∙ ap (λ (n : ℕ). n * c) (sym size) ∙ v) in
    f (ap (λ (n : ℕ). n % c) (sym same) ∙ mul-mod_left (nat_abs z) c)

pub fraction : {x : Float} {s : Bool} {a c : ℕ} → (a % c ≡ 0 → ⊥) → Sized x s a c → NotWhole x
fraction f v = (finite v, never f v)

-- less than one step, and not zero
pub under_one : {x : Float} {s : Bool} {a c : ℕ} → 0 < a → a < c → Sized x s a c → NotWhole x
under_one {a} {c} h l v = fraction (λ e. let k : a ≡ 0 = sym (mod-eq_of_lt l) ∙ e in omega arith) v

-- ---- n steps
signed_mul : (s : Bool) (n d : ℕ) → with_sign s (n * d) ≡ with_sign s n *ℤ pos d
signed_mul true n d = sym (negℤ-*ℤ (pos n) (pos d))
signed_mul false n d = refl

pub in_steps_lem : {x : Float} {s : Bool} {n : ℕ} → Sized x s n 1 → InSteps x (with_sign s n)
in_steps_lem {s} {n} (sized {m} {e} v) = ap (with_sign s) (sym (mul-one (m * up e * 64)) ∙ v) ∙ signed_mul s n (down e)

-- a fraction that leaves nothing
pub quotient : {x : Float} {s : Bool} {a c : ℕ} → 0 < c → a % c ≡ 0 → Sized x s a c → Sized x s (a / c) 1
quotient {a} {c} h e v = resized (a / c) 1 h (mul-one a ∙ sym (div-add-mod' a c) ∙ ap (λ (r : ℕ). a / c * c + r) e ∙ add-zero (a / c * c)) v

-- Laws of a number as an index: how it is found, that it is one, and what a cell of a lent array is read as.
-- Whether a number is one of 0 to n − 1 is decided by its sign and its magnitude.
use Rattle.std.specs.Prelude.{◌≡◌, refl, Bool, true, false, not, ◌⊎◌, ℕ, ◌<◌, ◌≤◌, eqb, ℤ, pos, negsuc, nat_abs, ◌≤ℤ◌, ◌<ℤ◌, Option, Some, None}
use Rattle.std.proofs.Common.{sym, ap, ◌∙◌, subst, inl, inr, ⊎_elim, arith, SFits, to_z, of_z, to_z-of_z, eqb-true}
use Rattle.std.specs.Int.{w32}
use Rattle.std.proofs.Math.Facts.{sfits_lit}
use Rattle.std.proofs.lemmas.Bool.{eqb-false}
use Rattle.std.specs.Int.Signed.{clash_ℤ}
use Rattle.ints.proofs.MeasureLaws.{nat_of}
use Rattle.ints.specs.Order.{lt-or-ge, le-or-lt}
use Rattle.ints.proofs.OrderLaws.{nn_pos}
use Rattle.ints.proofs.Tests.{same_bits}
use Rattle.limits.specs.Decides.{Decides}
use Rattle.limits.specs.DecidesLaws.{holds, fails}
use Rattle.limits.specs.Numbered.{Numbered}
use Rattle.pieces.specs.Index.{Indexed}

-- ---- an index

-- a number below zero has none
pub below-zero : (n : ℕ) (z : ℤ) → z <ℤ pos 0 → Indexed n z None
below-zero n z h k = clash_ℤ h (subst (λ (y : ℤ). pos 0 ≤ℤ y) (sym k.natural) (nn_pos (nat_abs z)))

-- a number from 0 to n − 1 has its magnitude, and one that is too great has none
pub from_zero : (n : ℕ) (z : ℤ) → pos 0 ≤ℤ z → nat_abs z < n → Indexed n z (Some (nat_abs z))
from_zero n z h k = (record { natural = nat_of h; below = k }, refl)

pub too_great : (n : ℕ) (z : ℤ) → n ≤ nat_abs z → Indexed n z None
too_great n z h k = omega (arith, k.below)

-- the index of a number that is one of 0 to n − 1 is its own magnitude
pub indexed_is : {n : ℕ} {z : ℤ} {r : Option ℕ} → Indexed n z r → Numbered n z → r ≡ Some (nat_abs z)
indexed_is {r = Some i} x k = ap Some x.1
indexed_is {r = None} x k = absurd (x k)

pub indexed_none : {n : ℕ} {z : ℤ} {r : Option ℕ} → Indexed n z r → (Numbered n z → ⊥) → r ≡ None
indexed_none {r = Some i} x f = absurd (f x.0)
indexed_none {r = None} x f = refl

numbered? : (n : ℕ) (z : ℤ) → Numbered n z ⊎ (Numbered n z → ⊥)
numbered? n z =
    ⊎_elim
    (λ (h : pos 0 ≤ℤ z). ⊎_elim (λ (k : nat_abs z < n). inl (record { natural = nat_of h; below = k })) (λ (k : n ≤ nat_abs z). inr (λ m. omega (arith, m.below))) (lt-or-ge (nat_abs z) n))
    (λ (h : z <ℤ pos 0). inr (below-zero n z h))
    (le-or-lt (pos 0) z)

pub indexed_once : (n : ℕ) (z : ℤ) {q r : Option ℕ} → Indexed n z q → Indexed n z r → q ≡ r
indexed_once n z x y =
    ⊎_elim (λ (k : Numbered n z). indexed_is x k ∙ sym (indexed_is y k)) (λ (f : Numbered n z → ⊥). indexed_none x f ∙ sym (indexed_none y f)) (numbered? n z)

-- the same of a cell of a lent array, as the code reads it
pub cell_indexed : (n : ℕ) {z : ℤ} (r : Option ℕ) → SFits w32 z → Indexed n (to_z w32 (of_z w32 z)) r → Indexed n z r
cell_indexed n r f x = subst (λ (y : ℤ). Indexed n y r) (to_z-of_z f) x

pub cell-index : {n : ℕ} {z : ℤ} (r : Option ℕ) → SFits w32 z → Indexed n (to_z w32 (of_z w32 z)) r → Numbered n z → r ≡ Some (nat_abs z)
cell-index {n} r f x k = indexed_is (cell_indexed n r f x) k

-- a cell of a lent array that is one of 0 to n − 1 is read as it is
pub cell_numbered : {n : ℕ} {z : ℤ} → n ≤ 2147483648 → Numbered n z → to_z w32 (of_z w32 z) ≡ z
cell_numbered {z} h k = to_z-of_z (subst (λ (y : ℤ). SFits w32 y) (sym k.natural) (record { sfits = omega (arith, k.below) }))

-- whether a cell is 0: the test that is made compares bits
abs_zero : (z : ℤ) → nat_abs z ≡ 0 → z ≡ pos 0
abs_zero (pos n) e = ap pos e
abs_zero (negsuc n) e = absurd (omega arith)

pub some_decided : (z : ℤ) → SFits w32 z → Decides (not (eqb (of_z w32 z) 0)) (nat_abs z ≡ 0 → ⊥)
some_decided z f = go (eqb (of_z w32 z) 0) refl
  where
    go : (b : Bool) → eqb (of_z w32 z) 0 ≡ b → Decides (not b) (nat_abs z ≡ 0 → ⊥)
    go true t = fails refl (λ k. k (ap nat_abs (same_bits {w = w32} {b = pos 0} f (sfits_lit tt) (eqb-true (of_z w32 z) 0 t))))
    go false t = holds refl (λ e. eqb-false (of_z w32 z) 0 t (ap (of_z w32) (abs_zero z e)))

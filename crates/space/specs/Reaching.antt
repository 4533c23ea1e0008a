-- The laws by which a corner list's length and reach are decided.
-- Each takes what the code's tests say, in their order, to the definitions of Lists.
use Rattle.std.specs.Prelude.{◌≡◌, refl, Bool, true, false, ℕ, ◌/◌, ◌%◌, leb, ℤ, pos, negsuc, neg_ℤ, nat_abs, ◌-ℤ◌, ◌≤ℤ◌, ◌<ℤ◌}
use Rattle.std.proofs.Common.{sym, ap, ◌∙◌, subst, arith, SFits, leb-true, leb-false}
use Rattle.std.proofs.Math.IntN.{+ℤ_idl}
use Rattle.std.specs.Int.Signed.{clash_ℤ, le_z}
use Rattle.std.specs.Int.{w32}
use Rattle.ints.specs.Bounds.{Within, within_upper, within_lower, within_of}
use Rattle.ints.specs.Order.{≤ℤ-trans}
use Rattle.ints.proofs.OrderLaws.{nn_pos, nn_dest, pos_le, le_pos}
use Rattle.ints.proofs.Tests.{le_of_true, lt_of_false}
use Rattle.limits.specs.Decides.{Decides}
use Rattle.limits.specs.DecidesLaws.{holds, fails}
use Rattle.limits.specs.Limits.{shape_numbers}
use Rattle.space.specs.Verdicts.{Piece}
use Rattle.space.specs.Lists.{LengthFits, InReach, IsNear, AllNear}

-- ---- the length
pub fits_none : {n : ℕ} → n ≡ 0 → LengthFits n → ⊥
fits_none e f = let a = f.least in let b = f.is in omega arith

pub fits_rest : {n : ℕ} → (n % 3 ≡ 0 → ⊥) → LengthFits n → ⊥
fits_rest h f = h (let b = f.is in omega arith)

pub fits_most : (n : ℕ) → (n ≡ 0 → ⊥) → n % 3 ≡ 0 → Decides (leb n shape_numbers) (LengthFits n)
fits_most n h e = go (leb n shape_numbers) refl
  where
    go : (b : Bool) → leb n shape_numbers ≡ b → Decides b (LengthFits n)
    go true k = let l = leb-true n shape_numbers k in holds refl (record { count = n / 3; least = omega arith; most = omega arith; is = omega arith })
    go false k = let l = leb-false n shape_numbers k in fails refl (λ f. let a = f.most in let b = f.is in omega arith)

-- ---- one number
-- a reach of zero or more is a count
pub near_is : {n : ℕ} {z : ℤ} → IsNear (pos n) z → Within n z
near_is h = record { abs = le_pos h.abs }

pub is_near_lem : {n : ℕ} {z : ℤ} → Within n z → IsNear (pos n) z
is_near_lem w = record { abs = pos_le w.abs }

pub near_within : {b : Bool} {n : ℕ} {z : ℤ} → Decides b (IsNear (pos n) z) → Decides b (Within n z)
near_within d = record { yes = λ t. near_is (d.yes t); no = λ f w. d.no f (is_near_lem w) }

pub near_none : {x reach : ℤ} → reach <ℤ pos 0 → IsNear reach x → ⊥
near_none {x} h n = clash_ℤ h (≤ℤ-trans (nn_pos (nat_abs x)) n.abs)

module _ {reach : ℤ} (nn : pos 0 ≤ℤ reach) where
  size : ℕ
  size = (nn_dest nn).0

  size_is : reach ≡ pos size
  unfolding size
  size_is = (nn_dest nn).1

  minus_is : pos 0 -ℤ reach ≡ neg_ℤ (pos size)
  minus_is = ap (λ z. pos 0 -ℤ z) size_is ∙ +ℤ_idl (neg_ℤ (pos size))

  within_size : {x : ℤ} → IsNear reach x → Within size x
  within_size {x} n = near_is (subst (λ z. IsNear z x) size_is n)

  pub near_below : {x : ℤ} → x <ℤ (pos 0 -ℤ reach) → IsNear reach x → ⊥
  near_below {x} h n = clash_ℤ (subst (λ z. x <ℤ z) minus_is h) (within_lower (within_size n))

  pub near_decided : {x : ℤ} → (pos 0 -ℤ reach) ≤ℤ x → Decides (le_z x reach) (IsNear reach x)
  near_decided {x} h = go (le_z x reach) refl
    where
      go : (b : Bool) → le_z x reach ≡ b → Decides b (IsNear reach x)
      go true k = holds refl (subst (λ z. IsNear z x) (sym size_is) (is_near_lem (within_of (subst (λ z. z ≤ℤ x) minus_is h) (subst (λ z. x ≤ℤ z) size_is (le_of_true k)))))
      go false k = fails refl (λ n. clash_ℤ (lt_of_false k) (subst (λ z. x ≤ℤ z) (sym size_is) (within_upper (within_size n))))

-- a reach that is not negative can be negated
pub reach_most : {reach : ℤ} → pos 0 ≤ℤ reach → SFits w32 reach → Within 2147483647 reach
reach_most {reach = pos n} h f = record { abs = let k = f.sfits in omega arith }
reach_most {reach = negsuc n} h f = absurd h.le

-- ---- a whole list
pub near_all : {b : Bool} {n : ℕ} {s : Piece} → Decides b (AllNear (pos n) s) → Decides b (InReach n s)
near_all d = record { yes = λ t. record { all = λ k h. near_is ((d.yes t).all k h) }; no = λ f w. d.no f (record { all = λ k h. is_near_lem (w.all k h) }) }

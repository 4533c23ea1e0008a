-- What `least_to` and `greatest_to` are: a bound of the first n values, and one of them, if there are any.
-- So a piece's ends on an axis are its least and its greatest placed corner.
use Rattle.std.specs.Prelude.{◌≡◌, refl, Bool, true, false, cond, ℤ, ◌≤ℤ◌}
use Rattle.std.proofs.Common.{subst, ⊎_elim}
use Prim.Native.Nat.{ℕ, zero, suc, ◌≤◌, ◌<◌}
use native.Mathlib.Omega.{arith}
use Rattle.std.specs.Int.Signed.{lt_z, ≤ℤ_refl}
use Rattle.ints.specs.Order.{lt-or-ge, lt→≤ℤ, ≤ℤ-trans}
use Rattle.ints.proofs.Tests.{lt_of_true, le_of_false}
use Rattle.pieces.specs.Pieces.{lesser, greater, least_to, greatest_to}

-- ---- of two
lesser_first : (a b : ℤ) → lesser a b ≤ℤ a
lesser_first a b = go (lt_z a b) refl
  where
    go : (t : Bool) → lt_z a b ≡ t → cond t a b ≤ℤ a
    go true e = ≤ℤ_refl a
    go false e = le_of_false e

lesser_second : (a b : ℤ) → lesser a b ≤ℤ b
lesser_second a b = go (lt_z a b) refl
  where
    go : (t : Bool) → lt_z a b ≡ t → cond t a b ≤ℤ b
    go true e = lt→≤ℤ (lt_of_true e)
    go false e = ≤ℤ_refl b

greater_first : (a b : ℤ) → a ≤ℤ greater a b
greater_first a b = go (lt_z b a) refl
  where
    go : (t : Bool) → lt_z b a ≡ t → a ≤ℤ cond t a b
    go true e = ≤ℤ_refl a
    go false e = le_of_false e

greater_second : (a b : ℤ) → b ≤ℤ greater a b
greater_second a b = go (lt_z b a) refl
  where
    go : (t : Bool) → lt_z b a ≡ t → b ≤ℤ cond t a b
    go true e = lt→≤ℤ (lt_of_true e)
    go false e = ≤ℤ_refl b

-- ---- of the first n values of f
module _ (f : ℕ → ℤ) where
  -- one of the first n values is v
  abbrev pub Attained : ℕ → ℤ → Type 0
  Attained n v = (i : ℕ) × (i < n) × (f i ≡ v)

  chosen : (b : Bool) {n : ℕ} {v : ℤ} → Attained n v → Attained (suc n) (cond b (f n) v)
  chosen true {n} (i, h, e) = (n, omega arith, refl)
  chosen false (i, h, e) = (i, omega arith, e)

  -- i is the last of n + 1, or one of the first n
  last_or : (P : ℤ → Type 0) (n i : ℕ) → i < suc n → P (f n) → (i < n → P (f i)) → P (f i)
  last_or P n i h here there = ⊎_elim there (λ (k : n ≤ i). let e : n ≡ i = omega arith in subst (λ (j : ℕ). P (f j)) e here) (lt-or-ge i n)

  pub least_bound : (n i : ℕ) → i < n → least_to n f ≤ℤ f i
  unfolding least_to
  least_bound zero i h = absurd (omega arith)
  least_bound (suc zero) i h = last_or (λ v. f 0 ≤ℤ v) 0 i h (≤ℤ_refl (f 0)) (λ k. absurd (omega arith))
  least_bound (suc (suc n)) i h =
      last_or (λ v. lesser (f (suc n)) (least_to (suc n) f) ≤ℤ v) (suc n) i h (lesser_first (f (suc n)) (least_to (suc n) f))
      (λ k. ≤ℤ-trans (lesser_second (f (suc n)) (least_to (suc n) f)) (least_bound (suc n) i k))

  pub greatest_bound : (n i : ℕ) → i < n → f i ≤ℤ greatest_to n f
  unfolding greatest_to
  greatest_bound zero i h = absurd (omega arith)
  greatest_bound (suc zero) i h = last_or (λ v. v ≤ℤ f 0) 0 i h (≤ℤ_refl (f 0)) (λ k. absurd (omega arith))
  greatest_bound (suc (suc n)) i h =
      last_or (λ v. v ≤ℤ greater (f (suc n)) (greatest_to (suc n) f)) (suc n) i h (greater_first (f (suc n)) (greatest_to (suc n) f))
      (λ k. ≤ℤ-trans (greatest_bound (suc n) i k) (greater_second (f (suc n)) (greatest_to (suc n) f)))

  pub least_attained : (n : ℕ) → 1 ≤ n → Attained n (least_to n f)
  unfolding least_to
  least_attained zero h = absurd (omega arith)
  least_attained (suc zero) h = (0, omega arith, refl)
  least_attained (suc (suc n)) h = chosen (lt_z (f (suc n)) (least_to (suc n) f)) (least_attained (suc n) (omega arith))

  pub greatest_attained : (n : ℕ) → 1 ≤ n → Attained n (greatest_to n f)
  unfolding greatest_to
  greatest_attained zero h = absurd (omega arith)
  greatest_attained (suc zero) h = (0, omega arith, refl)
  greatest_attained (suc (suc n)) h = chosen (lt_z (greatest_to (suc n) f) (f (suc n))) (greatest_attained (suc n) (omega arith))

-- How a least and a greatest go with their values: moved alike, negated and exchanged.
-- By these the ends of a turned and moved shape are the shape's own, turned and moved.
use Prim.Native.Nat.{ℕ, zero, suc, ◌≤◌}
use Rattle.std.specs.Prelude.{◌≡◌, Bool, true, false, cond, ℤ, pos, neg_ℤ, ◌+ℤ◌, ◌≤ℤ◌, ◌<ℤ◌}
use Rattle.std.proofs.Math.Path.{refl, ap}
use Rattle.std.proofs.Common.{◌∙◌, arith}
use Rattle.std.specs.Int.Signed.{lt_z, clash_ℤ, ≤ℤ_refl}
use Rattle.ints.specs.Laws.{+ℤ-right-comm}
use Rattle.ints.specs.Order.{le_dest, le_by}
use Rattle.ints.proofs.OrderLaws.{<ℤ-add, <ℤ-neg, ≤ℤ-neg}
use Rattle.ints.proofs.Tests.{lt_of_true, le_of_false}
use Rattle.pieces.specs.Pieces.{lesser, greater, least_to, greatest_to}

-- two tests that go the same way are equal
same_test_lem : (a b c e : ℤ) → (a <ℤ b → c <ℤ e) → (b ≤ℤ a → e ≤ℤ c) → lt_z c e ≡ lt_z a b
same_test_lem a b c e f g = go (lt_z a b) refl (lt_z c e) refl
  where
    go : (s : Bool) → lt_z a b ≡ s → (t : Bool) → lt_z c e ≡ t → t ≡ s
    go true p true q = refl
    go true p false q = absurd (clash_ℤ (f (lt_of_true p)) (le_of_false q))
    go false p true q = absurd (clash_ℤ (lt_of_true q) (g (le_of_false p)))
    go false p false q = refl

cond_ap : (f : ℤ → ℤ) (b : Bool) (u v : ℤ) → cond b (f u) (f v) ≡ f (cond b u v)
cond_ap f true u v = refl
cond_ap f false u v = refl

pub le_plus : {a b : ℤ} (o : ℤ) → a ≤ℤ b → (a +ℤ o) ≤ℤ (b +ℤ o)
le_plus {a} {b} o h = let d = le_dest h in le_by d.0 (ap (λ v. v +ℤ o) d.1 ∙ +ℤ-right-comm a (pos d.0) o)

-- ---- of two
module _ (a b : ℤ) where
  lesser_plus : (o : ℤ) → lesser (a +ℤ o) (b +ℤ o) ≡ lesser a b +ℤ o
  lesser_plus o =
      ap (λ (t : Bool). cond t (a +ℤ o) (b +ℤ o)) (same_test_lem a b (a +ℤ o) (b +ℤ o) (λ h. <ℤ-add h (≤ℤ_refl o)) (λ h. le_plus o h))
      ∙ cond_ap (λ v. v +ℤ o) (lt_z a b) a b

  greater_plus : (o : ℤ) → greater (a +ℤ o) (b +ℤ o) ≡ greater a b +ℤ o
  greater_plus o =
      ap (λ (t : Bool). cond t (a +ℤ o) (b +ℤ o)) (same_test_lem b a (b +ℤ o) (a +ℤ o) (λ h. <ℤ-add h (≤ℤ_refl o)) (λ h. le_plus o h))
      ∙ cond_ap (λ v. v +ℤ o) (lt_z b a) a b

  lesser_neg : lesser (neg_ℤ a) (neg_ℤ b) ≡ neg_ℤ (greater a b)
  lesser_neg = ap (λ (t : Bool). cond t (neg_ℤ a) (neg_ℤ b)) (same_test_lem b a (neg_ℤ a) (neg_ℤ b) <ℤ-neg ≤ℤ-neg) ∙ cond_ap neg_ℤ (lt_z b a) a b

  greater_neg : greater (neg_ℤ a) (neg_ℤ b) ≡ neg_ℤ (lesser a b)
  greater_neg = ap (λ (t : Bool). cond t (neg_ℤ a) (neg_ℤ b)) (same_test_lem a b (neg_ℤ b) (neg_ℤ a) <ℤ-neg ≤ℤ-neg) ∙ cond_ap neg_ℤ (lt_z a b) a b

-- ---- of the first n values of f
module _ (f : ℕ → ℤ) where
  pub least_plus : (o : ℤ) (n : ℕ) → 1 ≤ n → least_to n (λ i. f i +ℤ o) ≡ least_to n f +ℤ o
  unfolding least_to
  least_plus o zero h = absurd (omega arith)
  least_plus o (suc zero) h = refl
  least_plus o (suc (suc n)) h = ap (lesser (f (suc n) +ℤ o)) (least_plus o (suc n) (omega arith)) ∙ lesser_plus (f (suc n)) (least_to (suc n) f) o

  pub greatest_plus : (o : ℤ) (n : ℕ) → 1 ≤ n → greatest_to n (λ i. f i +ℤ o) ≡ greatest_to n f +ℤ o
  unfolding greatest_to
  greatest_plus o zero h = absurd (omega arith)
  greatest_plus o (suc zero) h = refl
  greatest_plus o (suc (suc n)) h = ap (greater (f (suc n) +ℤ o)) (greatest_plus o (suc n) (omega arith)) ∙ greater_plus (f (suc n)) (greatest_to (suc n) f) o

  pub least_neg : (n : ℕ) → 1 ≤ n → least_to n (λ i. neg_ℤ (f i)) ≡ neg_ℤ (greatest_to n f)
  unfolding least_to greatest_to
  least_neg zero h = absurd (omega arith)
  least_neg (suc zero) h = refl
  least_neg (suc (suc n)) h = ap (lesser (neg_ℤ (f (suc n)))) (least_neg (suc n) (omega arith)) ∙ lesser_neg (f (suc n)) (greatest_to (suc n) f)

  pub greatest_neg : (n : ℕ) → 1 ≤ n → greatest_to n (λ i. neg_ℤ (f i)) ≡ neg_ℤ (least_to n f)
  unfolding least_to greatest_to
  greatest_neg zero h = absurd (omega arith)
  greatest_neg (suc zero) h = refl
  greatest_neg (suc (suc n)) h = ap (greater (neg_ℤ (f (suc n)))) (greatest_neg (suc n) (omega arith)) ∙ greater_neg (f (suc n)) (least_to (suc n) f)

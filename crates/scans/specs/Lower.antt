-- Two things that hold floats, together: the lower of their numbers is the lowest refusal of both.
-- So a point, or any longer run of floats, is judged by one float after the other.
use Rattle.std.specs.Prelude.{ℕ, zero, suc, ◌≤◌, ◌<◌, min, ◌≡◌, refl, Bool, true, false, cond, ltb, ◌⊎◌, List, [], ◌∷◌, Float, Result, Ok, Err}
use Rattle.std.proofs.Common.{ap, ◌∙◌, sym, inl, inr, ⊎_elim, arith, eq-eqb, ne_eqb, ltb-true, ltb-false}
use Rattle.std.proofs.Math.Nat.{min-eq_left, min-eq_right}
use Rattle.limits.specs.Limits
use Rattle.limits.specs.Lowest.{Rule, Lowest, ◌when◌}
use Rattle.limits.specs.Refusals.{number_of, answer_number}
use Rattle.limits.specs.declared.Refusal.{Refusal}
use Rattle.limits.proofs.RefusalLaws.{number_some}
use Rattle.scans.specs.Floats.{NotFinite, NotWhole, Beyond, refusals}
use Rattle.scans.specs.Scanned.{lower_of, lower_refusal, both_of}

-- n is no refusal, or one that comes after k
abbrev pub After : ℕ → ℕ → Type 0
After k n = (n ≡ 0) ⊎ (k ≤ n)

module _ (k n : ℕ) (h : 0 < k) (a : After k n) where
  pub lower_left : lower_of k n ≡ k
  lower_left = ⊎_elim
      (λ (e : n ≡ 0). simp (ne_eqb k 0 (λ z. omega arith), eq-eqb n 0 e))
      (λ (l : k ≤ n). simp (ne_eqb k 0 (λ z. omega arith), ne_eqb n 0 (λ z. omega arith)) (min-eq_left l)) a

  pub lower_right : lower_of n k ≡ k
  lower_right = ⊎_elim
      (λ (e : n ≡ 0). simp (eq-eqb n 0 e))
      (λ (l : k ≤ n). simp (ne_eqb k 0 (λ z. omega arith), ne_eqb n 0 (λ z. omega arith)) (min-eq_right l)) a

-- the lower of two is none where both are none
pub lower_none : (m n : ℕ) → lower_of m n ≡ 0 → (m ≡ 0) × (n ≡ 0)
lower_none zero n e = (refl, e)
lower_none (suc m) zero e = absurd (let k : suc m ≡ 0 = simp (ne_eqb (suc m) 0 (λ z. omega arith)) at e in omega arith)
lower_none (suc m) (suc n) e = absurd
    (let k : min (suc m) (suc n) ≡ 0 = simp (ne_eqb (suc m) 0 (λ z. omega arith), ne_eqb (suc n) 0 (λ z. omega arith)) at e in omega arith)

-- ---- two answers together
lower_number : (r s : Refusal) → number_of (lower_refusal r s) ≡ min (number_of r) (number_of s)
lower_number r s = go (ltb (number_of s) (number_of r)) refl
  where
    go : (b : Bool) → ltb (number_of s) (number_of r) ≡ b → number_of (cond b s r) ≡ min (number_of r) (number_of s)
    go true e = sym (min-eq_right (omega (arith, ltb-true (number_of s) (number_of r) e)))
    go false e = sym (min-eq_left (ltb-false (number_of s) (number_of r) e))

-- the number of both is the lower of theirs
pub both_number : {A B : Type 0} (a : Result A Refusal) (b : Result B Refusal) → answer_number (both_of a b) ≡ lower_of (answer_number a) (answer_number b)
both_number (Ok x) (Ok y) = refl
both_number (Ok x) (Err s) = refl
both_number (Err r) (Ok y) = sym (lower_left (number_of r) 0 (number_some r) (inl refl))
both_number (Err r) (Err s) =
    simp (ne_eqb (number_of r) 0 (λ z. omega (arith, number_some r)), ne_eqb (number_of s) 0 (λ z. omega (arith, number_some s))) (lower_number r s)

abbrev value : {A : Type 0} → A → Result A Refusal → A
value x (Ok y) = y
value x (Err r) = x

-- both are given where neither is refused
pub both_given : {A B : Type 0} {a : Result A Refusal} {b : Result B Refusal} {x : A} {y : B} → both_of a b ≡ Ok (x, y) → (a ≡ Ok x) × (b ≡ Ok y)
both_given {A} {B} {a = Ok v} {b = Ok w} {x} {y} e = let p : (v, w) ≡ (x, y) = ap (value (v, w)) e in (ap (λ (q : A × B). Ok q.0) p, ap (λ (q : A × B). Ok q.1) p)
both_given {a = Ok x} {b = Err s} e = absurd (cc)
both_given {a = Err r} {b = Ok y} e = absurd (cc)
both_given {a = Err r} {b = Err s} e = absurd (cc)

-- a refusal of both, and when it applies to the one and to the other
record OfBoth : Type 1 where
  number : ℕ
  one : Type 0
  other : Type 0

abbrev sides : (OfBoth → Type 0) → List OfBoth → List Rule
sides when-so [] = []
sides when-so (r ∷ rest) = r.number when when-so r ∷ sides when-so rest

abbrev RisingFrom : ℕ → List OfBoth → Type 0
RisingFrom k [] = Unit {0}
RisingFrom k (r ∷ rest) = (k < r.number) × RisingFrom r.number rest

after : (when-so : OfBoth → Type 0) (k : ℕ) (l : List OfBoth) → RisingFrom k l → (n : ℕ) → Lowest (sides when-so l) n → After k n
after s k [] h n e = inl e
after s k (r ∷ rest) h n (inl p) = inr (omega (arith, h.0, p.1))
after s k (r ∷ rest) h n (inr p) = ⊎_elim (λ e. inl e) (λ l. inr (omega (arith, h.0))) (after s r.number rest h.1 n p.1)

joined : (k : ℕ) (l : List OfBoth) → RisingFrom k l → (m n : ℕ) → Lowest (sides (λ r. r.one) l) m → Lowest (sides (λ r. r.other) l) n
    → Lowest (sides (λ r. r.one ⊎ r.other) l) (lower_of m n)
joined k [] h m n p q = ap (λ x. lower_of x n) p ∙ q
joined k (r ∷ rest) h m n (inl p) (inl q) = inl (inl p.0, ap (λ x. lower_of x n) p.1 ∙ lower_left r.number n (omega (arith, h.0)) (inr (omega (arith, q.1))))
joined k (r ∷ rest) h m n (inl p) (inr q) =
    inl (inl p.0, ap (λ x. lower_of x n) p.1 ∙ lower_left r.number n (omega (arith, h.0)) (after (λ r. r.other) r.number rest h.1 n q.1))
joined k (r ∷ rest) h m n (inr p) (inl q) =
    inl (inr q.0, ap (λ x. lower_of m x) q.1 ∙ lower_right r.number m (omega (arith, h.0)) (after (λ r. r.one) r.number rest h.1 m p.1))
joined k (r ∷ rest) h m n (inr p) (inr q) = inr (⊎_elim p.0 q.0, joined r.number rest h.1 m n p.1 q.1)

-- `of C` and `on C` say that C is so of a float of the one thing, and of the other
pub together : (of on : (Float → Type 0) → Type 0) (m n : ℕ) → Lowest (refusals of) m → Lowest (refusals on) n → Lowest (refusals (λ C. of C ⊎ on C)) (lower_of m n)
together of on = joined 0 (at Limits.not_finite NotFinite ∷ at Limits.not_whole NotWhole ∷ at Limits.float_range Beyond ∷ []) (omega arith, (omega arith, (omega arith, tt)))
  where
    at : ℕ → (Float → Type 0) → OfBoth
    at n C = record { number = n; one = of C; other = on C }

-- where the same floats are spoken of, the same refusal is the lowest
pub same_floats : (of on : (Float → Type 0) → Type 0) → ((C : Float → Type 0) → of C → on C) → ((C : Float → Type 0) → on C → of C) → {n : ℕ} → Lowest (refusals of) n → Lowest (refusals on) n
same_floats of on f g (inl p) = inl (f NotFinite p.0, p.1)
same_floats of on f g (inr (a, inl p)) = inr ((λ u. a (g NotFinite u)), inl (f NotWhole p.0, p.1))
same_floats of on f g (inr (a, inr (b, inl p))) = inr ((λ u. a (g NotFinite u)), inr ((λ u. b (g NotWhole u)), inl (f Beyond p.0, p.1)))
same_floats of on f g (inr (a, inr (b, inr p))) = inr ((λ u. a (g NotFinite u)), inr ((λ u. b (g NotWhole u)), inr ((λ u. p.0 (g Beyond u)), p.1)))

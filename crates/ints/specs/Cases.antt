-- Two natural numbers are equal or not, and one is below the other or not: the cases as eliminators.
-- As sums they stand in Order.
use Rattle.std.specs.Prelude.{◌≡◌, ℕ, ◌≤◌, ◌<◌}
use Rattle.std.proofs.Math.Decide.{ℕ_discrete, dec_lt}
use Rattle.std.proofs.Common.{arith}

-- two numbers are equal or not
pub by-same {ℓ} : {C : Type ℓ} (a b : ℕ) → (a ≡ b → C) → ((a ≡ b → ⊥) → C) → C
unfolding ℕ_discrete
by-same a b f g = elim (ℕ_discrete a b) [ yes e ↦ f e | no n ↦ g n ]

-- one number is below another or not
pub by_less {ℓ} : {C : Type ℓ} (a b : ℕ) → (a < b → C) → (b ≤ a → C) → C
unfolding dec_lt
by_less a b f g = elim (dec_lt a b) [ yes h ↦ f h | no n ↦ g (not-below a b n) ]
  where
    not-below : (a b : ℕ) → (a < b → ⊥) → b ≤ a
    not-below a b n = omega arith

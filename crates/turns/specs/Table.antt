-- A rule of a table, proved at all of its entries by one test that is computed; and a test at each number below a bound.
-- Nothing here speaks of turns.
use Rattle.std.proofs.Common.{◌∙◌, subst, sym, add-zero, zero-add, add-suc, suc-add, le_of_suc-le-suc, not-suc-le-zero}
use Rattle.std.specs.Prelude.{Bool, true, false, ◌&&◌, List, [], ◌∷◌, ℕ, zero, suc, ◌+◌, ◌<◌, T, length, get_or}

pub and_left : (a b : Bool) → T (a && b) → T a
and_left true b t = tt
and_left false b t = t

pub and_right : (a b : Bool) → T (a && b) → T b
and_right true b t = t
and_right false b t = absurd t

-- the test f passes at each entry of the list and its place, counted from i
abbrev pub every : {A : Type 0} → (ℕ → A → Bool) → ℕ → List A → Bool
every f i [] = true
every f i (x ∷ xs) = f i x && every f (suc i) xs

from : {A : Type 0} (f : ℕ → A → Bool) (d : A) (xs : List A) (i : ℕ) → T (every f i xs) → (k : ℕ) → k < length xs → T (f (i + k) (get_or xs k d))
from f d [] i t k h = absurd (not-suc-le-zero h)
from f d (x ∷ xs) i t zero h = subst (λ (m : ℕ). T (f m x)) (sym (add-zero i)) (and_left (f i x) (every f (suc i) xs) t)
from f d (x ∷ xs) i t (suc k) h =
    subst (λ (m : ℕ). T (f m (get_or xs k d))) (suc-add i k ∙ sym (add-suc i k))
    (from f d xs (suc i) (and_right (f i x) (every f (suc i) xs) t) k (le_of_suc-le-suc h))

pub entry : {A : Type 0} (f : ℕ → A → Bool) (d : A) (xs : List A) → T (every f 0 xs) → (k : ℕ) → k < length xs → T (f k (get_or xs k d))
entry f d xs t k h = subst (λ (m : ℕ). T (f m (get_or xs k d))) (zero-add k) (from f d xs 0 t k h)

-- the test passes at each of n numbers
abbrev pub below : (ℕ → Bool) → ℕ → Bool
below f zero = true
below f (suc n) = f zero && below (λ k. f (suc k)) n

pub number : (f : ℕ → Bool) (n : ℕ) → T (below f n) → (k : ℕ) → k < n → T (f k)
number f zero t k h = absurd (not-suc-le-zero h)
number f (suc n) t zero h = and_left (f zero) (below (λ k. f (suc k)) n) t
number f (suc n) t (suc k) h = number (λ k. f (suc k)) n (and_right (f zero) (below (λ k. f (suc k)) n) t) k (le_of_suc-le-suc h)

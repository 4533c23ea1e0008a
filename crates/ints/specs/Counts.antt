-- How often a number stands in a list, and sums over the numbers below a bound.
-- Marks, their changed order and the rows of a desk are counted by these.
use Rattle.std.specs.Prelude.{◌≡◌, refl, ◌⊎◌, List, [], ◌∷◌, ◌++◌, Bool, true, false, ◌&&◌, ℕ, zero, suc, ◌+◌, ◌*◌, ◌≤◌, ◌<◌, eqb, length, get_or, replicate}
use Rattle.std.proofs.Common.{ap, sym, ◌∙◌, inl, inr, arith, add-one, eq-eqb, ne_eqb}
use Rattle.std.proofs.lemmas.Bool.{false≢true}
use Rattle.std.proofs.Math.Decide.{ℕ_discrete}
use Rattle.ints.specs.Order.{lt-or-ge}

-- 1 where the test holds, else 0; the sum over the numbers below n
abbrev pub one_if : Bool → ℕ
one_if true = 1
one_if false = 0

unfoldable pub sum_to : ℕ → (ℕ → ℕ) → ℕ
sum_to zero f = 0
sum_to (suc n) f = f n + sum_to n f

-- how often v stands in the list
unfoldable pub count_of : ℕ → List ℕ → ℕ
count_of v [] = 0
count_of v (x ∷ xs) = one_if (eqb x v) + count_of v xs

pub hit : (x v : ℕ) → ((x ≡ v) × (one_if (eqb x v) ≡ 1)) ⊎ ((x ≡ v → ⊥) × (one_if (eqb x v) ≡ 0))
unfolding ℕ_discrete
hit x v = elim (ℕ_discrete x v) [ yes h ↦ inl (h, ap one_if (eq-eqb x v h)) | no n ↦ inr (n, ap one_if (ne_eqb x v n)) ]

pub hit_self : (x : ℕ) → one_if (eqb x x) ≡ 1
hit_self x = ap one_if (eq-eqb x x refl)

pub and-true : (a b : Bool) → (a && b) ≡ true → (a ≡ true) × (b ≡ true)
and-true true b h = (refl, h)
and-true false b h = absurd (false≢true h)

pub and-false : (b : Bool) → (b && false) ≡ false
and-false true = refl
and-false false = refl

pub one_if≤ : (b : Bool) → one_if b ≤ 1
one_if≤ true = omega arith
one_if≤ false = omega arith

pub one_if_true : (b : Bool) → 1 ≤ one_if b → b ≡ true
one_if_true true h = refl
one_if_true false h = absurd (omega arith)

pub count-append : (v : ℕ) (xs ys : List ℕ) → count_of v (xs ++ ys) ≡ count_of v xs + count_of v ys
unfolding count_of
count-append v [] ys = omega arith
count-append v (x ∷ xs) ys = omega (arith, count-append v xs ys)

pub count_fill : (v w n : ℕ) → (v ≡ w → ⊥) → count_of v (replicate n w) ≡ 0
unfolding count_of
count_fill v w zero h = refl
count_fill v w (suc n) h = omega (arith, count_fill v w n h, ap one_if (ne_eqb w v (λ p. h (sym p))))

-- what stands in the list is counted at least once, and what is counted stands there
pub count-pos : (l : List ℕ) (i : ℕ) → i < length l → 1 ≤ count_of (get_or l i 0) l
unfolding count_of
count-pos [] i h = omega arith
count-pos (x ∷ xs) zero h = omega (arith, hit_self x)
count-pos (x ∷ xs) (suc i) h = omega (arith, count-pos xs i (omega arith))

pub find : (v : ℕ) (xs : List ℕ) → 1 ≤ count_of v xs → (i : ℕ) × (i < length xs) × (get_or xs i 0 ≡ v)
unfolding count_of
find v [] h = absurd (omega arith)
find v (x ∷ xs) h =
    elim (hit x v) [
      | inl y ↦ (zero, omega arith, y.0)
      | inr n ↦ let r = find v xs (omega arith) in (suc r.0, omega (arith, r.1), r.2)
    ]

-- two cells with one number count twice, and what counts twice has two cells
pub twice : (xs : List ℕ) (i j : ℕ) → i < j → j < length xs → get_or xs i 0 ≡ get_or xs j 0 → 2 ≤ count_of (get_or xs j 0) xs
unfolding count_of
twice [] i j l m e = absurd (omega arith)
twice (x ∷ xs) zero zero l m e = absurd (omega arith)
twice (x ∷ xs) zero (suc j) l m e = omega (arith, count-pos xs j (omega arith), ap one_if (eq-eqb x (get_or xs j 0) e))
twice (x ∷ xs) (suc i) zero l m e = absurd (omega arith)
twice (x ∷ xs) (suc i) (suc j) l m e = omega (arith, twice xs i j (omega arith) (omega arith) e)

pub find_two : (v : ℕ) (xs : List ℕ) → 2 ≤ count_of v xs → (i : ℕ) × (j : ℕ) × (i < j) × (j < length xs) × (get_or xs i 0 ≡ v) × (get_or xs j 0 ≡ v)
unfolding count_of
find_two v [] h = absurd (omega arith)
find_two v (x ∷ xs) h =
    elim (hit x v) [
      | inl y ↦ let r = find v xs (omega arith) in (zero, suc r.0, omega arith, omega (arith, r.1), y.0, r.2)
      | inr n ↦ let r = find_two v xs (omega arith) in (suc r.0, suc r.1, omega (arith, r.2), omega (arith, r.3), r.4, r.5)
    ]

-- sums over the numbers below n
pub sum_none : (f : ℕ → ℕ) → sum_to 0 f ≡ 0
unfolding sum_to
sum_none f = refl

pub sum_more : (n : ℕ) (f : ℕ → ℕ) → sum_to (n + 1) f ≡ f n + sum_to n f
unfolding sum_to
sum_more n f = rw (add-one n)

pub sum-add : (n : ℕ) (f g : ℕ → ℕ) → sum_to n (λ q. f q + g q) ≡ sum_to n f + sum_to n g
unfolding sum_to
sum-add zero f g = omega arith
sum-add (suc n) f g = omega (arith, sum-add n f g)

pub sum_same : (n : ℕ) (f g : ℕ → ℕ) → ((q : ℕ) → q < n → f q ≡ g q) → sum_to n f ≡ sum_to n g
unfolding sum_to
sum_same zero f g h = refl
sum_same (suc n) f g h = omega (arith, sum_same n f g (λ q l. h q (omega arith)), h n (omega arith))

pub sum-le : (n : ℕ) (f g : ℕ → ℕ) → ((q : ℕ) → q < n → f q ≤ g q) → sum_to n f ≤ sum_to n g
unfolding sum_to
sum-le zero f g h = omega arith
sum-le (suc n) f g h = omega (arith, sum-le n f g (λ q l. h q (omega arith)), h n (omega arith))

under : (q n : ℕ) → q < suc n → (q ≡ n → ⊥) → q < n
under q n l m = omega arith

-- no summand is larger and the sums are equal: so is each summand
pub sum_squeeze : (n : ℕ) (f g : ℕ → ℕ) → ((q : ℕ) → q < n → f q ≤ g q) → sum_to n f ≡ sum_to n g → (q : ℕ) → q < n → f q ≡ g q
unfolding sum_to
sum_squeeze zero f g h e q l = absurd (omega arith)
sum_squeeze (suc n) f g h e q l =
    let below : sum_to n f ≤ sum_to n g = sum-le n f g (λ q l. h q (omega arith)) in
    let here : f n ≤ g n = h n (omega arith) in
    elim (hit q n) [
      | inl y ↦ let k : f n ≡ g n = omega arith in ap f y.0 ∙ k ∙ sym (ap g y.0)
      | inr m ↦ sum_squeeze n f g (λ q l. h q (omega arith)) (omega arith) q (under q n l m.0)
    ]

pub sum_one : (n : ℕ) (f : ℕ → ℕ) → ((q : ℕ) → q < n → f q ≤ 1) → sum_to n f ≤ n
unfolding sum_to
sum_one zero f h = omega arith
sum_one (suc n) f h = omega (arith, sum_one n f (λ q l. h q (omega arith)), h n (omega arith))

pub sum_twice : (n : ℕ) (f : ℕ → ℕ) → ((q : ℕ) → q < n → f q ≤ 2) → sum_to n f ≤ 2 * n
unfolding sum_to
sum_twice zero f h = omega arith
sum_twice (suc n) f h = omega (arith, sum_twice n f (λ q l. h q (omega arith)), h n (omega arith))

sum_out : (n x : ℕ) → n ≤ x → sum_to n (λ q. one_if (eqb x q)) ≡ 0
unfolding sum_to
sum_out zero x h = refl
sum_out (suc n) x h = omega (arith, sum_out n x (omega arith), ap one_if (ne_eqb x n (λ p. omega arith)))

sum_hit : (n x : ℕ) → x < n → sum_to n (λ q. one_if (eqb x q)) ≡ 1
unfolding sum_to
sum_hit zero x h = absurd (omega arith)
sum_hit (suc n) x h =
    elim (hit x n) [ inl y ↦ omega (arith, sum_out n x (omega arith)) | inr m ↦ omega (arith, sum_hit n x (under x n h m.0)) ]

sum_nil : (n : ℕ) → sum_to n (λ q. count_of q []) ≡ 0
unfolding sum_to count_of
sum_nil zero = refl
sum_nil (suc n) = omega (arith, sum_nil n)

-- a list of numbers below n and of w: each is counted once
pub sum_count : (n w : ℕ) (xs : List ℕ) → n ≤ w → ((q : ℕ) → n ≤ q → (q ≡ w → ⊥) → count_of q xs ≡ 0) → length xs ≡ count_of w xs + sum_to n (λ q. count_of q xs)
unfolding count_of
sum_count n w [] l h = omega (arith, sum_nil n)
sum_count n w (x ∷ xs) l h =
    let t : length xs ≡ count_of w xs + sum_to n (λ q. count_of q xs) = sum_count n w xs l (λ q a b. omega (arith, h q a b)) in
    let s : sum_to n (λ q. one_if (eqb x q) + count_of q xs) ≡ sum_to n (λ q. one_if (eqb x q)) + sum_to n (λ q. count_of q xs) = sum-add n (λ q. one_if (eqb x q)) (λ q. count_of q xs) in
    elim (hit x w) [
      | inl y ↦ omega (arith, sum_out n x (omega arith))
      | inr m ↦
          elim (lt-or-ge x n) [
            | inl b ↦ omega (arith, sum_hit n x b)
            | inr b ↦ absurd (omega (arith, h x b m.0, hit_self x))
          ]
    ]

-- at most one of each below n, and none of a: one lt-or-ge
pub sum_miss : (n a : ℕ) (f : ℕ → ℕ) → a < n → f a ≡ 0 → ((q : ℕ) → q < n → f q ≤ 1) → sum_to n f + 1 ≤ n
sum_miss n a f la fa h =
    omega (arith, sum_one n (λ q. one_if (eqb a q) + f q) each, sum-add n (λ q. one_if (eqb a q)) f, sum_hit n a la)
  where
    each : (q : ℕ) → q < n → one_if (eqb a q) + f q ≤ 1
    each q l = elim (hit a q) [ inl y ↦ omega (arith, ap f y.0) | inr y ↦ omega (arith, h q l) ]

-- at most two of each below n, and none of a nor of b: four lt-or-ge
pub sum_four : (n a b : ℕ) (f : ℕ → ℕ) → a < n → b < n → (a ≡ b → ⊥) → f a ≡ 0 → f b ≡ 0 → ((q : ℕ) → q < n → f q ≤ 2) → sum_to n f + 4 ≤ 2 * n
sum_four n a b f la lb ne fa fb h =
    let s = sum_twice n (λ q. (one_if (eqb a q) + one_if (eqb b q)) + ((one_if (eqb a q) + one_if (eqb b q)) + f q)) each in
    let u = sum-add n (λ q. one_if (eqb a q)) (λ q. one_if (eqb b q)) in
    omega (
      arith,
      s,
      u,
      sum-add n (λ q. one_if (eqb a q) + one_if (eqb b q)) (λ q. (one_if (eqb a q) + one_if (eqb b q)) + f q),
      sum-add n
          (λ q. one_if (eqb a q) + one_if (eqb b q)) f,
      sum_hit n a la,
      sum_hit n b lb,
    )
  where
    each : (q : ℕ) → q < n → (one_if (eqb a q) + one_if (eqb b q)) + ((one_if (eqb a q) + one_if (eqb b q)) + f q) ≤ 2
    each q l =
        elim (hit a q) [
          | inl y ↦
              elim (hit b q) [
                | inl z ↦ absurd (ne (y.0 ∙ sym z.0))
                | inr z ↦ omega (arith, ap f y.0)
              ]
          | inr y ↦
              elim (hit b q) [
                | inl z ↦ omega (arith, ap f z.0)
                | inr z ↦ omega (arith, h q l)
              ]
        ]

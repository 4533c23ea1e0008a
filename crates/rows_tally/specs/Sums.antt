-- "Four tallies count the verdicts; with n places taken they add up to n(n−1)/2." (document 01, "Rows"): so they do where rows and book are in order.
-- The rows are summed line by line: the line of a taken place has a verdict for each taken place above it.
use Rattle.std.specs.Prelude.{ℕ, zero, suc, ◌+◌, ◌-◌, ◌*◌, ◌≤◌, ◌<◌, ◌≡◌, refl, List, Bool, true, false, ◌⊎◌, eqb, ltb, ℤ, nat_abs, length, get_or, take}
use Rattle.std.proofs.Common.{sym, ap, ap₂, ◌∙◌, inl, inr, mul-add, add-mul, mul-suc, suc-mul, zero-mul, mul-zero, arith, take_all, eq-eqb, ne_eqb, lt-ltb, le-ltb}
use Rattle.limits.specs.Limits
use Rattle.pieces.specs.Pieces.{held_in, Taken, taken_in}
use Rattle.pieces.specs.Taking.{by_taken}
use Rattle.rows.specs.Rows.{PairOf, cell, row_at, RowsInOrder}
use Rattle.ints.specs.Counts.{one_if, sum_to, count_of, sum-add, sum_same}
use Rattle.rows_tally.specs.Tallies.{BookInOrder, one_if_taken, taken_places, pairs_of}
use Rattle.rows.specs.Cells.{get_d_within}
use Rattle.ints.specs.Cases.{by-same, by_less}
use Rattle.rows_tally.specs.Counting.{count_more}

-- ---- sums
sum_times : (a : ℕ) (f : ℕ → ℕ) (n : ℕ) → sum_to n (λ k. a * f k) ≡ a * sum_to n f
unfolding sum_to
sum_times a f zero = sym (mul-zero a)
sum_times a f (suc n) = ap (λ (s : ℕ). a * f n + s) (sum_times a f n) ∙ sym (mul-add a (f n) (sum_to n f))

-- the first m terms, and the next, are a part of the sum of n
pub sum_part : (n : ℕ) (f : ℕ → ℕ) (m : ℕ) → m < n → f m + sum_to m f ≤ sum_to n f
unfolding sum_to
sum_part zero f m h = absurd (omega arith)
sum_part (suc n) f m h = by_less m n (λ l. omega (arith, sum_part n f m l)) (λ l. let e : m ≡ n = omega arith in rw e (omega arith))

sum_split : (f : ℕ → ℕ) (a b : ℕ) → sum_to (a + b) f ≡ sum_to a f + sum_to b (λ j. f (a + j))
unfolding sum_to
sum_split f a zero =
    let e : a + 0 ≡ a = omega arith in
    rw e (omega arith)
sum_split f a (suc b) =
    let e : a + suc b ≡ suc (a + b) = omega arith in
    rw e (omega (arith, sum_split f a b))

-- a table summed line by line
sum_lines : (f : ℕ → ℕ) (m w : ℕ) → sum_to (m * w) f ≡ sum_to m (λ i. sum_to w (λ j. f (i * w + j)))
unfolding sum_to
sum_lines f zero w = ap (λ (k : ℕ). sum_to k f) (zero-mul w)
sum_lines f (suc m) w = ap (λ (k : ℕ). sum_to k f) (suc-mul m w) ∙ omega (arith, sum_split f (m * w) w, sum_lines f m w)

-- ---- the tallies together count the cells that hold a verdict
hit_once : (x n : ℕ) → one_if (ltb x (suc n)) ≡ one_if (ltb x n) + one_if (eqb x n)
hit_once x n =
    by-same x n
    (λ e. rw (lt-ltb x (suc n) (omega arith), le-ltb x n (omega arith), eq-eqb x n e))
    (λ ne.
    by_less x n
    (λ h. rw (lt-ltb x (suc n) (omega arith), lt-ltb x n h, ne_eqb x n ne))
    (λ h. rw (le-ltb x (suc n) (omega arith), le-ltb x n h, ne_eqb x n ne)))

hits : (x n : ℕ) → sum_to n (λ v. one_if (eqb x v)) ≡ one_if (ltb x n)
unfolding sum_to
hits x zero = rw (le-ltb x 0 (omega arith))
hits x (suc n) = omega (arith, hits x n, hit_once x n)

counts_below : (rows : List ℕ) (n i : ℕ) → i ≤ length rows → sum_to n (λ v. count_of v (take i rows)) ≡ sum_to i (λ k. one_if (ltb (get_or rows k 0) n))
unfolding sum_to count_of
counts_below rows n zero h = none n
  where
    none : (n : ℕ) → sum_to n (λ v. 0) ≡ 0
    none zero = refl
    none (suc n) = omega (arith, none n)
counts_below rows n (suc i) h =
    let more = sum_same n (λ v. count_of v (take (suc i) rows)) (λ v. one_if (eqb (get_or rows i 0) v) + count_of v (take i rows)) (λ v _. omega (arith, count_more v rows i (omega arith))) in
    more
    ∙ sum-add n (λ v. one_if (eqb (get_or rows i 0) v)) (λ v. count_of v (take i rows))
    ∙ ap₂ ◌+◌ (hits (get_or rows i 0) n) (counts_below rows n i (omega arith))

-- ---- a place counts 1 where it is taken, else 0; the cell of two places holds a verdict where they are a pair
pub taken_one : {places : List ℤ} {p : ℕ} → Taken places p → one_if_taken places p ≡ 1
taken_one {places} {p} t = rw (ne_eqb (nat_abs (held_in places p)) 0 t.holds)

pub taken_none : (places : List ℤ) (p : ℕ) → p < Limits.places → (Taken places p → ⊥) → one_if_taken places p ≡ 0
taken_none places p h f =
    by-same (nat_abs (held_in places p)) 0
    (λ e. rw (eq-eqb (nat_abs (held_in places p)) 0 e))
    (λ ne. absurd (f (record { place = h; holds = ne })))

module _ (places : List ℤ) (rows : List ℕ) (o : RowsInOrder places rows) (i j : ℕ) (h : i < Limits.places) (k : j < Limits.places) where
  same_row : get_or rows (cell i j) 0 ≡ row_at rows i j
  same_row = let n = o.size in get_d_within rows (cell i j) 0 Limits.no_row (omega arith)

  row_one : PairOf places i j → one_if (ltb (get_or rows (cell i j) 0) Limits.tallies) ≡ 1
  row_one p = ap one_if (lt-ltb (get_or rows (cell i j) 0) Limits.tallies (omega (arith, same_row, o.pairs i j p)))

  row-none : (PairOf places i j → ⊥) → one_if (ltb (get_or rows (cell i j) 0) Limits.tallies) ≡ 0
  row-none p = ap one_if (le-ltb (get_or rows (cell i j) 0) Limits.tallies (omega (arith, same_row, o.others i j h k p)))

  product : {x y z : ℕ} → one_if_taken places i ≡ x → one_if (ltb i j) ≡ y → one_if_taken places j ≡ z → one_if_taken places i * (one_if (ltb i j) * one_if_taken places j) ≡ x * (y * z)
  product a b c = ap₂ ◌*◌ a (ap₂ ◌*◌ b c)

  cell_worth : one_if (ltb (get_or rows (cell i j) 0) Limits.tallies) ≡ one_if_taken places i * (one_if (ltb i j) * one_if_taken places j)
  cell_worth =
      by_taken places i h
      (λ a.
      by_taken places j k
      (λ b.
      by_less i j
      (λ lt. row_one (record { rising = lt; first = a; second = b }) ∙ sym (product (taken_one a) (ap one_if (lt-ltb i j lt)) (taken_one b)))
      (λ le. row-none (λ p. let r = p.rising in omega arith) ∙ sym (product (taken_one a) (ap one_if (le-ltb i j le)) (taken_one b))))
      (λ b. row-none (λ p. b p.second) ∙ sym (product (taken_one a) refl (taken_none places j k b) ∙ ap (λ (x : ℕ). 1 * x) (mul-zero (one_if (ltb i j))))))
      (λ a. row-none (λ p. a p.first) ∙ sym (product (taken_none places i h a) refl refl ∙ zero-mul (one_if (ltb i j) * one_if_taken places j)))

-- ---- a line: what stands above i, of n places
abbrev above : (ℕ → ℕ) → ℕ → ℕ → ℕ
above f i n = sum_to n (λ j. one_if (ltb i j) * f j)

above_none : (f : ℕ → ℕ) (i n : ℕ) → n ≤ suc i → above f i n ≡ 0
unfolding sum_to
above_none f i zero h = refl
above_none f i (suc n) h = rw (le-ltb i n (omega arith)) (omega (arith, above_none f i n (omega arith)))

above_rest : (f : ℕ → ℕ) (i n : ℕ) → i < n → above f i n + sum_to (suc i) f ≡ sum_to n f
unfolding sum_to
above_rest f i zero h = absurd (omega arith)
above_rest f i (suc n) h =
    by-same i n
    (λ e. rw (above_none f i (suc n) (omega arith), e) (omega arith))
    (λ ne. rw (lt-ltb i n (omega arith)) (omega (arith, above_rest f i n (omega arith))))

-- ---- all lines
square : (S T N r : ℕ) → r + (T + 1) ≡ N → 2 * S + T * (T + 1) ≡ 2 * (N * T) → 2 * (S + r) + (T + 1) * (T + 1 + 1) ≡ 2 * (N * (T + 1))
square S T N r h e =
    let a : T * (T + 1) ≡ T * T + T = mul-add T T 1 ∙ omega arith in
    let b : (T + 1) * (T + 1 + 1) ≡ T * (T + 1 + 1) + 1 * (T + 1 + 1) = add-mul T 1 (T + 1 + 1) in
    let d : T * (T + 1 + 1) ≡ T * (T + 1) + T * 1 = mul-add T (T + 1) 1 in
    let g : N * (T + 1) ≡ N * T + N * 1 = mul-add N T 1 in
    omega arith

next_line : (S T N r b : ℕ) → (b ≡ 0) ⊎ (b ≡ 1) → r + (T + b) ≡ N → 2 * S + T * (T + 1) ≡ 2 * (N * T) → 2 * (S + b * r) + (T + b) * (T + b + 1) ≡ 2 * (N * (T + b))
next_line S T N r b (inl z) h e =
    let s : S + b * r ≡ S = ap (λ (x : ℕ). S + x * r) z ∙ omega arith in
    let t : T + b ≡ T = omega arith in
    rw (s, t) e
next_line S T N r b (inr z) h e =
    let s : S + b * r ≡ S + r = ap (λ (x : ℕ). S + x * r) z ∙ omega arith in
    let t : T + b ≡ T + 1 = omega arith in
    rw (s, t) (square S T N r (omega arith) e)

lines : (f rest : ℕ → ℕ) (N n : ℕ) → ((k : ℕ) → k < n → (f k ≡ 0) ⊎ (f k ≡ 1)) → ((k : ℕ) → k < n → rest k + sum_to (suc k) f ≡ N)
    → 2 * sum_to n (λ k. f k * rest k) + sum_to n f * (sum_to n f + 1) ≡ 2 * (N * sum_to n f)
unfolding sum_to
lines f rest N zero bit left = sym (ap (λ (x : ℕ). 2 * x) (mul-zero N))
lines f rest N (suc n) bit left =
    let s : sum_to (suc n) (λ k. f k * rest k) ≡ sum_to n (λ k. f k * rest k) + f n * rest n = omega arith in
    let u : sum_to (suc n) f ≡ sum_to n f + f n = omega arith in
    rw (s, u)
    (next_line (sum_to n (λ k. f k * rest k)) (sum_to n f) N (rest n) (f n) (bit n (omega arith)) (omega (arith, left n (omega arith)))
    (lines f rest N n (λ k h. bit k (omega arith)) (λ k h. left k (omega arith))))

halved : (S n : ℕ) → 2 * S + n * (n + 1) ≡ 2 * (n * n) → 2 * S ≡ n * (n - 1)
halved S zero e = omega arith
halved S (suc k) e =
    let p : suc k - 1 ≡ k = omega arith in
    let a : suc k * (suc k + 1) ≡ suc k * suc k + suc k * 1 = mul-add (suc k) (suc k) 1 in
    let b : suc k * suc k ≡ k * suc k + suc k = suc-mul k (suc k) in
    let c : suc k * k ≡ k * k + k = suc-mul k k in
    let d : k * suc k ≡ k * k + k = mul-suc k k in
    rw p (omega arith)

bit_of_lem : (places : List ℤ) (p : ℕ) → (one_if_taken places p ≡ 0) ⊎ (one_if_taken places p ≡ 1)
bit_of_lem places p = go (taken_in places p)
  where
    go : (b : Bool) → (one_if b ≡ 0) ⊎ (one_if b ≡ 1)
    go true = inr refl
    go false = inl refl

-- the counts of the verdicts together are the number of cells that hold one, which is the number of pairs
module _ {places : List ℤ} {rows : List ℕ} (o : RowsInOrder places rows) where
  counted : sum_to Limits.tallies (λ v. count_of v rows) ≡ sum_to Limits.rows (λ k. one_if (ltb (get_or rows k 0) Limits.tallies))
  counted =
      ap (λ (r : List ℕ). sum_to Limits.tallies (λ v. count_of v r)) (sym (take_all (length rows) rows (omega arith)))
      ∙ counts_below rows Limits.tallies (length rows) (omega arith)
      ∙ ap (λ (n : ℕ). sum_to n (λ k. one_if (ltb (get_or rows k 0) Limits.tallies))) o.size

  by_lines : sum_to Limits.tallies (λ v. count_of v rows) ≡ sum_to Limits.places (λ i. one_if_taken places i * above (one_if_taken places) i Limits.places)
  by_lines =
      counted
      ∙ sum_lines (λ k. one_if (ltb (get_or rows k 0) Limits.tallies)) Limits.places Limits.places
      ∙ sum_same Limits.places (λ i. sum_to Limits.places (λ j. one_if (ltb (get_or rows (cell i j) 0) Limits.tallies))) (λ i. one_if_taken places i * above (one_if_taken places) i Limits.places)
      (λ i h.
      sum_same Limits.places (λ j. one_if (ltb (get_or rows (cell i j) 0) Limits.tallies)) (λ j. one_if_taken places i * (one_if (ltb i j) * one_if_taken places j)) (λ j k. cell_worth places rows o i j h k)
      ∙ sum_times (one_if_taken places i) (λ j. one_if (ltb i j) * one_if_taken places j) Limits.places)

  pub counts_add_up : sum_to Limits.tallies (λ v. count_of v rows) ≡ pairs_of places
  counts_add_up =
      let s = sum_to Limits.places (λ i. one_if_taken places i * above (one_if_taken places) i Limits.places) in
      let e : 2 * s ≡ taken_places places * (taken_places places - 1) =
      halved s (taken_places places)
      (lines (one_if_taken places) (λ i. above (one_if_taken places) i Limits.places) (taken_places places) Limits.places (λ k h. bit_of_lem places k)
      (λ k h. above_rest (one_if_taken places) k Limits.places h)) in
      by_lines ∙ omega arith

  -- so do the tallies
  pub tallies_add_up : {book : List ℕ} → BookInOrder rows book → sum_to Limits.tallies (λ v. get_or book v 0) ≡ pairs_of places
  tallies_add_up {book} b = sum_same Limits.tallies (λ v. get_or book v 0) (λ v. count_of v rows) (λ v h. b.counts v h) ∙ counts_add_up

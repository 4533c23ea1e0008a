-- Laws of the tallies: one row more and one line more, and the book that counts them.
-- Two books that are in order for the same rows and have one gap are equal, and a desk started afresh has its book in order.
use Rattle.std.specs.Prelude.{ℕ, zero, suc, ◌+◌, ◌≤◌, ◌<◌, ◌≡◌, List, [], ◌∷◌, eqb, length, get_or, set, take, replicate}
use Rattle.std.proofs.Common.{sym, ◌∙◌, arith, length-set, get_or-set_same, get_or-set_other, ext_get_or, below_more}
use Rattle.std.proofs.lemmas.List.{length-replicate, get_or-replicate}
use Rattle.std.proofs.Math.ListN.{get_or-eq_default}
use Rattle.limits.specs.Limits
use Rattle.rows.specs.Rows.{cell, Verdict}
use Rattle.ints.specs.Counts.{one_if, one_if≤, count_of, count_fill}
use Rattle.rows_tally.specs.Tallies.{BookInOrder, gap_in, gap_put}
use Rattle.ints.specs.Cases.{by_less, by-same}

-- one row more
pub count_more : (v : ℕ) (l : List ℕ) (i : ℕ) → i < length l → count_of v (take (suc i) l) ≡ count_of v (take i l) + one_if (eqb (get_or l i 0) v)
unfolding count_of
count_more v [] i h = absurd (omega arith)
count_more v (x ∷ xs) zero h = omega arith
count_more v (x ∷ xs) (suc i) h =
    let e : count_of v (take (suc i) xs) ≡ count_of v (take i xs) + one_if (eqb (get_or xs i 0) v) = count_more v xs i (omega arith) in
    omega arith

-- one row more in a line, where the rows so far hold v n times more than those before the line; and one line more
pub line_more : (v : ℕ) (rows : List ℕ) (low high b n : ℕ) → cell low high < length rows → count_of v (take (cell low high) rows) ≡ b + n
    → count_of v (take (cell low (high + 1)) rows) ≡ b + (n + one_if (eqb (get_or rows (cell low high) 0) v))
line_more v rows low high b n h e =
    let s : cell low (high + 1) ≡ suc (cell low high) = omega arith in
    rw s (omega (arith, count_more v rows (cell low high) h))

pub lines_more : (v : ℕ) (rows : List ℕ) (low : ℕ) → count_of v (take (cell low Limits.places) rows) ≡ count_of v (take (cell (low + 1) 0) rows)
lines_more v rows low = let e : cell low Limits.places ≡ cell (low + 1) 0 = omega arith in rw e

pub count_most : (v : ℕ) (l : List ℕ) → count_of v l ≤ length l
unfolding count_of
count_most v [] = omega arith
count_most v (x ∷ xs) = omega (arith, one_if≤ (eqb x v), count_most v xs)

-- of no rows the book is 0 throughout
pub filled_at : {A : Type 0} (v : A) (n k : ℕ) → get_or (replicate n v) k v ≡ v
filled_at {A} v n k = by_less k n (λ h. get_or-replicate n k v v h) (λ h. get_or-eq_default (replicate n v) v (rw (length-replicate {A = A} n v) h))

pub zero_at : (n k : ℕ) → get_or (replicate {A = ℕ} n 0) k 0 ≡ 0
zero_at = filled_at {A = ℕ} 0

-- a book of which the tallies below v are counted, and the rest is 0 still
pub record BookTo (v : ℕ) (rows book : List ℕ) : Type 0 where
  pub size : length book ≡ Limits.book
  pub counts : (w : ℕ) → w < v → get_or book w 0 ≡ count_of w rows
  pub rest : (k : ℕ) → v ≤ k → get_or book k 0 ≡ 0

pub book_none : (rows : List ℕ) → BookTo 0 rows (replicate Limits.book 0)
book_none rows = record { size = length-replicate {A = ℕ} Limits.book 0; counts = λ w h. absurd (omega arith); rest = λ k h. zero_at Limits.book k }

pub book_more : {v n : ℕ} {rows book : List ℕ} → Verdict v → n ≡ count_of v rows → BookTo v rows book → BookTo (v + 1) rows (set book v n)
book_more {v} {n} {rows} {book} h e b =
    let s = b.size in
    record {
      size = length-set book v n ∙ b.size;
      counts =
          below_more (λ w. get_or (set book v n) w 0 ≡ count_of w rows) v
          (λ w k. get_or-set_other book v w n 0 (λ q. omega arith) ∙ b.counts w k)
          (get_or-set_same book v n 0 (omega arith) ∙ e);
      rest = λ k g. get_or-set_other book v k n 0 (λ q. omega arith) ∙ b.rest k (omega arith);
    }

-- one book counts the rows and has this gap
pub book_once : {rows a b : List ℕ} → BookInOrder rows a → BookInOrder rows b → gap_in a ≡ gap_in b → a ≡ b
book_once {rows} {a} {b} p q g =
    ext_get_or 0 a b (p.size ∙ sym q.size)
    (λ k _.
    by_less k Limits.tallies
    (λ h. p.counts k h ∙ sym (q.counts k h))
    (λ h.
    by-same k Limits.gap_cell
    (λ e. rw e g)
    (λ f. p.rest k h f ∙ sym (q.rest k h f))))

-- ---- a book whose tallies are counted, and no gap in it yet; and one with a gap put into it
pub counted_order : {v : ℕ} {rows book : List ℕ} → v ≡ Limits.tallies → BookTo v rows book → BookInOrder rows book
counted_order e b = record {
  size = b.size;
  counts = λ w h. b.counts w (omega arith);
  gap = omega (arith, b.rest Limits.gap_cell (omega arith));
  rest = λ k h _. b.rest k (omega arith);
}

pub gap_is : {rows book : List ℕ} {gap : ℕ} → BookInOrder rows book → gap_in (gap_put book gap) ≡ gap
gap_is {rows} {book} {gap} b = get_or-set_same book Limits.gap_cell gap 0 (omega (arith, b.size))

pub gap_order : {rows book : List ℕ} {gap : ℕ} → gap ≤ Limits.gap_most → BookInOrder rows book → BookInOrder rows (gap_put book gap)
gap_order {rows} {book} {gap} h b = record {
  size = length-set book Limits.gap_cell gap ∙ b.size;
  counts = λ v l. get_or-set_other book Limits.gap_cell v gap 0 (λ e. omega arith) ∙ b.counts v l;
  gap = omega (arith, gap_is {gap = gap} b);
  rest = λ k l f. get_or-set_other book Limits.gap_cell k gap 0 f ∙ b.rest k l f;
}

-- ---- a desk started afresh
pub book_started : BookInOrder (replicate Limits.rows Limits.no_row) (replicate Limits.book 0)
book_started = record {
  size = length-replicate {A = ℕ} Limits.book 0;
  counts = λ v h. zero_at Limits.book v ∙ sym (count_fill v Limits.no_row Limits.rows (λ e. omega arith));
  gap = omega (arith, zero_at Limits.book Limits.gap_cell);
  rest = λ k h _. zero_at Limits.book k;
}

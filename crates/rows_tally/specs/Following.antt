-- Laws of tallies that follow the rows: a cell's old row is taken out of the book and its new one put in, and the book is in order again.
-- A tally that is to fall is at least 1, and one that is to rise is below the number of rows.
use Rattle.std.specs.Prelude.{ℕ, zero, suc, ◌+◌, ◌-◌, ◌≤◌, ◌<◌, ◌≡◌, refl, List, [], ◌∷◌, eqb, length, get_or, set}
use Rattle.std.proofs.Common.{ap, sym, ◌∙◌, arith, length-set, get_or-set_same, get_or-set_other, ne_eqb}
use Rattle.ints.specs.Cases.{by-same}
use Rattle.ints.specs.Counts.{one_if, count_of, hit_self, count-pos}
use Rattle.limits.specs.Limits
use Rattle.rows.specs.Rows.{Verdict}
use Rattle.rows_tally.specs.Counting.{count_most}
use Rattle.rows_tally.specs.Tallies.{BookInOrder, BookFollows, gap_in, Counted}

-- ---- a book with one row more or less
apart : {v w : ℕ} → (w ≡ v → ⊥) → one_if (eqb v w) ≡ 0
apart {v} {w} ne = ap one_if (ne_eqb v w (λ e. ne (sym e)))

-- two books that differ by one in a verdict's tally, and nowhere else
counted_by : {v : ℕ} {before after : List ℕ} → Verdict v → length after ≡ length before → get_or after v 0 ≡ get_or before v 0 + 1
    → ((w : ℕ) → (w ≡ v → ⊥) → get_or after w 0 ≡ get_or before w 0) → Counted v before after
counted_by {v} {before} {after} h s here other = record {
  size = s;
  counts = λ w k.
      by-same w v
      (λ e. rw e (omega (arith, here, hit_self v)))
      (λ ne. omega (arith, other w ne, apart ne));
  rest = λ k g. other k (λ e. omega arith);
}

pub counted_in : {v : ℕ} {book : List ℕ} → length book ≡ Limits.book → Verdict v → Counted v book (set book v (get_or book v 0 + 1))
counted_in {v} {book} s h =
    counted_by h (length-set book v _) (get_or-set_same book v _ 0 (omega arith)) (λ w ne. get_or-set_other book v w _ 0 ne)

pub counted_out : {v : ℕ} {book : List ℕ} → length book ≡ Limits.book → Verdict v → 0 < get_or book v 0 → Counted v (set book v (get_or book v 0 - 1)) book
counted_out {v} {book} s h some =
    counted_by h (sym (length-set book v _)) (omega (arith, get_or-set_same book v (get_or book v 0 - 1) 0 (omega arith))) (λ w ne. sym (get_or-set_other book v w _ 0 ne))

pub counted_none : {v : ℕ} {book : List ℕ} → Limits.tallies ≤ v → Counted v book book
counted_none {v} h = record { size = refl; counts = λ w k. omega (arith, apart {v = v} {w = w} (λ e. omega arith)); rest = λ k g. refl }

-- ---- a cell set
count_set : (w : ℕ) (rows : List ℕ) (k v : ℕ) → k < length rows → count_of w (set rows k v) + one_if (eqb (get_or rows k 0) w) ≡ count_of w rows + one_if (eqb v w)
unfolding count_of
count_set w [] k v h = absurd (omega arith)
count_set w (x ∷ xs) zero v h = omega arith
count_set w (x ∷ xs) (suc k) v h = omega (arith, count_set w xs k v (omega arith))

module _ {rows book : List ℕ} (k : ℕ) (h : k < length rows) (b : BookInOrder rows book) where
  -- the row that is taken out is counted
  pub tally_some : Verdict (get_or rows k 0) → 0 < get_or book (get_or rows k 0) 0
  tally_some v = omega (arith, b.counts (get_or rows k 0) v, count-pos rows k h)

  -- with it out, no tally counts all rows
  pub tally_room : {less : List ℕ} → Counted (get_or rows k 0) less book → (v : ℕ) → Verdict v → get_or less v 0 < length rows
  tally_room c v w =
      omega (arith, b.counts v w, c.counts v w, count_set v rows k v h, hit_self v, count_most v (set rows k v), length-set rows k v)

  pub book_follows : {less after : List ℕ} (v : ℕ) → Counted (get_or rows k 0) less book → Counted v less after → BookFollows (set rows k v) book after
  book_follows {less} {after} v c d =
      let same : gap_in after ≡ gap_in book = d.rest Limits.gap_cell (omega arith) ∙ sym (c.rest Limits.gap_cell (omega arith)) in
      record {
        order = record {
          size = d.size ∙ sym c.size ∙ b.size;
          counts = λ w l. omega (arith, b.counts w l, c.counts w l, d.counts w l, count_set w rows k v h);
          gap = omega (arith, same, b.gap);
          rest = λ i g f. d.rest i g ∙ sym (c.rest i g) ∙ b.rest i g f;
        };
        gap = same;
      }

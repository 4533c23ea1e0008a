-- The tallies of a desk, in the words of document 01, "Rows": how many rows hold each verdict, and how many places are taken; and W6's gap beside them.
-- The first four cells of the book are the tallies of the verdicts 0 to 3, and `Limits.gap_cell` has the gap.
use Rattle.std.specs.Prelude.{ℕ, ◌+◌, ◌-◌, ◌*◌, ◌/◌, ◌≤◌, ◌≡◌, List, eqb, ℤ, length, get_or, set}
use Rattle.limits.specs.Limits
use Rattle.ints.specs.Counts.{one_if, sum_to, count_of}
use Rattle.pieces.specs.Pieces.{taken_in}
use Rattle.rows.specs.Rows.{Verdict}

-- W6: the gap that a book holds
abbrev pub gap_in : List ℕ → ℕ
gap_in book = get_or book Limits.gap_cell 0

-- "Four tallies count the verdicts"; "the tallies count the rows". W6: "The order test asks that the gap is in range". The rest of the book is 0
pub record BookInOrder (rows book : List ℕ) : Type 0 where
  pub size : length book ≡ Limits.book
  pub counts : (v : ℕ) → Verdict v → get_or book v 0 ≡ count_of v rows
  pub gap : gap_in book ≤ Limits.gap_most
  pub rest : (k : ℕ) → Limits.tallies ≤ k → (k ≡ Limits.gap_cell → ⊥) → get_or book k 0 ≡ 0

-- a book that has followed the rows: its tallies count them as they are now. W6: "only another setting or a fresh start alters" the gap
pub record BookFollows (rows before after : List ℕ) : Type 0 where
  pub order : BookInOrder rows after
  pub gap : gap_in after ≡ gap_in before

-- "An accepted setting stores its gap and changes nothing else"
abbrev pub gap_put : List ℕ → ℕ → List ℕ
gap_put book gap = set book Limits.gap_cell gap

-- a book with one row more, which holds v: a verdict counts in its own tally, and anything else in none
pub record Counted (v : ℕ) (before after : List ℕ) : Type 0 where
  pub size : length after ≡ length before
  pub counts : (w : ℕ) → Verdict w → get_or after w 0 ≡ get_or before w 0 + one_if (eqb v w)
  pub rest : (k : ℕ) → Limits.tallies ≤ k → get_or after k 0 ≡ get_or before k 0

-- "with n places taken": how many are
abbrev pub one_if_taken : List ℤ → ℕ → ℕ
one_if_taken places p = one_if (taken_in places p)

abbrev pub taken_places : List ℤ → ℕ
taken_places places = sum_to Limits.places (one_if_taken places)

-- "n(n−1)/2"
abbrev pub pairs_of : List ℤ → ℕ
pairs_of places = taken_places places * (taken_places places - 1) / 2

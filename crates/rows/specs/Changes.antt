-- Laws of the changes: what a store does to the rows, pair by pair, and what is left when it is done for every other place.
-- Rows that agree pair by pair are equal, so a change has one outcome.
use Rattle.std.specs.Prelude.{ℕ, ◌+◌, ◌/◌, ◌%◌, ◌<◌, ◌≡◌, refl, List, ◌⊎◌, length, get_or, set}
use Rattle.std.proofs.Common.{sym, ◌∙◌, subst, inl, inr, arith, length-set, get_or-set_same, get_or-set_other, ext_get_or}
use Rattle.limits.specs.Limits
use Rattle.rows.specs.Rows.{cell, row_at, Cleared, RowPut}
use Rattle.rows.specs.Cells.{cell_once, cell_of_lem}
use Rattle.ints.specs.Cases.{by-same}

-- the row of the pair that is stored, and any other
pub row_same : (rows : List ℕ) (low high v : ℕ) → length rows ≡ Limits.rows → low < Limits.places → high < Limits.places
    → row_at (set rows (cell low high) v) low high ≡ v
row_same rows low high v n h k = get_or-set_same rows (cell low high) v Limits.no_row (omega arith)

pub row_other : (rows : List ℕ) (low high v a b : ℕ) → high < Limits.places → b < Limits.places → ((a ≡ low) × (b ≡ high) → ⊥)
    → row_at (set rows (cell low high) v) a b ≡ row_at rows a b
row_other rows low high v a b h k ne = get_or-set_other rows (cell low high) (cell a b) v Limits.no_row (λ e. ne (cell_once k h e))

-- a row that holds what is stored holds it still
row_still : (rows : List ℕ) (low high v a b : ℕ) → length rows ≡ Limits.rows → low < Limits.places → high < Limits.places
    → row_at rows a b ≡ v → row_at (set rows (cell low high) v) a b ≡ v
row_still rows low high v a b n h k e =
    by-same (cell a b) (cell low high)
    (λ s. rw s (row_same rows low high v n h k))
    (λ d. get_or-set_other rows (cell low high) (cell a b) v Limits.no_row d ∙ e)

pub put : (rows : List ℕ) (low high v : ℕ) → length rows ≡ Limits.rows → low < Limits.places → high < Limits.places
    → RowPut low high v rows (set rows (cell low high) v)
put rows low high v n h k = record {
  size = length-set rows (cell low high) v;
  here = row_same rows low high v n h k;
  kept = λ a b _ kb ne. row_other rows low high v a b k kb ne;
}

-- the rows of p with the places below n are gone, and those that do not name p are as they were
pub record ClearedTo (p n : ℕ) (before after : List ℕ) : Type 0 where
  pub size : length after ≡ length before
  pub gone : (low high : ℕ) → low < Limits.places → high < Limits.places → ((low ≡ p) × (high < n)) ⊎ ((high ≡ p) × (low < n)) → row_at after low high ≡ Limits.no_row
  pub kept : (low high : ℕ) → low < Limits.places → high < Limits.places → (low ≡ p → ⊥) → (high ≡ p → ⊥) → row_at after low high ≡ row_at before low high

pub cleared_none : (p : ℕ) (rows : List ℕ) → ClearedTo p 0 rows rows
cleared_none p rows = record {
  size = refl;
  gone = λ low high h k c. absurd (none low high c);
  kept = λ low high h k a b. refl;
}
  where
    none : (low high : ℕ) → ((low ≡ p) × (high < 0)) ⊎ ((high ≡ p) × (low < 0)) → ⊥
    none low high (inl c) = omega (arith, c.1)
    none low high (inr c) = omega (arith, c.1)

module _ {p n : ℕ} {before rows : List ℕ} (size : length rows ≡ Limits.rows) (hp : p < Limits.places) (hn : n < Limits.places) (c : ClearedTo p n before rows) where
  first_size : length (set rows (cell p n) Limits.no_row) ≡ Limits.rows
  first_size = length-set rows (cell p n) Limits.no_row ∙ size

  both : (low high : ℕ) → row_at rows low high ≡ Limits.no_row → row_at (set (set rows (cell p n) Limits.no_row) (cell n p) Limits.no_row) low high ≡ Limits.no_row
  both low high e = row_still (set rows (cell p n) Limits.no_row) n p Limits.no_row low high first_size hn hp (row_still rows p n Limits.no_row low high size hp hn e)

  gone_more : (low high : ℕ) → low < Limits.places → high < Limits.places → ((low ≡ p) × (high < n + 1)) ⊎ ((high ≡ p) × (low < n + 1))
      → row_at (set (set rows (cell p n) Limits.no_row) (cell n p) Limits.no_row) low high ≡ Limits.no_row
  gone_more low high h k (inl (e, lt)) =
      by-same high n
      (λ s. row_still (set rows (cell p n) Limits.no_row) n p Limits.no_row low high first_size hn hp (rw (e, s) (row_same rows p n Limits.no_row size hp hn)))
      (λ d. both low high (c.gone low high h k (inl (e, omega arith))))
  gone_more low high h k (inr (e, lt)) =
      by-same low n
      (λ s. rw (e, s) (row_same (set rows (cell p n) Limits.no_row) n p Limits.no_row first_size hn hp))
      (λ d. both low high (c.gone low high h k (inr (e, omega arith))))

  pub cleared_more : ClearedTo p (n + 1) before (set (set rows (cell p n) Limits.no_row) (cell n p) Limits.no_row)
  cleared_more = record {
    size = length-set (set rows (cell p n) Limits.no_row) (cell n p) Limits.no_row ∙ length-set rows (cell p n) Limits.no_row ∙ c.size;
    gone = gone_more;
    kept = λ low high h k a b.
        row_other (set rows (cell p n) Limits.no_row) n p Limits.no_row low high hp k (λ e. b e.1) ∙ row_other rows p n Limits.no_row low high hn k (λ e. a e.0) ∙ c.kept low high h k a b;
  }

pub cleared_all : {p : ℕ} {before after : List ℕ} → ClearedTo p Limits.places before after → Cleared p before after
cleared_all {p} {before} {after} c = record {
  size = c.size;
  gone = λ low high h k w. c.gone low high h k (named low high h k w);
  kept = c.kept;
}
  where
    named : (low high : ℕ) → low < Limits.places → high < Limits.places → (low ≡ p) ⊎ (high ≡ p) → ((low ≡ p) × (high < Limits.places)) ⊎ ((high ≡ p) × (low < Limits.places))
    named low high h k (inl e) = inl (e, k)
    named low high h k (inr e) = inr (e, h)

-- rows that agree pair by pair are equal
pub rows_once : {a b : List ℕ} → length a ≡ Limits.rows → length b ≡ Limits.rows
    → ((low high : ℕ) → low < Limits.places → high < Limits.places → row_at a low high ≡ row_at b low high) → a ≡ b
rows_once {a} {b} m n same =
    ext_get_or Limits.no_row a b (m ∙ sym n)
    (λ k h.
    let e = cell_of_lem k in
    subst (λ (i : ℕ). get_or a i Limits.no_row ≡ get_or b i Limits.no_row) e (same (k / Limits.places) (k % Limits.places) (omega arith) (omega arith)))

pub cleared_once : {p : ℕ} {before a b : List ℕ} → length before ≡ Limits.rows → Cleared p before a → Cleared p before b → a ≡ b
cleared_once {p} n c d =
    rows_once (c.size ∙ n) (d.size ∙ n)
    (λ low high h k.
    by-same low p
    (λ e. c.gone low high h k (inl e) ∙ sym (d.gone low high h k (inl e)))
    (λ ne.
    by-same high p
    (λ e. c.gone low high h k (inr e) ∙ sym (d.gone low high h k (inr e)))
    (λ nf. c.kept low high h k ne nf ∙ sym (d.kept low high h k ne nf))))

pub put_once : {low high v : ℕ} {before a b : List ℕ} → length before ≡ Limits.rows → RowPut low high v before a → RowPut low high v before b → a ≡ b
put_once {low} {high} n p q =
    rows_once (p.size ∙ n) (q.size ∙ n)
    (λ i j h k.
    by-same (cell i j) (cell low high)
    (λ e. rw e (p.here ∙ sym q.here))
    (λ ne. p.kept i j h k (λ s. ne (rw (s.0, s.1))) ∙ sym (q.kept i j h k (λ s. ne (rw (s.0, s.1))))))

-- Laws of the cells: a cell is the row of one pair of places only, and rows are in order cell by cell.
-- With them a test of all cells decides the order of the rows.
use Rattle.std.specs.Prelude.{ℕ, zero, suc, ◌+◌, ◌-◌, ◌/◌, ◌%◌, ◌<◌, ◌≡◌, refl, List, [], ◌∷◌, length, get_or, take, drop, ℤ}
use Rattle.std.proofs.Common.{sym, ◌∙◌, subst, get_or-take, get_or-drop, arith}
use Rattle.limits.specs.Limits
use Rattle.rows.specs.Rows.{PairOf, cell, row_at, Verdict, RowsInOrder}

-- within a list, what would stand behind its end does not matter
pub get_d_within : (l : List ℕ) (i d e : ℕ) → i < length l → get_or l i d ≡ get_or l i e
get_d_within [] i d e h = absurd (omega arith)
get_d_within (x ∷ xs) zero d e h = refl
get_d_within (x ∷ xs) (suc i) d e h = get_d_within xs i d e (omega arith)

-- a cell has one pair of places
pub cell_once : {low high a b : ℕ} → high < Limits.places → b < Limits.places → cell low high ≡ cell a b → (low ≡ a) × (high ≡ b)
cell_once h k e = (omega arith, omega arith)

pub cell_below : {low high : ℕ} → low < Limits.places → high < Limits.places → cell low high < Limits.rows
cell_below h k = omega arith

pub cell_of_lem : (k : ℕ) → cell (k / Limits.places) (k % Limits.places) ≡ k
cell_of_lem k = omega arith

pub low_of : (low high : ℕ) → high < Limits.places → cell low high / Limits.places ≡ low
low_of low high h = omega arith

pub high_of_lem : (low high : ℕ) → high < Limits.places → cell low high % Limits.places ≡ high
high_of_lem low high h = omega arith

-- a cell of a part of the rows, as code cuts it out from its start to its end
pub line_at : (rows : List ℕ) (s n k : ℕ) → k < n → get_or (take (s + n - s) (drop s rows)) k 0 ≡ get_or rows (s + k) 0
line_at rows s n k h = let e : s + n - s ≡ n = omega arith in rw (e, get_or-take, get_or-drop)

-- what one cell may hold
pub record CellInOrder (places : List ℤ) (low high v : ℕ) : Type 0 where
  pub pair : PairOf places low high → Verdict v
  pub other : (PairOf places low high → ⊥) → v ≡ Limits.no_row

-- what the line of one lower place may hold
abbrev pub LineInOrder : List ℤ → List ℕ → ℕ → Type 0
LineInOrder places rows low = (high : ℕ) → high < Limits.places → CellInOrder places low high (get_or rows (cell low high) 0)

-- rows are in order when each of their lines is, and then each is
pub every_line : {places : List ℤ} (rows : List ℕ) → length rows ≡ Limits.rows → ((low : ℕ) → low < Limits.places → LineInOrder places rows low) → RowsInOrder places rows
every_line {places} rows n all = record {
  size = n;
  pairs = λ low high p. (at low high p.first.place p.second.place).pair p;
  others = λ low high h k. (at low high h k).other;
}
  where
    at : (low high : ℕ) → low < Limits.places → high < Limits.places → CellInOrder places low high (row_at rows low high)
    at low high h k =
        let q = cell_below h k in
        let e : get_or rows (cell low high) 0 ≡ row_at rows low high = get_d_within rows (cell low high) 0 Limits.no_row (omega arith) in
        rw e at (all low h high k)

pub each_line : {places : List ℤ} {rows : List ℕ} → RowsInOrder places rows → (low : ℕ) → low < Limits.places → LineInOrder places rows low
each_line {places} {rows} o low h high k =
    let n = o.size in
    let q = cell_below h k in
    let e : row_at rows low high ≡ get_or rows (cell low high) 0 = get_d_within rows (cell low high) Limits.no_row 0 (omega arith) in
    record { pair = λ p. subst Verdict e (o.pairs low high p); other = λ p. sym e ∙ o.others low high h k p }

pub one_cell : {places : List ℤ} {rows : List ℕ} → RowsInOrder places rows → (k : ℕ) → k < Limits.rows
    → CellInOrder places (k / Limits.places) (k % Limits.places) (get_or rows k 0)
one_cell {places} {rows} o k h =
    subst (λ (i : ℕ). CellInOrder places (k / Limits.places) (k % Limits.places) (get_or rows i 0)) (cell_of_lem k)
    (each_line o (k / Limits.places) (omega arith) (k % Limits.places) (omega arith))

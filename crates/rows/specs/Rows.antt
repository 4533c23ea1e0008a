-- The rows of a desk and how a command changes them, in the words of document 01, "Rows" and "What the desk can be told".
-- The row of the places low < high stands at low × places + high.
use Rattle.std.specs.Prelude.{ℕ, ◌+◌, ◌*◌, ◌<◌, ◌≡◌, List, ◌⊎◌, length, get_or, ℤ}
use Rattle.limits.specs.Limits
use Rattle.pieces.specs.Pieces.{Taken}

-- "Each pair of taken places", the lower place first
pub record PairOf (places : List ℤ) (low high : ℕ) : Type 0 where
  pub rising : low < high
  pub first : Taken places low
  pub second : Taken places high

-- where the row of two places stands, and the row
abbrev pub cell : ℕ → ℕ → ℕ
cell low high = low * Limits.places + high

abbrev pub row_at : List ℕ → ℕ → ℕ → ℕ
row_at rows low high = get_or rows (cell low high) Limits.no_row

-- "a verdict: 0 apart by boxes, 1 separate, 2 touching, 3 penetrating"; there are as many tallies as verdicts
abbrev pub Verdict : ℕ → Type 0
Verdict v = v < Limits.tallies

-- "each pair of taken places has a verdict 0 to 3 and no other pair has one"
pub record RowsInOrder (places : List ℤ) (rows : List ℕ) : Type 0 where
  pub size : length rows ≡ Limits.rows
  pub pairs : (low high : ℕ) → PairOf places low high → Verdict (row_at rows low high)
  pub others : (low high : ℕ) → low < Limits.places → high < Limits.places → (PairOf places low high → ⊥) → row_at rows low high ≡ Limits.no_row

-- ---- changes

-- "a removal takes its rows away; every other row stays": no row names the place p any more, and the others are as they were
pub record Cleared (p : ℕ) (before after : List ℕ) : Type 0 where
  pub size : length after ≡ length before
  pub gone : (low high : ℕ) → low < Limits.places → high < Limits.places → (low ≡ p) ⊎ (high ≡ p) → row_at after low high ≡ Limits.no_row
  pub kept : (low high : ℕ) → low < Limits.places → high < Limits.places → (low ≡ p → ⊥) → (high ≡ p → ⊥) → row_at after low high ≡ row_at before low high

-- the row of the places low and high is v now, and "every other row stays"
pub record RowPut (low high v : ℕ) (before after : List ℕ) : Type 0 where
  pub size : length after ≡ length before
  pub here : row_at after low high ≡ v
  pub kept : (a b : ℕ) → a < Limits.places → b < Limits.places → ((a ≡ low) × (b ≡ high) → ⊥) → row_at after a b ≡ row_at before a b

-- the pair of p and n, whichever is the lower; and a pair of p and a place below n
abbrev pub Joins : ℕ → ℕ → ℕ → ℕ → Type 0
Joins p n low high = ((low ≡ p) × (high ≡ n)) ⊎ ((low ≡ n) × (high ≡ p))

abbrev pub Names : ℕ → ℕ → ℕ → ℕ → Type 0
Names p n low high = ((low ≡ p) × (high < n)) ⊎ ((high ≡ p) × (low < n))

-- "After an accepted place or move every row that names the handled piece is the right one [..]; every other row stays": so it is for the
-- piece at p and the taken places below n, and for all of them where n is all places. Which verdict is right is the caller's to say
pub record Handled (Right : ℕ → ℕ → ℕ → Type 0) (places : List ℤ) (p n : ℕ) (before after : List ℕ) : Type 0 where
  pub size : length after ≡ length before
  pub right : (low high : ℕ) → PairOf places low high → Names p n low high → Right low high (row_at after low high)
  pub kept : (low high : ℕ) → low < Limits.places → high < Limits.places → (PairOf places low high → Names p n low high → ⊥) → row_at after low high ≡ row_at before low high

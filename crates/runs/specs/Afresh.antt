-- THE ROWS WORKED OUT AFRESH from a plan: from its placed corners and its gap alone, by the words of document 01 with W6's gap, with no desk and no marks.
-- One list of rows at most is that of a plan: `afresh_once` in AfreshLaws.antt.
use Rattle.std.specs.Prelude.{◌≡◌, List, [], ◌∷◌, ◌⊎◌, ℕ, ◌+◌, ◌*◌, ◌/◌, ◌%◌, ◌<◌, T, length, get_or, ℤ, pos, nat_abs, ◌+ℤ◌, ◌<ℤ◌}
use Rattle.limits.specs.Limits
use Rattle.space.specs.Verdicts.{VerdictIs, corner_count}
use Rattle.turns.specs.Turns.{placed_at}
use Rattle.pieces.specs.declared.placement.Placement.{Placement}
use Rattle.pieces.specs.Pieces.{list_to, least_to, greatest_to}
use Rattle.rows.specs.Rows.{row_at}
use Rattle.runs.specs.Log.{Spot, free, held, is_held, Plan}

-- "A placed corner is the turned corner plus the offset": number k of them is coordinate k % 3 of corner k / 3
abbrev pub placed_number : List ℤ → Placement → ℕ → ℤ
placed_number numbers q k =
    placed_at (nat_abs q.turn) (k % 3)
    (get_or numbers (3 * (k / 3)) (pos 0))
    (get_or numbers (3 * (k / 3) + 1) (pos 0))
    (get_or numbers (3 * (k / 3) + 2) (pos 0))
    (get_or (q.x ∷ q.y ∷ q.z ∷ []) (k % 3) (pos 0))

abbrev pub placed_corners : List ℤ → Placement → List ℤ
placed_corners numbers q = list_to (length numbers) (placed_number numbers q)

-- the piece at a place of a plan
abbrev pub corners_in : Plan → Spot → List ℤ
corners_in plan free = []
corners_in plan (held q) = placed_corners (plan.shape (nat_abs q.shape)) q

abbrev pub piece_of : Plan → ℕ → List ℤ
piece_of plan p = corners_in plan (plan.place p)

-- "the least and greatest placed corner" on an axis
abbrev pub low_of : ℕ → List ℤ → ℤ
low_of axis A = least_to (corner_count A) (λ i. get_or A (3 * i + axis) (pos 0))

abbrev pub high_of : ℕ → List ℤ → ℤ
high_of axis A = greatest_to (corner_count A) (λ i. get_or A (3 * i + axis) (pos 0))

-- "on some axis one high mark's value is below the other's low"; W6: "on some axis a high plus g is below the other's low"
abbrev pub BoxesApart : ℕ → List ℤ → List ℤ → Type 0
BoxesApart g A B = (axis : ℕ) × (axis < 3) × (((high_of axis A +ℤ pos g) <ℤ low_of axis B) ⊎ ((high_of axis B +ℤ pos g) <ℤ low_of axis A))

-- "A desk row is 0 exactly when [they are apart]; otherwise the row is the verdict."
abbrev pub RowOf : ℕ → List ℤ → List ℤ → ℕ → Type 0
RowOf g A B v = ((v ≡ 0) × BoxesApart g A B) ⊎ ((BoxesApart g A B → ⊥) × VerdictIs g A B v)

-- "Each pair of taken places", the lower place first
pub record PairIn (plan : Plan) (low high : ℕ) : Type 0 where
  pub rising : low < high
  pub first : T (is_held (plan.place low))
  pub second : T (is_held (plan.place high))

-- each pair of the plan has its row, and "A pair with an empty place has none". W6: the "list worked out afresh takes the gap last set"
pub record Afresh (plan : Plan) (rows : List ℕ) : Type 0 where
  pub size : length rows ≡ Limits.rows
  pub pairs : (low high : ℕ) → PairIn plan low high → RowOf plan.gap (piece_of plan low) (piece_of plan high) (row_at rows low high)
  pub others : (low high : ℕ) → low < Limits.places → high < Limits.places → (PairIn plan low high → ⊥) → row_at rows low high ≡ Limits.no_row

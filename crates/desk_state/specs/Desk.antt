-- THE DESK of document 01: its state, when it is in order, and what a command stores.
-- The state is lent arrays; `Store` of pieces has the shapes and places, and rows, book and marks stand beside it.
use Rattle.std.specs.Prelude.{List, ℕ, ℤ}
use Rattle.ints.specs.Bounds.{Within}
use Rattle.limits.specs.Limits
use Rattle.rows.specs.Rows.{RowsInOrder}
use Rattle.rows_tally.specs.Tallies.{BookInOrder, gap_in, gap_put}
use Rattle.marks.specs.Marks.{InPlaceMarks}
use Rattle.pieces.specs.declared.placement.Placement.{Placement}
use Rattle.pieces.specs.Pieces.{Store, store_of, PiecesInOrder, axes_of, put_in, emptied_in, loaded_in}

pub record Desk : Type 0 where
  pub store : Store
  pub rows : List ℕ
  pub book : List ℕ
  pub marks : List ℕ

-- the five lent arrays as a desk
abbrev pub desk_of : List ℤ → List ℤ → List ℕ → List ℕ → List ℕ → Desk
desk_of shapes places rows book marks = record { store = store_of shapes places; rows = rows; book = book; marks = marks }

-- W6: "The desk and the pair question on lists take a gap g of 0 to 4,096 steps; the desk's serves places too": the desk's gap
abbrev pub gap_of : Desk → ℕ
gap_of d = gap_in d.book

-- "A desk is in order when loaded shapes and taken places keep the ranges above, every taken place names a loaded shape, the marks are exactly those of the
-- taken places in order with the right tail, each pair of taken places has a verdict 0 to 3 and no other pair has one, and the tallies count the rows."
-- W6: "The order test asks that the gap is in range". The gap stands in the book, beside the tallies
pub record InOrder (d : Desk) : Type 0 where
  pub pieces : PiecesInOrder d.store
  pub marks : InPlaceMarks (axes_of d.store) d.marks
  pub rows : RowsInOrder d.store.places d.rows
  pub book : BookInOrder d.rows d.book

-- ---- what a command stores
-- W6: "An accepted setting stores its gap and changes nothing else"
abbrev pub gap_at : Desk → ℕ → Desk
gap_at d gap = record { store = d.store; rows = d.rows; book = gap_put d.book gap; marks = d.marks }

-- "an offset of three numbers, each −65,536 to 65,536"
pub record OffsetFits (x y z : ℤ) : Type 0 where
  pub on_x_lem : Within Limits.shape_reach x
  pub on_y_lem : Within Limits.shape_reach y
  pub on_z_lem : Within Limits.shape_reach z

-- place p holds this placement; every other shape and place stays
abbrev pub put_at : Store → ℕ → Placement → Store
put_at d p q = store_of d.shapes (put_in d.places p q)

-- place p is empty
abbrev pub emptied_at : Store → ℕ → Store
emptied_at d p = store_of d.shapes (emptied_in d.places p)

-- shape s has these numbers, three a corner; every other shape, and every place, row, tally and mark, stays
abbrev pub loaded_at : Desk → ℕ → List ℤ → Desk
loaded_at d s numbers = record { store = store_of (loaded_in d.store.shapes s numbers) d.store.places; rows = d.rows; book = d.book; marks = d.marks }

-- What a command works out of a desk once and lends on: the boxes of its shapes, and the keys of its marks on each axis.
-- With the keys at hand, what is left of the order test is decided (`RestDecided`).
use Rattle.std.specs.Prelude.{◌≡◌, Bool, List, ℕ, ℤ, length}
use Rattle.limits.specs.Limits
use Rattle.limits.specs.Decides.{Decides}
use Rattle.rows.specs.Rows.{RowsInOrder}
use Rattle.rows_tally.specs.Tallies.{BookInOrder}
use Rattle.marks.specs.Marks.{Axes, InPlaceMarks}
use Rattle.marks.specs.Keys.{KeyedMarks}
use Rattle.pieces.specs.Pieces.{Store, axes_of}
use Rattle.pieces_box.specs.declared.boxes.ShapeBox.{ShapeBox}
use Rattle.pieces_box.specs.ShapeBox.{Boxed}

pub record Worked (d : Store) (boxes : List ShapeBox) (x y z : List ℕ) : Type 0 where
  pub boxed : Boxed d.shapes boxes
  pub keyed : KeyedMarks (axes_of d) x y z
  pub long_x : length x ≡ Limits.axis_marks
  pub long-y : length y ≡ Limits.axis_marks
  pub long_z : length z ≡ Limits.axis_marks

-- the order of a desk but for its shapes and places
pub record RestInOrder (a : Axes) (places : List ℤ) (r b m : List ℕ) : Type 0 where
  pub marks : InPlaceMarks a m
  pub rows : RowsInOrder places r
  pub book : BookInOrder r b

pub record RestDecided (places : List ℤ) (rows book marks x y z : List ℕ) (r : Bool) : Type 0 where
  pub decides : (a : Axes) → KeyedMarks a x y z → Decides r (RestInOrder a places rows book marks)

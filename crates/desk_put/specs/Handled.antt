-- What a handled place leaves: its marks renewed, its rows right or gone, and a desk in order.
-- These are the parts of which the commands' records are made; the laws by which the desk stays in order stand beside them.
use Rattle.std.specs.Prelude.{◌≡◌, List, ℕ, ◌<◌, ℤ, nat_abs}
use Rattle.limits.specs.Limits
use Rattle.limits.specs.Numbered.{Numbered}
use Rattle.rows.specs.Rows.{Handled, Cleared}
use Rattle.marks.specs.Marks.{low_mark, high_mark}
use Rattle.marks.specs.Promises.{ReorderedMarks}
use Rattle.marks.specs.declared.MarkKeys.{MarkKeys}
use Rattle.pieces_box.specs.declared.boxes.ShapeBox.{ShapeBox}
use Rattle.pieces_box.specs.ShapeBox.{key_in}
use Rattle.pieces.specs.declared.placement.Placement.{Placement}
use Rattle.pieces.specs.Pieces.{Taken, Loaded}
use Rattle.desk_state.specs.Desk.{Desk, gap_of, InOrder, OffsetFits, put_at, emptied_at}
use Rattle.rows_right.specs.Right.{RowRight}

-- the keys of a place's marks as the boxes and the placements give them
abbrev pub keys_for : List ShapeBox → List ℤ → ℕ → ℕ → MarkKeys
keys_for boxes places axis place = record { low = key_in boxes places axis (low_mark place); high = key_in boxes places axis (high_mark place) }

-- the keys of a place's marks are new on each axis, and its marks stand by them
abbrev pub RenewedIn : List ShapeBox → List ℤ → ℕ → List ℕ → List ℕ → List ℕ → List ℕ → List ℕ → List ℕ → List ℕ → List ℕ → Type 0
RenewedIn boxes places place x y z x' y' z' before after =
    ReorderedMarks place (keys_for boxes places 0 place) (keys_for boxes places 1 place) (keys_for boxes places 2 place) x y z x' y' z' before after

-- "a removal takes its rows away; every other row stays", "or empties the place it names; every other shape and place stays". W6: "only another setting or a
-- fresh start alters" the gap
pub record Emptied (before : Desk) (p : ℕ) (after : Desk) : Type 0 where
  pub store : after.store ≡ emptied_at before.store p
  pub rows : Cleared p before.rows after.rows
  pub gap : gap_of after ≡ gap_of before
  pub order : InOrder after

-- ---- a piece put down at a place
-- what has been asked before place p gets the placement q
pub record MayPut (d : Desk) (p : ℕ) (q : Placement) : Type 0 where
  pub order : InOrder d
  pub place : p < Limits.places
  pub shape : Numbered Limits.shapes q.shape
  pub loaded : Loaded d.store (nat_abs q.shape)
  pub turn : Numbered Limits.turns q.turn
  pub offset : OffsetFits q.x q.y q.z

-- "An accepted command stores exactly the shape or placement it names .. every other shape and place stays." "every row that names the handled piece is the
-- right one, even if the rows handed in were wrong .. every other row stays". W6: the right one by the desk's gap, which stays; "Pairs not apart are sought also
-- where marks have not changed order"
pub record PutDown (before : Desk) (p : ℕ) (q : Placement) (after : Desk) : Type 0 where
  pub store : after.store ≡ put_at before.store p q
  pub taken : Taken after.store.places p
  pub rows : Handled (RowRight (gap_of before) after.store) after.store.places p Limits.places before.rows after.rows
  pub gap : gap_of after ≡ gap_of before
  pub order : InOrder after

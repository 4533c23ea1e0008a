-- Laws of a handled place: what the functions have done is what the records ask, and the desk stays in order.
-- The definitions stand in Handled.
use Rattle.std.specs.Prelude.{◌≡◌, refl, List, ℕ, ◌<◌, ℤ}
use Rattle.std.proofs.Common.{sym, subst}
use Rattle.limits.specs.Limits
use Rattle.rows.specs.Rows.{Handled, Cleared}
use Rattle.rows_tally.specs.Tallies.{BookFollows}
use Rattle.rows.proofs.Handling.{rows_after_clearing, rows_after_handling}
use Rattle.marks.specs.Marks.{OthersStayMarks, InPlaceMarks}
use Rattle.marks.specs.Keys.{KeyedMarks}
use Rattle.pieces.specs.Boxes.{PlacedPiece}
use Rattle.pieces.specs.declared.placement.Placement.{Placement}
use Rattle.pieces.specs.Pieces.{Store, store_of, Sized, Taken, OthersStay, PiecesInOrder, axes_of, put_in, emptied_in}
use Rattle.pieces_box.specs.declared.boxes.ShapeBox.{ShapeBox}
use Rattle.pieces_box.specs.ShapeBox.{AllAsked}
use Rattle.pieces_box.proofs.KeysLaws.{all_asked}
use Rattle.desk_state.specs.Desk.{Desk, gap_of, InOrder, put_at, emptied_at}
use Rattle.desk_state.specs.Worked.{Worked}
use Rattle.rows_right.specs.Right.{RowRight}
use Rattle.desk_put.specs.PutLaws.{put_others, put_others_marks, put_taken, put_order, empty_others, empty_others_marks, empty_gone, empty_order}
use Rattle.rows_right.specs.RowLaws.{right_verdict}
use Rattle.desk_put.specs.Handled.{RenewedIn, Emptied, MayPut, PutDown}
use Rattle.desk_put.specs.RenewLaws.{renewed_keys, renewed_marks}

pub emptied_at_lem : {d after : Desk} {p q : ℕ} → p ≡ q → Emptied d p after → Emptied d q after
emptied_at_lem {d} {after} e h = subst (λ (p : ℕ). Emptied d p after) e h

-- the place emptied: what is left is worked out of the same boxes, and the keys of the others stay
module _ {d : Desk} {p : ℕ} {boxes : List ShapeBox} {x y z : List ℕ} (size : Sized d.store) (h : p < Limits.places) (o : InOrder d) (w : Worked d.store boxes x y z) where
  left_order : PiecesInOrder (emptied_at d.store p)
  left_order = empty_order d.store p size h o.pieces

  pub left_asked : AllAsked boxes (emptied_in d.store.places p)
  left_asked = all_asked left_order w.boxed

  pub emptied : {x' y' z' rows book marks : List ℕ} → RenewedIn boxes (emptied_in d.store.places p) p x y z x' y' z' d.marks marks → Cleared p d.rows rows → BookFollows rows d.book book
      → Emptied d p (record { store = emptied_at d.store p; rows = rows; book = book; marks = marks })
  emptied m c b = record {
    store = refl;
    rows = c;
    gap = b.gap;
    order = record {
      pieces = left_order;
      marks = renewed_marks w refl left_order h (empty_others_marks d.store p) m o.marks;
      rows = rows_after_clearing (empty_others d.store p) (empty_gone d.store p size h) c o.rows;
      book = b.order;
    };
  }

module _ {d : Desk} {p : ℕ} {q : Placement} {places : List ℤ} (size : Sized d.store) (m : MayPut d p q) (e : places ≡ put_in d.store.places p q) where
  -- the store as it stands once the placement is written
  abbrev stored : Store
  stored = store_of d.store.shapes places

  stored_is : put_at d.store p q ≡ stored
  stored_is = rw (sym e)

  -- the piece that was put
  pub put_piece : PlacedPiece stored p
  put_piece = record {
    order = subst PiecesInOrder stored_is (put_order d.store p q size m.place m.shape m.order.pieces m.loaded m.turn m.offset);
    taken = subst (λ (k : Store). Taken k.places p) stored_is (put_taken d.store p q size m.place m.shape);
  }

  put_stays : OthersStayMarks p (axes_of d.store) (axes_of stored)
  put_stays = subst (λ (k : Store). OthersStayMarks p (axes_of d.store) (axes_of k)) stored_is (put_others_marks d.store p q)

  pub put_down : {rows book marks : List ℕ} → InPlaceMarks (axes_of stored) marks → Handled (RowRight (gap_of d) stored) stored.places p Limits.places d.rows rows → BookFollows rows d.book book
      → PutDown d p q (record { store = stored; rows = rows; book = book; marks = marks })
  put_down n h b = record {
    store = sym stored_is;
    taken = put_piece.taken;
    rows = h;
    gap = b.gap;
    order = record {
      pieces = put_piece.order;
      marks = n;
      rows =
          rows_after_handling (right_verdict (gap_of d) stored) (subst (λ (k : Store). OthersStay p d.store.places k.places) stored_is (put_others d.store p q))
          put_piece.taken h m.order.rows;
      book = b.order;
    };
  }

  -- by what the command has worked out: the same boxes, and the keys of the others
  module _ {boxes : List ShapeBox} {x y z : List ℕ} (w : Worked d.store boxes x y z) where
    pub put_asked : AllAsked boxes places
    put_asked = all_asked put_piece.order w.boxed

    module _ {x' y' z' marks : List ℕ} (r : RenewedIn boxes places p x y z x' y' z' d.marks marks) where
      pub put_keys_lem : KeyedMarks (axes_of stored) x' y' z'
      put_keys_lem = renewed_keys w refl put_piece.order m.place put_stays r

      pub put_marks : InPlaceMarks (axes_of stored) marks
      put_marks = renewed_marks w refl put_piece.order m.place put_stays r m.order.marks

-- The laws by which the order test decides: each test that fails is a field of `InOrder` that does not hold.
-- The marks are decided through their keys.
use Rattle.std.specs.Prelude.{◌≡◌, refl, List, Bool, true, false, T, ℤ, ℕ}
use Rattle.std.proofs.Common.{sym, ◌∙◌, subst, arith}
use Rattle.limits.specs.Decides.{Decides}
use Rattle.limits.specs.DecidesLaws.{fails}
use Rattle.rows.specs.Rows.{RowsInOrder}
use Rattle.rows_tally.specs.Tallies.{BookInOrder}
use Rattle.marks.specs.Marks.{Axes, InPlaceMarks}
use Rattle.marks.specs.Keys.{KeyedMarks}
use Rattle.marks_test.specs.Tested.{TestedMarks}
use Rattle.pieces.specs.Pieces.{Store, PiecesInOrder, axes_of}
use Rattle.pieces_box.specs.declared.boxes.ShapeBox.{ShapeBox}
use Rattle.pieces_box.specs.ShapeBox.{Boxed, KeysIn}
use Rattle.pieces_box.proofs.KeysLaws.{keyed_in}
use Rattle.desk_state.specs.Desk.{Desk, InOrder}
use Rattle.desk_state.specs.Worked.{Worked, RestDecided}

marks_decided : {a : Axes} {x y z marks : List ℕ} {b : Bool} → KeyedMarks a x y z → TestedMarks x y z marks b → Decides b (InPlaceMarks a marks)
marks_decided {a} k t = record { yes = λ e. t.right a k e; no = λ e h. absurd (subst T (sym (t.whole a k h) ∙ e) tt) }

-- ---- what is left of the test, once the keys are known
module _ {places : List ℤ} {rows book marks x y z : List ℕ} where
  pub rest_by_marks : {b : Bool} → TestedMarks x y z marks b → b ≡ false → RestDecided places rows book marks x y z false
  rest_by_marks {b} t e = record { decides = λ a k. fails refl (λ o. (marks_decided k t).no e o.marks) }

  pub rest_by_rows : (RowsInOrder places rows → ⊥) → RestDecided places rows book marks x y z false
  rest_by_rows f = record { decides = λ a k. fails refl (λ o. f o.rows) }

  pub rest_by_book : {b r : Bool} → TestedMarks x y z marks b → b ≡ true → RowsInOrder places rows → Decides r (BookInOrder rows book) → RestDecided places rows book marks x y z r
  rest_by_book t e s d = record {
    decides = λ a k. record {
      yes = λ h. record { marks = (marks_decided k t).yes e; rows = s; book = d.yes h };
      no = λ h o. d.no h o.book;
    };
  }

-- ---- the whole
pub worked : {d : Store} {boxes : List ShapeBox} {x y z : List ℕ} → PiecesInOrder d → Boxed d.shapes boxes → KeysIn boxes d.places 0 x → KeysIn boxes d.places 1 y → KeysIn boxes d.places 2 z
    → Worked d boxes x y z
worked o b x y z = record {
  boxed = b;
  keyed = record { on_x_lem = keyed_in o b (omega arith) x; on_y_lem = keyed_in o b (omega arith) y; on_z_lem = keyed_in o b (omega arith) z };
  long_x = x.long;
  long-y = y.long;
  long_z = z.long;
}

pub order_decided : {d : Desk} {boxes : List ShapeBox} {x y z : List ℕ} {r : Bool} → PiecesInOrder d.store → Worked d.store boxes x y z
    → RestDecided d.store.places d.rows d.book d.marks x y z r → Decides r (InOrder d)
order_decided {d} p w t =
    let s = t.decides (axes_of d.store) w.keyed in
    record {
      yes = λ e. let k = s.yes e in record { pieces = p; marks = k.marks; rows = k.rows; book = k.book };
      no = λ e o. s.no e (record { marks = o.marks; rows = o.rows; book = o.book });
    }

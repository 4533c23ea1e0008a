-- `SeenDesk::rest_in_order`: three tests, one for each field; the first that fails refutes the order.
-- The marks are tested by their keys.
use borrow.Author.Tests.{not-true, not-false}
use Rattle.limits.specs.DecidesLaws.{unless_left}
use Rattle.desk_state.specs.OrderLaws.{rest_by_marks, rest_by_book}
use Rattle.desk_state.proofs.SeenDesk.rest_in_order.Goals as goal

pub returns-then-not-in_place_marks : goal.returns-then-not-in_place_marks
returns-then-not-in_place_marks c = rest_by_marks c.in_place_marks.ensures (not-true _ c.if-not-in_place_marks.true-raw)

pub returns : goal.returns
returns c =
    rest_by_book c.in_place_marks.ensures (not-false _ c.if-not-in_place_marks.false-raw)
    (unless_left c.rows_in_order.ensures c.if-not-rows_in_order.false-raw) c.book_in_order.ensures

-- `desk_put::empty_place`: the place is emptied first; marks, rows and tallies follow from what is left.
-- Assumes nothing.
use Rattle.desk_put.specs.HandledLaws.{left_asked, emptied}
use Rattle.desk_put.proofs.empty.empty_place.Goals as goal

pub renew_marks-requires : goal.renew_marks-requires
renew_marks-requires c =
    (left_asked c.sized_store.ensures c.requires.in_order.1 c.requires.in_order.0 c.requires.worked, c.requires.in_order.0.marks.long, c.requires.in_order.1)

pub returns-clause-emptied : goal.returns-clause-emptied
returns-clause-emptied c =
    let w = c.clear_place.ensures in
    emptied c.sized_store.ensures c.requires.in_order.1 c.requires.in_order.0 c.requires.worked c.renew_marks.ensures w.rows w.book

-- `desk_put::put_place`: the placement is stored first; marks, rows and tallies follow from it.
-- Assumes nothing.
use Rattle.desk_put.specs.HandledLaws.{put_piece, put_asked, put_keys_lem, put_marks, put_down}
use Rattle.desk_put.proofs.put.put_place.Goals as goal

pub renew_marks-requires : goal.renew_marks-requires
renew_marks-requires c =
    (put_asked c.sized_store.ensures c.requires.may_put c.put_placement.ensures c.requires.worked, c.requires.may_put.order.marks.long, c.requires.may_put.place)

pub put_rows-requires-clause-placed_piece : goal.put_rows-requires-clause-placed_piece
put_rows-requires-clause-placed_piece c =
    let e = c.put_placement.ensures in
    (put_piece c.sized_store.ensures c.requires.may_put e, c.requires.may_put.order.book)

pub put_rows-requires-clause-keyed_marks : goal.put_rows-requires-clause-keyed_marks
put_rows-requires-clause-keyed_marks c =
    let e = c.put_placement.ensures in
    put_keys_lem c.sized_store.ensures c.requires.may_put e c.requires.worked c.renew_marks.ensures

pub returns-clause-put : goal.returns-clause-put
returns-clause-put c =
    let e = c.put_placement.ensures in
    let w = c.put_rows.ensures in
    put_down c.sized_store.ensures c.requires.may_put e (put_marks c.sized_store.ensures c.requires.may_put e c.requires.worked c.renew_marks.ensures) w.rows w.book

pub returns-clause-keyed : goal.returns-clause-keyed
returns-clause-keyed c =
    put_keys_lem c.sized_store.ensures c.requires.may_put c.put_placement.ensures c.requires.worked c.renew_marks.ensures

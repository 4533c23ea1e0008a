-- `rows_right::row::put_pair`: the pair with the lower place first, or nothing.
use Rattle.std.proofs.Common.{inl}
use Rattle.pieces.specs.Pieces.{store_of}
use Rattle.rows_right.specs.RowLaws.{one_skipped, one_below, one_above}
use Rattle.rows_right.proofs.row.put_pair.Goals as goal

pub returns-then-other-place-clause-rows : goal.returns-then-other-place-clause-rows
returns-then-other-place-clause-rows c =
    let a = c.args in
    one_below a.gap (store_of a.shapes.now a.places.now) c.if-other-place.true (c.is_taken.ensures.yes c.if-is_taken.true) c.requires.placed_piece.0.taken c.row_of-v.ensures c.put_row.ensures.row

pub returns-then-place-other-clause-rows : goal.returns-then-place-other-clause-rows
returns-then-place-other-clause-rows c =
    let a = c.args in
    one_above a.gap (store_of a.shapes.now a.places.now) c.if-place-other.true (c.is_taken.ensures.yes c.if-is_taken.true) c.requires.placed_piece.0.taken c.row_of-v-then-place-other.ensures
    c.put_row-then-place-other.ensures.row

pub returns-else-is_taken-clause-rows : goal.returns-else-is_taken-clause-rows
returns-else-is_taken-clause-rows c = one_skipped c.args.gap (store_of c.args.shapes.now c.args.places.now) (inl (c.is_taken.ensures.no c.if-is_taken.false))

-- `rows_right::row::row_of`: apart by boxes, or the verdict of the two pieces.
use mathlib.Core.Path.{sym, subst}
use Rattle.limits.specs.Decides.{Decides}
use Rattle.space.specs.Verdicts.{VerdictIs}
use Rattle.pieces.specs.Pieces.{store_of, piece_at}
use Rattle.pieces.specs.Boxes.{Apart}
use Rattle.rows_right.specs.RowLaws.{row_apart, row_verdict}
use Rattle.rows_right.proofs.row.row_of.Goals as goal

pub boxes_apart-requires : goal.boxes_apart-requires
boxes_apart-requires c = (c.requires.gap_bound.0, c.requires.placed_piece.0.taken.place, c.requires.placed_piece.1.taken.place)

pub returns-then-boxes_apart : goal.returns-then-boxes_apart
returns-then-boxes_apart c =
    let apart : let a = c.args in Decides c.boxes_apart.result (Apart a.gap (store_of a.shapes.now a.places.now) a.low a.high) =
    c.boxes_apart.ensures.decides (store_of c.args.shapes.now c.args.places.now) c.requires.gap_bound.1 c.requires.placed_piece.0.taken c.requires.placed_piece.1.taken in
    let a = c.args in
    row_apart a.gap (store_of a.shapes.now a.places.now) a.low a.high ((apart).yes c.if-boxes_apart.true)

pub verdict_of-requires-clause-placed_piece : goal.verdict_of-requires-clause-placed_piece
verdict_of-requires-clause-placed_piece c = c.requires.placed_piece

pub verdict_of-requires-clause-gap_bound : goal.verdict_of-requires-clause-gap_bound
verdict_of-requires-clause-gap_bound c = c.requires.gap_bound.0

pub returns : goal.returns
returns c =
    let apart : let a = c.args in Decides c.boxes_apart.result (Apart a.gap (store_of a.shapes.now a.places.now) a.low a.high) =
    c.boxes_apart.ensures.decides (store_of c.args.shapes.now c.args.places.now) c.requires.gap_bound.1 c.requires.placed_piece.0.taken c.requires.placed_piece.1.taken in
    let a = c.args in
    row_verdict a.gap (store_of a.shapes.now a.places.now) a.low a.high ((apart).no c.if-boxes_apart.false)
    (subst (VerdictIs a.gap (piece_at (store_of a.shapes.now a.places.now) a.low) (piece_at (store_of a.shapes.now a.places.now) a.high)) (sym c.number.ensures) c.verdict_of.ensures.right)

-- `rows_right::row::put_rows`: the rows with every place before `other` are right by the book's gap, and the book has followed them.
use Rattle.rows.specs.Rows.{Handled}
use Rattle.rows_tally.specs.Tallies.{BookFollows}
use Rattle.pieces.specs.Pieces.{store_of}
use Rattle.rows_right.specs.Right.{RowRight}
use Rattle.rows_right.proofs.row.put_rows.Given as goal

abbrev pub invariant-loop-other : goal.invariant-loop-other
invariant-loop-other l = record {
  rows : Handled (RowRight l.gap (store_of l.shapes l.places)) l.places l.place l.other l.initial.rows l.rows;
  book : BookFollows l.rows l.initial.book l.book;
}

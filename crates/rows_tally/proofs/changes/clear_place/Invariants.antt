-- `rows_tally::changes::clear_place`: the rows of the place with the others so far are gone (`ClearedTo`), and the book has followed them.
use Rattle.rows.specs.Changes.{ClearedTo}
use Rattle.rows_tally.specs.Tallies.{BookFollows}
use Rattle.rows_tally.proofs.changes.clear_place.Given as goal

abbrev pub invariant-loop-other : goal.invariant-loop-other
invariant-loop-other l = record {
  rows : ClearedTo l.place l.other l.initial.rows l.rows;
  book : BookFollows l.rows l.initial.book l.book;
}

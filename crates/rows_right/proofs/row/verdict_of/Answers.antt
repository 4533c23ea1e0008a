-- `rows_right::row::verdict_of`: the numbers in front of each array are the piece's.
use Rattle.rows_right.specs.RowLaws.{front_placed}
use Rattle.rows_right.proofs.row.verdict_of.Goals as goal

pub verdict-requires-clause-placed : goal.verdict-requires-clause-placed
verdict-requires-clause-placed c = (
  front_placed c.requires.placed_piece.0 c.piece_numbers-a.ensures c.piece_count-n.ensures.0,
  front_placed c.requires.placed_piece.1 c.piece_numbers-b.ensures c.piece_count-m.ensures.0,
)

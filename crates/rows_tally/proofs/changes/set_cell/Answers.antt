-- `rows_tally::changes::set_cell`: the old row out of the book, the new one in, and the cell stored.
-- The order of the book gives the bounds of both tallies.
use Rattle.std.proofs.Common.{arith}
use Rattle.rows_tally.specs.Following.{tally_some, tally_room, book_follows}
use Rattle.rows_tally.proofs.changes.set_cell.Goals as goal

pub take_out-requires : goal.take_out-requires
take_out-requires c = tally_some c.args.k (omega arith) c.requires.1

pub put_in-requires : goal.put_in-requires
put_in-requires c = λ v. omega (arith, tally_room c.args.k (omega arith) c.requires.1 c.take_out.ensures _ v)

pub returns-clause-book : goal.returns-clause-book
returns-clause-book c = book_follows c.args.k (omega arith) c.requires.1 c.args.v c.take_out.ensures c.put_in.ensures

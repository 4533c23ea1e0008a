-- `line_tell::told` meets its contract: what the arrays have become as one, each of them has become.
use borrow.Author.Rules.{rules}
use Rattle.desk_state.specs.Desk.{desk_of}
use Rattle.desk_state.specs.Lent.{held}
use Rattle.line_tell.specs.TellsLaws.{does_there}
use Rattle.line_tell.proofs.told.Goals as goal

pub returns : goal.returns
returns c =
    let a = c.args in
    does_there a.command a.numbers.now (desk_of a.shapes.now a.places.now a.rows.now a.book.now a.marks.now) {lent = held c.tell.new.desk} c.tell.result
    (search rules) c.tell.ensures.does

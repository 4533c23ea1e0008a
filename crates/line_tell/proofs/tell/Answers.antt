-- `line_tell::tell` meets its contract: the desk is told with the part of the marks buffer that is lent, and the rest of it stays.
use Rattle.std.specs.Prelude.{◌-◌, min, ◌≡◌, refl, ◌++◌, length, get_or, drop}
use Rattle.std.proofs.Common.{arith}
use Rattle.desk_state.specs.Desk.{desk_of}
use Rattle.line_tell.specs.TellsLaws.{tells_lent}
use Rattle.line_tell.proofs.tell.Goals as goal

pub returns-clause-does : goal.returns-clause-does
returns-clause-does c =
    let a = c.args in
    let n = c.at_most-m.result in
    let m = min (get_or a.lent.now 1 0) (length a.marks.now) in
    let lent : n - 0 ≡ m = omega (arith, c.at_most-m.ensures.is) in
    let new = c.told-answer.new in
    tells_lent a.command a.count a.numbers.now _ m (n - 0)
    (desk_of a.shapes.now a.places.now a.rows.now a.book.now a.marks.now)
    (desk_of new.shapes new.places new.rows new.book (new.marks ++ drop (n - 0) a.marks.now))
    c.told-answer.result new.marks c.behind_first-corners.ensures lent (omega (arith, c.told-answer.auto.marks))
    refl
    c.told-answer.ensures

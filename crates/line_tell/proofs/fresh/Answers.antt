-- `line_tell::fresh` meets its contract: the desk is started with as many marks as it has, and the rest of the buffer stays.
use Rattle.std.specs.Prelude.{◌-◌, min, ◌≡◌, refl, [], ◌++◌, length, drop}
use Rattle.std.proofs.Common.{arith}
use Rattle.limits.specs.Limits
use Rattle.desk_state.specs.Desk.{desk_of}
use Rattle.desk.specs.declared.Command.TheVariants.{Start}
use Rattle.line_tell.specs.TellsLaws.{tells_lent}
use Rattle.line_tell.proofs.fresh.Goals as goal

pub returns : goal.returns
returns c =
    let a = c.args in
    let n = c.at_most-m.result in
    let m = min Limits.marks (length a.marks.now) in
    let lent : n - 0 ≡ m = omega (arith, c.at_most-m.ensures.is) in
    let new = c.started.new in
    tells_lent Start 0 [] [] m (n - 0)
    (desk_of a.shapes.now a.places.now a.rows.now a.book.now a.marks.now)
    (desk_of new.shapes new.places new.rows new.book (new.marks ++ drop (n - 0) a.marks.now))
    c.started.result new.marks refl lent (omega (arith, c.started.auto.marks))
    refl
    c.started.ensures

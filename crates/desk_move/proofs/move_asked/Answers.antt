-- `desk_move::move_asked`: the place first, and then the turn and the offset.
-- A field of the offset is read through its bits.
use mathlib.Core.Path.{◌≡◌}
use borrow.Author.Rules.{rules}
use mir.Syntax.{w32}
use mir.Val.{to_z, of_z}
use mir.Facts.{to_z-of_z}
use Rattle.std.proofs.lemmas.Result.{err_from_is_err_and}
use Rattle.limits.specs.Refusals.{number_of}
use Rattle.desk_move.specs.Moving.{move_by_rest}
use Rattle.desk_move.proofs.move_asked.Goals as goal

pub returns-in_err-placement-clause-asked : goal.returns-in_err-placement-clause-asked
returns-in_err-placement-clause-asked c =
    let a = c.args in
    let o = a.o in
    let x : to_z w32 (of_z w32 o.x) ≡ o.x = search rules in
    let y : to_z w32 (of_z w32 o.y) ≡ o.y = search rules in
    let z : to_z w32 (of_z w32 o.z) ≡ o.z = search rules in
    let p = err_from_is_err_and c.from_residual-in_err-placement.result c.from_residual-in_err-placement.ensures.1 in
    rw (p.1, p.2)
    (move_by_rest a.places.now a.place a.turn o (to_z-of_z c.ranges.place) (to_z-of_z c.ranges.turn) x y z c.in_ok-p.ensures.asked
    (number_of c.in_err-placement.field-0.0) c.in_err-placement.ensures)

pub returns-clause-asked : goal.returns-clause-asked
returns-clause-asked c =
    let a = c.args in
    let o = a.o in
    let x : to_z w32 (of_z w32 o.x) ≡ o.x = search rules in
    let y : to_z w32 (of_z w32 o.y) ≡ o.y = search rules in
    let z : to_z w32 (of_z w32 o.z) ≡ o.z = search rules in
    move_by_rest a.places.now a.place a.turn o (to_z-of_z c.ranges.place) (to_z-of_z c.ranges.turn) x y z c.in_ok-p.ensures.asked 0 c.in_ok-placement.ensures

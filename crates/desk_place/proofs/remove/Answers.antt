-- `desk_place::remove`: the order of the desk, the place, and then it is emptied.
-- Assumes nothing.
use borrow.Author.Tests.{not-false}
use mir.Facts.{to_z-of_z}
use Rattle.std.proofs.lemmas.Result.{err_from_is_err_and}
use Rattle.limits.specs.DecidesLaws.{unless_left}
use Rattle.desk_state.specs.Lent.{of_places}
use Rattle.desk_place.specs.Placing.{remove_refused, may_remove, removed}
use Rattle.desk_place.proofs.remove.Goals as goal

pub returns-in_err-p-clause-removed : goal.returns-in_err-p-clause-removed
returns-in_err-p-clause-removed c =
    let a = c.args in
    let p = err_from_is_err_and c.from_residual.result c.from_residual.ensures.1 in
    rw (p.1, p.2)
    (remove_refused (of_places a.desk.now) a.place (to_z-of_z c.ranges.place) (unless_left c.tested.ensures.decided c.if-not-tested.false-raw) c.in_err-p.ensures.asked)

pub empty_place-requires-clause-in_order : goal.empty_place-requires-clause-in_order
empty_place-requires-clause-in_order c =
    let a = c.args in
    may_remove (of_places a.desk.now) a.place (to_z-of_z c.ranges.place) (unless_left c.tested.ensures.decided c.if-not-tested.false-raw)
    c.in_ok-p.ensures.asked c.in_ok-p.ensures.index

pub empty_place-requires-clause-worked : goal.empty_place-requires-clause-worked
empty_place-requires-clause-worked c = c.tested.ensures.worked (not-false _ c.if-not-tested.false-raw)

pub returns-clause-removed : goal.returns-clause-removed
returns-clause-removed c =
    let a = c.args in
    removed (of_places a.desk.now) a.place (to_z-of_z c.ranges.place) (unless_left c.tested.ensures.decided c.if-not-tested.false-raw)
    c.in_ok-p.ensures.asked c.in_ok-p.ensures.index c.empty_place.ensures.emptied

-- `desk_place::place`: the order of the desk, the placing's numbers, and then the piece is put down.
-- Assumes nothing.
use borrow.Author.Tests.{not-false}
use mir.Facts.{to_z-of_z}
use Rattle.std.proofs.lemmas.Result.{err_from_is_err_and}
use Rattle.limits.specs.DecidesLaws.{unless_left}
use Rattle.desk_state.specs.Lent.{of_places}
use Rattle.desk_place.specs.Placing.{place_refused, may_place, placed}
use Rattle.desk_place.proofs.place.Goals as goal

pub returns-in_err-p-clause-places : goal.returns-in_err-p-clause-places
returns-in_err-p-clause-places c =
    let a = c.args in
    let p = err_from_is_err_and c.from_residual.result c.from_residual.ensures.1 in
    rw (p.1, p.2)
    (place_refused (of_places a.desk.now) a.place a.q (to_z-of_z c.ranges.place) (unless_left c.tested.ensures.decided c.if-not-tested.false-raw) c.in_err-p.ensures.asked)

pub put_place-requires-clause-may_put : goal.put_place-requires-clause-may_put
put_place-requires-clause-may_put c =
    let a = c.args in
    may_place (of_places a.desk.now) a.place a.q (to_z-of_z c.ranges.place) (unless_left c.tested.ensures.decided c.if-not-tested.false-raw)
    c.in_ok-p.ensures.asked c.in_ok-p.ensures.index

pub put_place-requires-clause-worked : goal.put_place-requires-clause-worked
put_place-requires-clause-worked c = c.tested.ensures.worked (not-false _ c.if-not-tested.false-raw)

pub returns-clause-places : goal.returns-clause-places
returns-clause-places c =
    let a = c.args in
    placed (of_places a.desk.now) a.place a.q (to_z-of_z c.ranges.place) (unless_left c.tested.ensures.decided c.if-not-tested.false-raw)
    c.in_ok-p.ensures.asked c.in_ok-p.ensures.index c.put_place.ensures.put

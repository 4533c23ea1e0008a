-- `desk_load::load`: the order of the desk, the number and the corners, and then the shape is stored.
-- Assumes nothing.
use mir.Facts.{to_z-of_z}
use Rattle.std.proofs.lemmas.Result.{err_from_is_err_and}
use Rattle.limits.specs.DecidesLaws.{unless_left}
use Rattle.desk_state.specs.Lent.{of_shapes}
use Rattle.desk_load.specs.Loading.{load_refused, loaded}
use Rattle.desk_load.proofs.load.Goals as goal

pub returns-in_err-s-clause-loads : goal.returns-in_err-s-clause-loads
returns-in_err-s-clause-loads c =
    let a = c.args in
    let p = err_from_is_err_and c.from_residual.result c.from_residual.ensures.1 in
    rw (p.1, p.2)
    (load_refused (of_shapes a.desk.now) a.shape a.numbers.now (to_z-of_z c.ranges.shape) (unless_left c.in_order.ensures c.if-not-in_order.false-raw) c.in_err-s.ensures.asked)

pub returns-clause-loads : goal.returns-clause-loads
returns-clause-loads c =
    let a = c.args in
    loaded (of_shapes a.desk.now) a.shape a.numbers.now (to_z-of_z c.ranges.shape) (unless_left c.in_order.ensures c.if-not-in_order.false-raw)
    c.in_ok-s.ensures.asked c.in_ok-s.ensures.index c.sized_store.ensures c.put_shape.ensures

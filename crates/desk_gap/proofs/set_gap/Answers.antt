-- `desk_gap::set_gap`: the order of the desk, the gap, and then it is stored.
-- Assumes nothing.
use mir.Facts.{to_z-of_z}
use Rattle.std.proofs.lemmas.Result.{err_from_is_err_and}
use Rattle.limits.specs.DecidesLaws.{unless_left}
use Rattle.desk_state.specs.Lent.{of_book}
use Rattle.desk_gap.specs.Setting.{gap_refused_lem, gap_stored}
use Rattle.desk_gap.proofs.set_gap.Goals as goal

pub returns-in_err-steps-clause-sets_gap : goal.returns-in_err-steps-clause-sets_gap
returns-in_err-steps-clause-sets_gap c =
    let a = c.args in
    let p = err_from_is_err_and c.from_residual.result c.from_residual.ensures.1 in
    rw (p.1, p.2)
    (gap_refused_lem (of_book a.desk.now) a.gap (to_z-of_z c.ranges.gap) (unless_left c.in_order.ensures c.if-not-in_order.false-raw) c.in_err-steps.ensures.asked)

pub returns-clause-sets_gap : goal.returns-clause-sets_gap
returns-clause-sets_gap c =
    let a = c.args in
    gap_stored (of_book a.desk.now) a.gap (to_z-of_z c.ranges.gap) (unless_left c.in_order.ensures c.if-not-in_order.false-raw)
    c.in_ok-steps.ensures.asked c.in_ok-steps.ensures.index c.put_gap.ensures

-- `desk_ask::pair`: the order of the desk, the two places, and then the verdict of the two pieces by the desk's gap.
-- Assumes nothing.
use mathlib.Core.Path.{refl}
use mathlib.Core.Logic.{inl}
use native.Mathlib.Omega.{arith}
use mir.Facts.{to_z-of_z}
use Rattle.std.proofs.lemmas.Result.{err_from_is_err_and}
use Rattle.limits.specs.DecidesLaws.{unless_taken, unless_left}
use Rattle.limits.proofs.RefusalLaws.{number_some}
use Rattle.verdict.specs.Judged.{not_refused}
use Rattle.desk_state.specs.Lent.{seen}
use Rattle.desk.specs.CommandLaws.{pair_refuses}
use Rattle.desk_ask.specs.Pairing.{pair_refused, may_pair, paired}
use Rattle.desk_ask.proofs.pair.Goals as goal

pub returns-then-not-in_order : goal.returns-then-not-in_order
returns-then-not-in_order c = pair_refuses (inl (unless_taken c.in_order.ensures c.if-not-in_order.true-raw, refl)) (omega arith)

pub returns-in_err-i : goal.returns-in_err-i
returns-in_err-i c =
    let a = c.args in
    let p = err_from_is_err_and c.from_residual.result c.from_residual.ensures.1 in
    rw (p.1, p.2)
    (pair_refused (seen a.desk) a.first a.second (to_z-of_z c.ranges.first) (to_z-of_z c.ranges.second)
    (unless_left c.in_order.ensures c.if-not-in_order.false-raw) (λ z. omega (arith, number_some c.in_err-i.field-0.0)) c.in_err-i.ensures.asked)

pub verdict_of-requires-clause-placed_piece : goal.verdict_of-requires-clause-placed_piece
verdict_of-requires-clause-placed_piece c =
    let a = c.args in
    may_pair (seen a.desk) a.first a.second (to_z-of_z c.ranges.first) (to_z-of_z c.ranges.second)
    (unless_left c.in_order.ensures c.if-not-in_order.false-raw) c.in_ok-i.ensures.asked c.in_ok-i.ensures.index

pub verdict_of-requires-clause-gap_bound : goal.verdict_of-requires-clause-gap_bound
verdict_of-requires-clause-gap_bound c =
    let o = unless_left c.in_order.ensures c.if-not-in_order.false-raw in omega (arith, c.gap_of-gap.ensures, o.book.gap)

pub returns : goal.returns
returns c =
    let a = c.args in
    paired (seen a.desk) a.first a.second (to_z-of_z c.ranges.first) (to_z-of_z c.ranges.second)
    (unless_left c.in_order.ensures c.if-not-in_order.false-raw) c.in_ok-i.ensures.asked c.in_ok-i.ensures.index c.gap_of-gap.ensures
    (not_refused c.verdict_of.result, c.verdict_of.ensures)

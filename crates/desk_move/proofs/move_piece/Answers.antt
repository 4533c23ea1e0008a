-- `desk_move::move_piece`: the order of the desk, the numbers, and then the piece is put down anew.
-- Assumes nothing.
use borrow.Author.Tests.{not-false}
use mir.Facts.{to_z-of_z}
use Rattle.std.proofs.lemmas.Result.{err_from_is_err_and}
use Rattle.limits.specs.DecidesLaws.{unless_left}
use Rattle.desk_state.specs.Lent.{of_places}
use Rattle.desk_move.specs.Moving.{move_refused, may_move, moved}
use Rattle.desk_move.proofs.move_piece.Goals as goal

pub returns-in_err-p-clause-moves : goal.returns-in_err-p-clause-moves
returns-in_err-p-clause-moves c =
    let a = c.args in
    let p = err_from_is_err_and c.from_residual.result c.from_residual.ensures.1 in
    rw (p.1, p.2)
    (move_refused (of_places a.desk.now) a.place a.turn a.o (to_z-of_z c.ranges.place) (to_z-of_z c.ranges.turn)
    (unless_left c.tested.ensures.decided c.if-not-tested.false-raw) c.in_err-p.ensures.asked)

pub move_to-requires-clause-may_turn : goal.move_to-requires-clause-may_turn
move_to-requires-clause-may_turn c =
    let a = c.args in
    may_move (of_places a.desk.now) a.place a.turn a.o (to_z-of_z c.ranges.place) (to_z-of_z c.ranges.turn)
    (unless_left c.tested.ensures.decided c.if-not-tested.false-raw) c.in_ok-p.ensures.asked c.in_ok-p.ensures.index

pub move_to-requires-clause-worked : goal.move_to-requires-clause-worked
move_to-requires-clause-worked c = c.tested.ensures.worked (not-false _ c.if-not-tested.false-raw)

pub returns-clause-moves : goal.returns-clause-moves
returns-clause-moves c =
    let a = c.args in
    moved (of_places a.desk.now) a.place a.turn a.o (to_z-of_z c.ranges.place) (to_z-of_z c.ranges.turn)
    (unless_left c.tested.ensures.decided c.if-not-tested.false-raw) c.in_ok-p.ensures.asked c.in_ok-p.ensures.index c.move_to.ensures.moved

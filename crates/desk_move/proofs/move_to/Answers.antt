-- `desk_move::move_to`: the keys are kept as they were, and the piece is put down.
-- The placement is the one that `moved_to` names.
use mathlib.Core.Path.{◌≡◌, ap, ◌∙◌}
use lib.IntN.{ℤ}
use mir.Facts.{to_z-of_z}
use Rattle.desk.specs.Commands.{moved_to}
use Rattle.desk_move.specs.Moving.{may_be, put_be, moved_by_lem}
use Rattle.desk_move.proofs.move_to.Goals as goal

pub moved_to-q-requires : goal.moved_to-q-requires
moved_to-q-requires c =
    (c.requires.may_turn.taken.place, (c.requires.may_turn.put.order.pieces.places.all c.args.place c.requires.may_turn.taken).shape)

pub put_place-requires-clause-may_put : goal.put_place-requires-clause-may_put
put_place-requires-clause-may_put c =
    let a = c.args in
    let places = a.desk.now.places.now in
    let put_is : c.moved_to-q.result ≡ moved_to places a.place a.turn a.o =
    c.moved_to-q.ensures ∙ ap (λ (t : ℤ). moved_to places a.place t a.o) (to_z-of_z c.ranges.turn) in
    may_be put_is c.requires.may_turn.put

pub returns-clause-moved : goal.returns-clause-moved
returns-clause-moved c =
    let a = c.args in
    let places = a.desk.now.places.now in
    let put_is : c.moved_to-q.result ≡ moved_to places a.place a.turn a.o =
    c.moved_to-q.ensures ∙ ap (λ (t : ℤ). moved_to places a.place t a.o) (to_z-of_z c.ranges.turn) in
    let e = c.put_place.ensures in
    moved_by_lem c.requires.may_turn (put_be put_is e.put) c.requires.worked.keyed e.keyed c.count_marks.ensures

-- `desk_place::place_asked`: the shape, the place, the placement.
-- A field of the placement is read through its bits.
use mathlib.Core.Path.{◌≡◌}
use borrow.Author.Rules.{rules}
use mir.Syntax.{w32}
use mir.Val.{to_z, of_z}
use mir.Facts.{to_z-of_z}
use Rattle.std.proofs.lemmas.Result.{err_from_is_err_and}
use Rattle.limits.specs.Refusals.{number_of}
use Rattle.desk_refusals.specs.Asked.{placement_handed}
use Rattle.desk_place.specs.Placing.{place_by_shape, place_by_place, place_by_rest}
use Rattle.desk_place.proofs.place_asked.Goals as goal

pub returns-in_err-loaded_shape-clause-asked : goal.returns-in_err-loaded_shape-clause-asked
returns-in_err-loaded_shape-clause-asked c =
    let a = c.args in
    let shape : to_z w32 (of_z w32 a.q.shape) ≡ a.q.shape = search rules in
    let p = err_from_is_err_and c.from_residual.result c.from_residual.ensures.1 in
    rw (p.1, p.2) (place_by_shape a.shapes.now a.places.now a.place a.q shape c.in_err-loaded_shape.field-0.0 c.in_err-loaded_shape.ensures.asked)

pub returns-in_err-p-clause-asked : goal.returns-in_err-p-clause-asked
returns-in_err-p-clause-asked c =
    let a = c.args in
    let shape : to_z w32 (of_z w32 a.q.shape) ≡ a.q.shape = search rules in
    let p = err_from_is_err_and c.from_residual-in_err-p.result c.from_residual-in_err-p.ensures.1 in
    rw (p.1, p.2)
    (place_by_place a.shapes.now a.places.now a.place a.q shape (to_z-of_z c.ranges.place) c.in_ok-loaded_shape.ensures.asked
    c.in_err-p.field-0.0 c.in_err-p.ensures.asked)

pub returns-in_err-placement-clause-asked : goal.returns-in_err-placement-clause-asked
returns-in_err-placement-clause-asked c =
    let a = c.args in
    let q = a.q in
    let shape : to_z w32 (of_z w32 q.shape) ≡ q.shape = search rules in
    let turn : to_z w32 (of_z w32 q.turn) ≡ q.turn = search rules in
    let x : to_z w32 (of_z w32 q.x) ≡ q.x = search rules in
    let y : to_z w32 (of_z w32 q.y) ≡ q.y = search rules in
    let z : to_z w32 (of_z w32 q.z) ≡ q.z = search rules in
    let p = err_from_is_err_and c.from_residual-in_err-placement.result c.from_residual-in_err-placement.ensures.1 in
    rw (p.1, p.2)
    (place_by_rest a.shapes.now a.places.now a.place q shape (to_z-of_z c.ranges.place) c.in_ok-loaded_shape.ensures.asked c.in_ok-p.ensures.asked
    (number_of c.in_err-placement.field-0.0) (placement_handed turn x y z c.in_err-placement.ensures))

pub returns-clause-asked : goal.returns-clause-asked
returns-clause-asked c =
    let a = c.args in
    let q = a.q in
    let shape : to_z w32 (of_z w32 q.shape) ≡ q.shape = search rules in
    let turn : to_z w32 (of_z w32 q.turn) ≡ q.turn = search rules in
    let x : to_z w32 (of_z w32 q.x) ≡ q.x = search rules in
    let y : to_z w32 (of_z w32 q.y) ≡ q.y = search rules in
    let z : to_z w32 (of_z w32 q.z) ≡ q.z = search rules in
    place_by_rest a.shapes.now a.places.now a.place q shape (to_z-of_z c.ranges.place) c.in_ok-loaded_shape.ensures.asked c.in_ok-p.ensures.asked
    0 (placement_handed turn x y z c.in_ok-placement.ensures)

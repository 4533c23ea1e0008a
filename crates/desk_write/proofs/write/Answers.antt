-- `desk_write::write` meets its contract: the order of the desk, the shape, and then its text.
use Prim.Native.Nat.{ℕ}
use mathlib.Core.List.{List, []}
use mathlib.Core.Path.{ap, refl, ◌∙◌, subst}
use native.Mathlib.Omega.{arith}
use lib.IntN.{ℤ, nat_abs}
use mir.Facts.{to_z-of_z}
use Rattle.std.proofs.lemmas.Result.{err_from_is_err_and}
use Rattle.limits.specs.Refusals.{number_of}
use Rattle.limits.specs.DecidesLaws.{unless_left}
use Rattle.limits.proofs.RefusalLaws.{number_some}
use Rattle.pieces.specs.Pieces.{store_of}
use Rattle.desk_state.specs.Lent.{seen}
use Rattle.off_write.specs.Written.{off_text}
use Rattle.desk_write.specs.Writing.{numbers_of_shape, room_refusals, written_of, WrittenAs}
use Rattle.desk_write.specs.WritingLaws.{shape_refused, shape_written}
use Rattle.desk_write.proofs.write.Goals as goal

-- the text of a shape
abbrev text : List ℤ → ℕ → List ℕ
text shapes n = off_text (numbers_of_shape (store_of shapes []) n)

pub returns-in_err-s : goal.returns-in_err-s
returns-in_err-s c =
    let a = c.args in
    let r = c.in_err-s.field-0.0 in
    let p = err_from_is_err_and c.from_residual.result c.from_residual.ensures.1 in
    rw (p.1, p.2)
    (shape_refused (seen a.desk) a.shape a.room.now (to_z-of_z c.ranges.shape) (unless_left c.in_order.ensures c.if-not-in_order.false-raw)
    (number_of r) c.in_err-s.ensures.asked (λ e. omega (arith, e, number_some r)))

pub returns : goal.returns
returns c =
    let a = c.args in
    let w = c.write_shape in
    let is = c.in_ok-s.ensures.index ∙ ap nat_abs (to_z-of_z c.ranges.shape) in
    shape_written (seen a.desk) a.shape a.room.now (to_z-of_z c.ranges.shape) (unless_left c.in_order.ensures c.if-not-in_order.false-raw)
    0 c.in_ok-s.ensures.asked refl
    (subst (λ (n : ℕ). WrittenAs (room_refusals (text a.desk.shapes.now n) a.room.now) (text a.desk.shapes.now n) a.room.now w.new.room (written_of w.result)) is w.ensures)

-- `line_file::from_off` meets its contract: what the reader wrote behind the first cell are the corners of the text.
use mathlib.Core.Path.{refl}
use native.Mathlib.Omega.{arith}
use mir.Syntax.{w32}
use mir.ValLaws.{to_z-of_z}
use Rattle.off_read.proofs.RoomLaws.{read_within}
use Rattle.line_file.specs.RequestLaws.{text_behind}
use Rattle.line_file.proofs.from_off.Goals as goal

pub overflow_add-result : goal.overflow_add-result
overflow_add-result c = omega (arith, read_within c.in-Ok.ensures refl c.corners.auto.room)

pub returns-in-Ok : goal.returns-in-Ok
returns-in-Ok c = (
  to_z-of_z w32 c.args.shape c.ranges.shape,
  text_behind c.args.text.now c.args.numbers.now _ _ c.in-Ok.ensures refl (omega (arith, c.if-numbers-eq0.false)),
)

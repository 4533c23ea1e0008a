-- `line_file::from_stl` meets its contract: what the reader wrote behind the first cell are the corners of the file.
use Rattle.std.proofs.Common.{refl, arith}
use mir.Syntax.{w32}
use mir.ValLaws.{to_z-of_z}
use Rattle.line_file.specs.RequestLaws.{written_behind}
use Rattle.line_file.proofs.from_stl.Goals as goal

pub returns-in-Ok : goal.returns-in-Ok
returns-in-Ok c = (to_z-of_z w32 c.args.shape c.ranges.shape, written_behind c.args.file.now c.args.numbers.now _ _ c.in-Ok.ensures refl (omega (arith, c.if-numbers-eq0.false)))

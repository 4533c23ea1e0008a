-- `line_file::from_path` meets its contract: what was read of the file stands in the room, and is handed on to the reader of its kind.
use Rattle.std.specs.Prelude.{ℤ}
use Rattle.std.proofs.Common.{sym, subst}
use mir.Facts.{to_z-of_z}
use Rattle.line.specs.declared.kinds.FileKind.{FileKind}
use Rattle.line.specs.declared.kinds.FileKind.TheVariants.{Stl, Off}
use Rattle.line_file.specs.Requests.{OfFile}
use Rattle.line_file.proofs.from_path.Goals as goal

pub returns-in-Stl : goal.returns-in-Stl
returns-in-Stl o c =
    let f = c.from_stl in
    let read = subst (λ (s : ℤ). OfFile Stl s f.new.numbers f.result) (to_z-of_z c.ranges.shape) f.ensures in
    subst (λ (k : FileKind). OfFile k c.args.shape f.new.numbers f.result) (sym c.in-Stl.is) read

pub returns-in-Off : goal.returns-in-Off
returns-in-Off o c =
    let f = c.from_off in
    let read = subst (λ (s : ℤ). OfFile Off s f.new.numbers f.result) (to_z-of_z c.ranges.shape) f.ensures in
    subst (λ (k : FileKind). OfFile k c.args.shape f.new.numbers f.result) (sym c.in-Off.is) read

-- `line_file::requested` meets its contract: what is read of the file is for the shape that the line names.
use Rattle.std.specs.Prelude.{ℤ}
use Rattle.std.proofs.Common.{subst, arith}
use mir.Syntax.{w32}
use mir.Facts.{to_z-of_z}
use Rattle.ints.specs.Bounds.{fits_in}
use Rattle.line_file.specs.Requests.{OfFile}
use Rattle.line_file.specs.RequestLaws.{requests_file}
use Rattle.line_file.proofs.requested.Goals as goal

pub returns : goal.returns
returns o c =
    let a = c.args in
    let f = c.from_path in
    let names = c.in-At.ensures.0 in
    let same = to_z-of_z (fits_in w32 c.in-At.shape 2147483648 2147483647 names.reads.1 (omega arith) (omega arith)) in
    requests_file a.kind a.line.now f.new.numbers c.in-At.shape f.result names (subst (λ (s : ℤ). OfFile a.kind s f.new.numbers f.result) same f.ensures)

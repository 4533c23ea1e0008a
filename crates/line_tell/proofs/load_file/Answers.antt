-- `line_tell::load_file` meets its contract: the desk is told to load what was read, and else it is not told.
use Rattle.std.specs.Prelude.{refl, ℤ}
use Rattle.std.proofs.Common.{sym, subst, inl, inr, arith}
use mir.Syntax.{w32}
use mir.Val.{to_z, of_z}
use mir.Facts.{to_z-of_z}
use Rattle.ints.specs.Bounds.{fits_in}
use Rattle.line_file.specs.Requests.{Requests}
use Rattle.line_file.specs.declared.Request.TheVariants.{Load as Loading}
use Rattle.line_tell.proofs.load_file.Goals as goal

pub returns-in-Load-clause-does : goal.returns-in-Load-clause-does
returns-in-Load-clause-does o c =
    let a = c.args in
    let line = a.line.now in
    let told = c.in-Load in
    let numbers = c.requested.new.numbers in
    let asked = told.ensures in
    let same = to_z-of_z (fits_in w32 told.shape 2147483648 2147483647 asked.0.reads.1 (omega arith) (omega arith)) in
    inr (
      to_z w32 (of_z w32 told.shape),
      told.count,
      numbers,
      subst (λ (s : ℤ). Requests a.kind line numbers (Loading s told.count)) (sym same) asked,
      c.tell.ensures.does,
    )

pub returns-in-Refused-clause-does : goal.returns-in-Refused-clause-does
returns-in-Refused-clause-does o c = inl refl

pub returns-in-Bad-clause-does : goal.returns-in-Bad-clause-does
returns-in-Bad-clause-does o c = inl refl

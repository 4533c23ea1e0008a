-- `line_command::is_passed_over` meets its contract: a line of no bytes, or one whose first byte is 35.
use mathlib.Core.Path.{refl}
use native.Mathlib.Omega.{arith}
use borrow.Author.Tests.{eqb-true, eq-eqb}
use Rattle.line_command.specs.LineLaws.{passed_first, passed_is, passed_none}
use Rattle.line_command.proofs.is_passed_over.Goals as goal

pub returns-then-line-eq0 : goal.returns-then-line-eq0
returns-then-line-eq0 c = (λ _. passed_none c.args.line.now c.if-line-eq0.true, λ _. refl)

pub returns : goal.returns
returns c =
    let s = c.args.line.now in
    (λ e. passed_first s (omega (arith, c.if-line-eq0.false)) (eqb-true _ 35 e), λ p. eq-eqb _ 35 (passed_is s (omega (arith, c.if-line-eq0.false)) p))

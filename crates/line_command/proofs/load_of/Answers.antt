-- `line_command::load_of` meets its contract: the first number is the shape's.
use mathlib.Core.Path.{ap, ◌∙◌}
use lib.ListN.{length}
use mir.Syntax.{w32}
use Rattle.ints.specs.Bounds.{element}
use Rattle.line_command.specs.Lines.{at}
use Rattle.line_command.specs.LineLaws.{load_none, load_some}
use Rattle.desk.specs.declared.Command.TheVariants.{Load}
use Rattle.line_command.specs.declared.Line.TheVariants.{Tell}
use Rattle.line_command.proofs.load_of.Goals as goal

pub returns-then-numbers-eq0 : goal.returns-then-numbers-eq0
returns-then-numbers-eq0 c = load_none c.args.numbers.now c.if-numbers-eq0.true

pub returns : goal.returns
returns c =
    let ns = c.args.numbers.now in
    ap (λ s. Tell (Load s) (length ns)) (element w32 (at ns 0) c.result-1.given) ∙ load_some ns c.if-numbers-eq0.false

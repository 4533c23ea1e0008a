-- `line_command::setting_of` meets its contract: one number.
use mir.Syntax.{w32}
use Rattle.ints.specs.Bounds.{element}
use Rattle.line_command.specs.Lines.{at}
use Rattle.line_command.specs.LineLaws.{takes_as, takes_not}
use Rattle.line_command.proofs.setting_of.Goals as goal

pub returns-then-numbers-ne-GAP_NUMBERS : goal.returns-then-numbers-ne-GAP_NUMBERS
returns-then-numbers-ne-GAP_NUMBERS c = takes_not 1 _ _ c.if-numbers-ne-GAP_NUMBERS.true

pub returns : goal.returns
returns c =
    let ns = c.args.numbers.now in
    rw (element w32 (at ns 0) c.result-1.given)
    (takes_as 1 ns _ c.if-numbers-ne-GAP_NUMBERS.false)

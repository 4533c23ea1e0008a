-- `line_command::pair_of` meets its contract: two numbers, the first one first.
use mir.Syntax.{w32}
use Rattle.ints.specs.Bounds.{element}
use Rattle.line_command.specs.Lines.{at}
use Rattle.line_command.specs.LineLaws.{takes_as, takes_not}
use Rattle.line_command.proofs.pair_of.Goals as goal

pub returns-then-numbers-ne-PAIR_NUMBERS : goal.returns-then-numbers-ne-PAIR_NUMBERS
returns-then-numbers-ne-PAIR_NUMBERS c = takes_not 2 _ _ c.if-numbers-ne-PAIR_NUMBERS.true

pub returns : goal.returns
returns c =
    let ns = c.args.numbers.now in
    rw (element w32 (at ns 0) c.result-1.given, element w32 (at ns 1) c.result-2-1.given)
    (takes_as 2 ns _ c.if-numbers-ne-PAIR_NUMBERS.false)

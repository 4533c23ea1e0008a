-- `line_command::move_of` meets its contract: five numbers, each at its own place.
use mir.Syntax.{w32}
use Rattle.ints.specs.Bounds.{element}
use Rattle.line_command.specs.Lines.{at}
use Rattle.line_command.specs.LineLaws.{takes_as, takes_not}
use Rattle.line_command.proofs.move_of.Goals as goal

pub returns-then-numbers-ne-MOVE_NUMBERS : goal.returns-then-numbers-ne-MOVE_NUMBERS
returns-then-numbers-ne-MOVE_NUMBERS c = takes_not 5 _ _ c.if-numbers-ne-MOVE_NUMBERS.true

pub returns : goal.returns
returns c =
    let ns = c.args.numbers.now in
    rw (
      element w32 (at ns 0) c.result-1.given,
      element w32 (at ns 1) c.result-2-1.given,
      element w32 (at ns 2) c.o-1.given,
      element w32 (at ns 3) c.o-2-1.given,
      element w32 (at ns 4) c.o-3-1.given,
    )
    (takes_as 5 ns _ c.if-numbers-ne-MOVE_NUMBERS.false)

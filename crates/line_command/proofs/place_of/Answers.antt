-- `line_command::place_of` meets its contract: six numbers, each at its own place.
use mir.Syntax.{w32}
use Rattle.ints.specs.Bounds.{element}
use Rattle.line_command.specs.Lines.{at}
use Rattle.line_command.specs.LineLaws.{takes_as, takes_not}
use Rattle.line_command.proofs.place_of.Goals as goal

pub returns-then-numbers-ne-PLACE_NUMBERS : goal.returns-then-numbers-ne-PLACE_NUMBERS
returns-then-numbers-ne-PLACE_NUMBERS c = takes_not 6 _ _ c.if-numbers-ne-PLACE_NUMBERS.true

pub returns : goal.returns
returns c =
    let ns = c.args.numbers.now in
    rw (
      element w32 (at ns 0) c.result-1.given,
      element w32 (at ns 1) c.q-1.given,
      element w32 (at ns 2) c.q-2-1.given,
      element w32 (at ns 3) c.q-3-1.given,
      element w32 (at ns 4) c.q-4-1.given,
      element w32 (at ns 5) c.q-5-1.given,
    )
    (takes_as 6 ns _ c.if-numbers-ne-PLACE_NUMBERS.false)

-- `line_command::alone` meets its contract: the word takes no number.
use Rattle.line_command.specs.LineLaws.{takes_as, takes_not}
use Rattle.line_command.proofs.alone.Goals as goal

pub returns-then-numbers-ne0 : goal.returns-then-numbers-ne0
returns-then-numbers-ne0 c = takes_not 0 _ _ c.if-numbers-ne0.true

pub returns : goal.returns
returns c = takes_as 0 _ _ c.if-numbers-ne0.false

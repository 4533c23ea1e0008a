-- `line_tell::behind_first` meets its contract: the numbers that there are, without the first.
use Rattle.line_tell.specs.TellsLaws.{first-none, first_rest}
use Rattle.line_tell.proofs.behind_first.Goals as goal

pub returns-then-end-eq0 : goal.returns-then-end-eq0
returns-then-end-eq0 c = let a = c.args in first-none a.numbers.now a.count _ c.at_most-end.ensures.is c.if-end-eq0.true

pub returns : goal.returns
returns c = let a = c.args in first_rest a.numbers.now a.count _ c.at_most-end.ensures.is c.if-end-eq0.false

-- `line::parts::numbers_behind` meets its contract: where the line ends at the word nothing is behind it, and else the words are read.
use Rattle.line.specs.BehindLaws.{numbers-none, numbers_listed}
use Rattle.line.proofs.parts.numbers_behind.Goals as goal

pub returns-then-line-end : goal.returns-then-line-end
returns-then-line-end c = let a = c.args in numbers-none a.line.now a.end a.room.now c.if-line-end.true

pub returns : goal.returns
returns c =
    let a = c.args in
    numbers_listed a.line.now a.end a.room.now c.read_numbers.new.room c.read_numbers.result c.if-line-end.false c.read_numbers.ensures

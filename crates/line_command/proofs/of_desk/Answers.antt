-- `line_command::of_desk` meets its contract: the numbers that were read stand in the room.
use Rattle.std.specs.Prelude.{◌-◌, refl}
use Rattle.std.proofs.Common.{inr, arith}
use Rattle.line.specs.Behind.{behind}
use Rattle.line_command.specs.LineLaws.{desk_numbers}
use Rattle.line_command.proofs.of_desk.Goals as goal

pub returns-in_default : goal.returns-in_default
returns-in_default c = inr (c.in_default.ensures, refl)

pub returns : goal.returns
returns c =
    let a = c.args in
    desk_numbers a.word.now (behind a.line.now a.end) a.numbers.now c.numbers_behind.new.room c.in-Some.n c.numbered.result c.in-Some.ensures {k = c.in-Some.n - 0} (omega arith) c.numbered.ensures

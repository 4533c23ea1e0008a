-- `line_ask::asked::all_marks` leaves the buffer the caller's, however much of the answer is put.
use Rattle.line.specs.Printed.{SameOut}
use Rattle.line_ask.proofs.asked.all_marks.Given as goal

abbrev pub invariant-loop-mark : goal.invariant-loop-mark
invariant-loop-mark l = SameOut l.initial.out l.out

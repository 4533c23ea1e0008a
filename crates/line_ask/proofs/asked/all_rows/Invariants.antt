-- `line_ask::asked::all_rows` leaves the buffer the caller's, however much of the answer is put.
use Rattle.line.specs.Printed.{SameOut}
use Rattle.line_ask.proofs.asked.all_rows.Given as goal

abbrev pub invariant-loop-k : goal.invariant-loop-k
invariant-loop-k l = SameOut l.initial.out l.out

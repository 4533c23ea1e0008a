-- `line_ask::asked::listed` leaves the buffer the caller's, however much of the answer is put.
use Rattle.line.specs.Printed.{SameOut}
use Rattle.line_ask.proofs.asked.listed.Given as goal

abbrev pub invariant-loop-byte : goal.invariant-loop-byte
invariant-loop-byte l = SameOut l.initial.out l.out

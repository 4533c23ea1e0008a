-- `line_verdict::witnessed` leaves the buffer the caller's, pair by pair.
use Rattle.line.specs.Printed.{SameOut}
use Rattle.line_verdict.proofs.witnessed.Given as goal

abbrev pub invariant-loop-pair : goal.invariant-loop-pair
invariant-loop-pair l = SameOut l.initial.out l.out

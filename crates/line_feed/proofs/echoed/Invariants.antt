-- `line_feed::echoed` leaves the buffer the caller's, byte by byte of the line.
use Rattle.line.specs.Printed.{SameOut}
use Rattle.line_feed.proofs.echoed.Given as goal

abbrev pub invariant-loop-byte : goal.invariant-loop-byte
invariant-loop-byte l = SameOut l.initial.out l.out

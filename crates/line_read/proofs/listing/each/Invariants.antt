-- `line_read::listing::each` leaves the buffer the caller's, number by number.
use Rattle.line.specs.Printed.{SameOut}
use Rattle.line_read.proofs.listing.each.Given as goal

abbrev pub invariant-loop-number : goal.invariant-loop-number
invariant-loop-number l = SameOut l.initial.out l.out

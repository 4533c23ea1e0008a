-- `line_ask::report::decimals` stays in range: what is left is less than a millimetre. The buffer is left the caller's, digit by digit.
use Rattle.std.proofs.Common.{◌<◌}
use Rattle.line.specs.Printed.{SameOut}
use Rattle.line_ask.proofs.report.decimals.Given as goal

abbrev pub invariant-loop : goal.invariant-loop
invariant-loop l = (l.left < 64) × SameOut l.initial.out l.out

-- `rows::wrong_in_line`: what was gathered is 0 exactly when the cells so far are right.
use Rattle.std.proofs.Common.{eqb}
use Rattle.limits.specs.Decides.{Decides}
use Rattle.rows.specs.Masks.{LineMasked}
use Rattle.rows.proofs.wrong_in_line.Given as goal

abbrev pub invariant-loop-high : goal.invariant-loop-high
invariant-loop-high l = Decides (eqb l.wrong 0) (LineMasked l.mask l.own l.low l.rows l.high)

-- `off_number::plain` meets its contract: a number starts with a digit.
use native.Mathlib.Omega.{arith}
use Rattle.off_number.proofs.ReadingLaws.{no_digits}
use Rattle.off_number.proofs.plain.Goals as goal

pub returns-then-whole-eq0 : goal.returns-then-whole-eq0
returns-then-whole-eq0 c = no_digits c.args.text.now (omega (arith, c.digits-whole.ensures.count, c.if-whole-eq0.true))

-- Each of the two own marks counts 1 where its two tests differ.
use Rattle.std.proofs.Common.{arith}
use Rattle.marks_count.proofs.count.crossed_by.Goals as goal

pub returns : goal.returns
returns c = omega (arith, c.differs-low.ensures.0, c.differs-high.ensures.0)

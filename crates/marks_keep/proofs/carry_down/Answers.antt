-- The cells without the gap stay the same list.
use Rattle.std.proofs.Common.{arith, length-set, ◌∙◌}
use Rattle.marks_keep.proofs.Loops.{down_more}
use Rattle.marks_keep.proofs.carry_down.Goals as goal

pub loop-below-preserved : goal.loop-below-preserved
loop-below-preserved c =
    let l = c.loop-below in
    (omega arith, length-set l.part _ _ ∙ l.invariant.1, down_more l.below l.part _ (omega arith) (omega arith) l.invariant.2)

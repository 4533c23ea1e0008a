-- The cells without the gap stay the same list, and what was passed has a smaller key.
use Rattle.std.proofs.Common.{arith, length-set, ◌∙◌}
use Rattle.marks.specs.Keys.{key_of}
use Rattle.marks_keep.proofs.Loops.{up_more, passed_is}
use Rattle.marks_keep.proofs.carry_up.Goals as goal

pub loop-above-preserved : goal.loop-above-preserved
loop-above-preserved c =
    let l = c.loop-above in
    let a = c.args in (
      omega arith,
      length-set l.part _ _ ∙ l.invariant.1,
      up_more l.above l.part _ (omega arith) (omega arith) l.invariant.2,
      λ _ p y. passed_is (key_of a.keys.now) a.key p l.above _ l.part (omega arith) (omega arith) (omega (arith, c.if-key-key_of.false, c.key_of.ensures)) y,
    )

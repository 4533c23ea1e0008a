-- As many keys are below no_key as there are marks, and no more than there are keys.
use Rattle.std.proofs.Common.{◌∙◌, ap, arith, take_all, ltb, count_by}
use Rattle.marks.specs.Keys.{no_key}
use Rattle.marks_test.proofs.Loops.{counted_is}
use Rattle.marks_test.proofs.marks_in.Goals as goal

pub returns : goal.returns
returns c =
    let k = c.args.keys.now in
    let l = c.loop-key in
    (l.invariant.1 ∙ ap (count_by (λ x. ltb x no_key)) (take_all l.key-index k (omega arith)) ∙ counted_is k c.told-keys, omega arith)

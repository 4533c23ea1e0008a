-- The count below the own two marks and the count above them are the count of the definition.
use native.Mathlib.Omega.{arith}
use mathlib.Core.Path.{◌∙◌}
use Rattle.marks.proofs.ChangedLaws.{true_count}
use Rattle.marks.proofs.ChangedLaws.{in_two, changed_keys≤}
use Rattle.marks_count.proofs.count.count_changed.Goals as goal

pub returns : goal.returns
returns c =
    let a = c.args in
    let was = c.keys_at-was in
    let is = c.keys_at-is in
    let below = c.count_between-below in
    let above = c.count_between-above in
    let e = in_two a.old.now a.new.now a.place c.requires was.result is.result was.ensures is.ensures below.result above.result below.ensures.1 above.ensures.1 in
    record {
      is = e;
      most = omega (arith, e, changed_keys≤ a.old.now a.new.now a.place c.requires);
      true_count = λ o n ho hn st h i. e ∙ true_count o n a.old.now a.new.now a.place c.requires ho hn st h i;
    }

-- Each round adds what one mark counts.
use Rattle.std.proofs.Common.{◌≤◌, arith, get_or}
use Rattle.ints.specs.Counts.{sum_more}
use Rattle.marks.specs.Changed.{crossed_with}
use Rattle.marks.proofs.ChangedLaws.{crossed≤}
use Rattle.marks_count.proofs.count.count_between.Goals as goal

pub loop-other-preserved : goal.loop-other-preserved
loop-other-preserved c =
    let l = c.loop-other in
    let a = c.args in
    let two : c.crossed_by-n.result ≤ 2 = omega (arith, c.crossed_by-n.ensures, crossed≤ a.was a.is (get_or a.old.now l.other 0) (get_or a.new.now l.other 0)) in
    let more = sum_more l.other (crossed_with a.old.now a.new.now a.was a.is) in
    (omega arith, omega (arith, c.crossed_by-n.ensures))

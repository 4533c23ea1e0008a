-- `rows_tally::tally_of`: a line more, and all lines are the rows.
use Rattle.std.proofs.Common.{refl, arith, take, length-take}
use Rattle.limits.specs.Limits
use Rattle.rows.specs.Rows.{cell}
use Rattle.ints.specs.Counts.{count_of}
use Rattle.rows_tally.specs.Counting.{lines_more, count_most}
use Rattle.rows_tally.proofs.tally_of.Goals as goal

pub loop-low-init : goal.loop-low-init
unfolding count_of
loop-low-init c = refl

pub overflow_add-n : goal.overflow_add-n
overflow_add-n c =
    let l = c.loop-low in
    let a = c.args in
    omega (arith, c.from-n.ensures, c.tally_in_line.ensures, count_most a.verdict (take (cell l.low Limits.places) a.rows.now), length-take (cell l.low Limits.places) a.rows.now)

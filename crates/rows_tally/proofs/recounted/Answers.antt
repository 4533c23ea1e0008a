-- `rows_tally::recounted`: a tally more is counted, and so many rows fewer are left.
use Rattle.std.proofs.Common.{◌≤◌, arith}
use Rattle.limits.specs.Limits
use Rattle.ints.specs.Counts.{sum_none, sum_more, count_of}
use Rattle.rows_tally.specs.Sums.{sum_part}
use Rattle.rows_tally.specs.Counting.{book_none, book_more}
use Rattle.rows_tally.proofs.recounted.Goals as goal

pub loop-verdict-init : goal.loop-verdict-init
loop-verdict-init c = record { book = book_none _; left = omega (arith, sum_none (λ v. count_of v c.args.rows.now)) }

pub tally_left-n-requires : goal.tally_left-n-requires
tally_left-n-requires c =
    let l = c.loop-verdict in
    omega (arith, c.requires, l.invariant.left, sum_part Limits.tallies (λ v. count_of v c.args.rows.now) l.verdict c.loop-verdict-test.true)

pub overflow_sub-left : goal.overflow_sub-left
overflow_sub-left c =
    let l = c.loop-verdict in
    omega (arith, c.tally_left-n.ensures, c.requires, l.invariant.left, sum_part Limits.tallies (λ v. count_of v c.args.rows.now) l.verdict c.loop-verdict-test.true)

pub loop-verdict-preserved : goal.loop-verdict-preserved
loop-verdict-preserved c =
    let l = c.loop-verdict in
    let e = c.tally_left-n.ensures in
    record {
      book = book_more (omega arith) e l.invariant.book;
      left = omega (
        arith,
        l.invariant.left,
        e,
        c.requires,
        sum_part Limits.tallies (λ v. count_of v c.args.rows.now) l.verdict c.loop-verdict-test.true,
        sum_more l.verdict (λ v. count_of v c.args.rows.now),
      );
    }

-- `rows_tally::recounted`: the tallies below `verdict` are counted, the rest is 0 still, and `left` is what is to come.
use Rattle.std.proofs.Common.{◌≡◌, ◌+◌}
use Rattle.ints.specs.Counts.{sum_to, count_of}
use Rattle.rows_tally.specs.Counting.{BookTo}
use Rattle.rows_tally.proofs.recounted.Given as goal

abbrev pub invariant-loop-verdict : goal.invariant-loop-verdict
invariant-loop-verdict l = record {
  book : BookTo l.verdict l.rows l.book;
  left : l.many ≡ l.left + sum_to l.verdict (λ v. count_of v l.rows);
}

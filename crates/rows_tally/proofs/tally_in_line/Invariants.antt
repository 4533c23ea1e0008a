-- `rows_tally::tally_in_line`: the rows up to the cell that is looked at hold the verdict n times more than those before the line.
use Rattle.std.proofs.Common.{◌≡◌, ◌+◌, ◌≤◌, take}
use Rattle.ints.specs.Counts.{count_of}
use Rattle.rows.specs.Rows.{cell}
use Rattle.rows_tally.proofs.tally_in_line.Given as goal

abbrev pub invariant-loop-v : goal.invariant-loop-v
invariant-loop-v l = record {
  most : l.n ≤ l.v-index;
  is : count_of l.verdict (take (cell l.low l.v-index) l.rows) ≡ count_of l.verdict (take (cell l.low 0) l.rows) + l.n;
}

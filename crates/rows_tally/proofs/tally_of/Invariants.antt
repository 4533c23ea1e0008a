-- `rows_tally::tally_of`: n is how often the lines so far hold the verdict.
use Rattle.std.proofs.Common.{◌≡◌, take}
use Rattle.ints.specs.Counts.{count_of}
use Rattle.rows.specs.Rows.{cell}
use Rattle.rows_tally.proofs.tally_of.Given as goal

abbrev pub invariant-loop-low : goal.invariant-loop-low
invariant-loop-low l = l.n ≡ count_of l.verdict (take (cell l.low 0) l.rows)

-- `rows_tally::taken_places`: the places so far are counted, at most one each.
use Rattle.std.proofs.Common.{◌≡◌, ◌≤◌}
use Rattle.ints.specs.Counts.{sum_to}
use Rattle.rows_tally.specs.Tallies.{one_if_taken}
use Rattle.rows_tally.proofs.taken_places.Given as goal

abbrev pub invariant-loop-place : goal.invariant-loop-place
invariant-loop-place l = record {
  most : l.n ≤ l.place;
  is : l.n ≡ sum_to l.place (one_if_taken l.places);
}

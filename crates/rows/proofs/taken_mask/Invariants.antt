-- `rows::taken_mask`: the bytes of the places so far are theirs, and the others NO_ROW still.
use Rattle.std.proofs.Common.{◌≡◌, ℕ, ◌<◌, length, get_or, ◌≤◌}
use Rattle.limits.specs.Limits
use Rattle.rows.specs.Masks.{MaskOf}
use Rattle.rows.proofs.taken_mask.Given as goal

abbrev pub invariant-loop-place : goal.invariant-loop-place
invariant-loop-place l = record {
  long : length l.mask ≡ Limits.places;
  made : (i : ℕ) → i < l.place → MaskOf l.places i (get_or l.mask i 0);
  rest : (i : ℕ) → l.place ≤ i → i < Limits.places → get_or l.mask i 0 ≡ Limits.no_row;
}

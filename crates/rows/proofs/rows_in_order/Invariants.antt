-- `rows::rows_in_order`: the mask is that of the places from `low` on, and what was gathered is 0 exactly when the lines so far are in order.
use Rattle.std.proofs.Common.{ℕ, ◌<◌, eqb}
use Rattle.limits.specs.Decides.{Decides}
use Rattle.rows.specs.Cells.{LineInOrder}
use Rattle.rows.specs.Masks.{MaskFrom}
use Rattle.rows.proofs.rows_in_order.Given as goal

abbrev pub invariant-loop-low : goal.invariant-loop-low
invariant-loop-low l = record {
  mask : MaskFrom l.places l.low l.mask;
  wrong : Decides (eqb l.wrong 0) ((i : ℕ) → i < l.low → LineInOrder l.places l.rows i);
}

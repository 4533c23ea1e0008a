-- `pieces::placed::numbers_of`: the first k numbers are those of the definition, and the others 0.
use Rattle.std.proofs.Common.{◌≡◌, ◌-◌, ◌/◌, ◌%◌, length, take, drop, replicate, pos}
use Rattle.limits.specs.Limits
use Rattle.pieces.specs.Pieces.{list_to}
use Rattle.pieces.specs.Placed.{number_at}
use Rattle.pieces.proofs.placed.numbers_of.Given as goal

abbrev pub invariant-loop-k : goal.invariant-loop-k
invariant-loop-k l = record {
  long : length l.numbers ≡ Limits.shape_numbers;
  made : take l.k l.numbers ≡ list_to l.k (λ j. number_at l.shapes l.places l.pose l.place (j / 3) (j % 3));
  rest : drop l.k l.numbers ≡ replicate (Limits.shape_numbers - l.k) (pos 0);
}

-- `pieces::placed::numbers_of`: a number more is stored.
use Rattle.std.proofs.Common.{◌≡◌, ℤ, refl, ◌/◌, ◌%◌, ◌∙◌, w32, to_z, of_z, length-set, arith}
use Rattle.ints.specs.Bounds.{worth, k_back, k_within}
use Rattle.limits.specs.Limits
use Rattle.pieces.specs.Pieces.{list_to}
use Rattle.pieces.specs.Placed.{number_at, stored_more, zeros_more}
use Rattle.pieces.proofs.placed.numbers_of.Goals as goal

pub loop-k-init : goal.loop-k-init
unfolding list_to
loop-k-init c = record { long = refl; made = refl; rest = refl }

pub loop-k-preserved : goal.loop-k-preserved
loop-k-preserved c =
    let a = c.args in
    let l = c.loop-k in
    let v : to_z w32 (of_z w32 c.placed_number.result) ≡ c.placed_number.result = worth (k_back w32 _ (k_within c.placed_number.ensures.1)) tt in
    record {
      long = length-set l.numbers l.k _ ∙ l.invariant.long;
      made = stored_more l.numbers l.k (λ j. number_at a.shapes.now a.places.now a.pose a.place (j / 3) (j % 3)) _ (omega arith) l.invariant.made (v ∙ c.placed_number.ensures.0);
      rest = zeros_more l.numbers l.k Limits.shape_numbers _ (omega arith) l.invariant.rest;
    }

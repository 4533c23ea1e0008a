-- `pieces::placed::piece_numbers`: the numbers by the pose are those of the store.
use Rattle.std.proofs.Common.{subst}
use Rattle.pieces.specs.Pieces.{store_of}
use Rattle.pieces.specs.Placed.{NumbersOf}
use Rattle.pieces.specs.NumberLaws.{numbers_of_lem}
use Rattle.pieces.proofs.placed.piece_numbers.Goals as goal

pub returns : goal.returns
returns c =
    let a = c.args in
    numbers_of_lem (store_of a.shapes.now a.places.now) a.place _
    (subst (λ p. NumbersOf a.shapes.now a.places.now p a.place c.numbers_of.result) c.pose_of.ensures c.numbers_of.ensures)

-- `space::Vec3::neg`: every coordinate is known by the ranges of the two vectors, and so is its bound.
use Rattle.space.specs.Ranges.{made}
use Rattle.ints.proofs.Known.{known}
use Rattle.space.proofs.Vec3Neg.neg.Goals as goal

pub returns : goal.returns
returns c = made _ (search known depth 15) (search known depth 15) (search known depth 15) tt

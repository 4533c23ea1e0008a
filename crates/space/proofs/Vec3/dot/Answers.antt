-- `space::dot`: each product and each sum fits, by the ranges of the two vectors.
use Rattle.ints.specs.Bounds.{fits, worth}
use Rattle.ints.proofs.Known.{known}
use Rattle.space.proofs.Vec3.dot.Goals as goal

pub overflow_add-result : goal.overflow_add-result
overflow_add-result c = fits (search known depth 15) tt

pub overflow_mul-result-3 : goal.overflow_mul-result-3
overflow_mul-result-3 c = fits (search known depth 15) tt

pub overflow_add-result-2 : goal.overflow_add-result-2
overflow_add-result-2 c = fits (search known depth 15) tt

pub returns : goal.returns
returns c = worth (search known depth 25) tt

-- `space::cross`: every coordinate is known by the ranges of the two vectors, and so is its bound.
use Rattle.space.specs.Ranges.{made}
use Rattle.ints.specs.Bounds.{fits}
use Rattle.ints.proofs.Known.{known}
use Rattle.space.proofs.Vec3.cross.Goals as goal

pub overflow_sub-result : goal.overflow_sub-result
overflow_sub-result c = fits (search known depth 15) tt

pub overflow_mul-result-3 : goal.overflow_mul-result-3
overflow_mul-result-3 c = fits (search known depth 15) tt

pub overflow_mul-result-4 : goal.overflow_mul-result-4
overflow_mul-result-4 c = fits (search known depth 15) tt

pub overflow_sub-result-2 : goal.overflow_sub-result-2
overflow_sub-result-2 c = fits (search known depth 15) tt

pub overflow_mul-result-5 : goal.overflow_mul-result-5
overflow_mul-result-5 c = fits (search known depth 15) tt

pub overflow_mul-result-6 : goal.overflow_mul-result-6
overflow_mul-result-6 c = fits (search known depth 15) tt

pub overflow_sub-result-3 : goal.overflow_sub-result-3
overflow_sub-result-3 c = fits (search known depth 15) tt

pub returns : goal.returns
returns c = made _ (search known depth 15) (search known depth 15) (search known depth 15) tt

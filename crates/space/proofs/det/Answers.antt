-- `space::det`: the two kernels' ranges hold, and the dot of the cross product is the determinant by definition.
use mathlib.Core.Path.{ap, ◌∙◌}
use mir.Syntax.{w64}
use Rattle.ints.specs.Bounds.{worth, k_back, k-is}
use Rattle.ints.proofs.Known.{known}
use Rattle.space.specs.Vectors.{dot}
use Rattle.space.specs.Ranges.{upto_le}
use Rattle.space.proofs.det.Goals as goal

pub cross-requires : goal.cross-requires
cross-requires c = (upto_le tt c.requires.0, upto_le tt c.requires.1)

pub dot-requires : goal.dot-requires
dot-requires c = (upto_le tt c.cross.ensures.1, upto_le tt c.requires.2)

pub returns : goal.returns
returns c =
    worth (k_back w64 c.dot.result (k-is c.dot.ensures (search known depth 15))) tt
    ∙ ap (λ v. dot v c.args.c) c.cross.ensures.0

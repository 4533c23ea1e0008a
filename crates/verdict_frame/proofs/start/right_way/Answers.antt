-- `verdict_frame::right_way`: the sign of the portal's determinant.
use mathlib.Core.Path.{ap}
use lib.IntN.{pos}
use lib.Signed.{lt_z}
use Rattle.verdict_walk.specs.GatherLaws.{weight_is, weight_within}
use Rattle.verdict_frame.proofs.start.right_way.Goals as goal

pub returns : goal.returns
returns c =
    ap (λ z. lt_z z (pos 0))
    (weight_is c.det.ensures (weight_within c.requires.ina c.requires.inb c.requires.inc))

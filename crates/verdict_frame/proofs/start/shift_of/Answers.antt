-- `verdict_frame::shift_of`: two sums.
use mathlib.Core.Path.{ap, ◌∙◌}
use Rattle.space.specs.Vectors.{plus}
use Rattle.space.specs.Ranges.{upto_le}
use Rattle.verdict_frame.specs.FrameLaws.{sum_upto}
use Rattle.verdict_frame.proofs.start.shift_of.Goals as goal

pub add-requires-2 : goal.add-requires-2
add-requires-2 c =
    (sum_upto tt c.requires.ina c.requires.inb c.add.ensures.0, upto_le tt c.requires.inc)

pub returns : goal.returns
returns c = c.add-2.ensures.0 ∙ ap (λ v. plus v c.args.v.c) c.add.ensures.0

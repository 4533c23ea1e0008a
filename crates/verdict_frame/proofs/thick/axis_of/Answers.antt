-- `verdict_frame::axis_of`: the tests compare bits, and a field's bits are its number.
use Rattle.ints.specs.Bounds.{within_le}
use Rattle.verdict_portal.specs.Rounds.{zero_bits}
use Rattle.verdict_frame.specs.FrameLaws.{axis_last}
use mathlib.Core.Path.{ap}
use mir.Syntax.{w64}
use mir.Val.{of_z}
use Rattle.verdict_frame.proofs.thick.axis_of.Goals as goal

pub returns-then-v-ne0 : goal.returns-then-v-ne0
returns-then-v-ne0 c = record { other = λ f e. c.if-v-ne0.true (ap (of_z w64) e) }

pub returns-then-v-ne0-2 : goal.returns-then-v-ne0-2
returns-then-v-ne0-2 c = record { other = λ f e. c.if-v-ne0-2.true (ap (of_z w64) e) }

pub returns : goal.returns
returns c =
    axis_last (zero_bits (within_le tt c.requires.ux) c.if-v-ne0.false) (zero_bits (within_le tt c.requires.uy) c.if-v-ne0-2.false)

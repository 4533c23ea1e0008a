-- `verdict_frame::in_a_plane`: the frame of the definition, at the axis that was found.
use mathlib.Core.Path.{ap, ◌∙◌}
use Rattle.space.specs.Vectors.{opposite}
use Rattle.space.specs.Ranges.{upto_le}
use Rattle.verdict_frame.specs.Frames.{thick_of}
use Rattle.verdict_frame.specs.FrameLaws.{minus_upto, frame_eq, origin_upto}
use Rattle.verdict_frame.proofs.thick.in_a_plane.Goals as goal

pub thick-requires-3 : goal.thick-requires-3
thick-requires-3 c = (upto_le tt c.requires.0, minus_upto tt (origin_upto 1) c.unit-e.ensures.1 c.neg.ensures.0)

pub returns : goal.returns
returns c = record {
  axis_is = c.axis_of.result;
  of = c.axis_of.ensures;
  is =
      frame_eq c.unit-e.ensures.0
      (c.thick.ensures ∙ ap (thick_of c.args.a) c.unit-e.ensures.0)
      (c.thick-2.ensures ∙ ap (thick_of c.args.b) c.unit-e.ensures.0)
      (c.thick-3.ensures ∙ ap (thick_of c.args.a)
      (c.neg.ensures.0 ∙ ap opposite c.unit-e.ensures.0));
}

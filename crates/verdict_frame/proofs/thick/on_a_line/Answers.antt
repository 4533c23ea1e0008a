-- `verdict_frame::on_a_line`: the frame of the definition, at the axis that was found.
use mathlib.Core.Path.{ap, ap₂, ◌∙◌}
use Rattle.space.specs.Vectors.{plus, minus}
use Rattle.space.specs.Ranges.{upto_le}
use Rattle.space.specs.Vectors.{unit, next_axis}
use Rattle.verdict_frame.specs.Frames.{thick_of}
use Rattle.verdict_frame.specs.FrameLaws.{sum_upto, minus_upto, frame_eq}
use Rattle.verdict_frame.proofs.thick.on_a_line.Goals as goal

pub thick-requires : goal.thick-requires
thick-requires c =
    (upto_le tt c.requires, sum_upto tt c.unit-e.ensures.1 c.unit-f.ensures.1 c.add-widths.ensures.0)

pub thick-requires-2 : goal.thick-requires-2
thick-requires-2 c = (
  upto_le tt c.requires,
  minus_upto tt c.unit-f.ensures.1
      c.unit-e.ensures.1 c.sub.ensures.0,
)

pub sub-requires-2 : goal.sub-requires-2
sub-requires-2 c = (upto_le tt c.unit-e.ensures.1, upto_le tt c.unit-f.ensures.1)

pub thick-requires-3 : goal.thick-requires-3
thick-requires-3 c = (
  upto_le tt c.requires,
  minus_upto tt
      c.unit-e.ensures.1 c.unit-f.ensures.1 c.sub-2.ensures.0,
)

pub returns : goal.returns
returns c =
    let ej = c.next-j.ensures in
    let e = c.unit-e.ensures.0 ∙ ap unit ej in
    let f = c.unit-f.ensures.0 ∙ ap unit (c.next.ensures ∙ ap next_axis ej) in
    let g = c.add-widths.ensures.0 ∙ ap₂ plus e f in
    let a = c.args.a in
    record {
      axis_is = c.axis_of.result;
      of = c.axis_of.ensures;
      is =
          frame_eq g (c.thick.ensures ∙ ap (thick_of a) g)
          (c.thick-2.ensures ∙ ap (thick_of a) (c.sub.ensures.0 ∙ ap₂ minus f e))
          (c.thick-3.ensures ∙ ap (thick_of a) (c.sub-2.ensures.0 ∙ ap₂ minus e f));
    }

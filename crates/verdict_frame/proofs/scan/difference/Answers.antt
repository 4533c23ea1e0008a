-- `verdict_frame::difference`: the two corners' difference, with their numbers.
use mathlib.Core.Path.{refl, ap₂, ◌∙◌}
use Rattle.space.specs.Vectors.{minus}
use Rattle.verdict_frame.specs.FrameLaws.{point_eq}
use Rattle.verdict_frame.proofs.scan.difference.Goals as goal

pub returns : goal.returns
returns c = point_eq (c.sub.ensures.0 ∙ ap₂ minus c.corner.ensures.0 c.corner-2.ensures.0) refl

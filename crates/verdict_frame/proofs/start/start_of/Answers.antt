-- `verdict_frame::start_of`: the frame's three points, or two of them exchanged.
use mathlib.Core.Path.{refl, sym, ap, ◌∙◌, subst}
use mathlib.Core.Logic.{inl, inr}
use lib.IntN.{pos}
use lib.Signed.{lt_z}
use Rattle.space.specs.Vectors.{det}
use Rattle.verdict_portal.specs.Rounds.{said, unsaid}
use Rattle.verdict_walk.specs.Ends.{Corners}
use Rattle.verdict_frame.proofs.start.start_of.Goals as goal

pub right_way-requires : goal.right_way-requires
right_way-requires c = subst Corners (sym c.frame_places.ensures) c.requires

pub returns-then-right_way : goal.returns-then-right_way
returns-then-right_way c = inl (said (c.right_way.ensures ∙ ap (λ v. lt_z (det v.a v.b v.c) (pos 0)) c.frame_places.ensures) c.if-right_way.true, refl)

pub returns : goal.returns
returns c = inr (unsaid (c.right_way.ensures ∙ ap (λ v. lt_z (det v.a v.b v.c) (pos 0)) c.frame_places.ensures) c.if-right_way.false, refl)

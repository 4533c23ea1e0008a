-- `verdict_frame::widened`: the frame of the definition, on the side that the height's sign says.
use mathlib.Core.Path.{◌≡◌, refl, ap, ◌∙◌}
use Prim.Native.Nat.{ℕ, ◌≤◌}
use lib.IntN.{ℤ, pos}
use mir.Syntax.{w64}
use mir.Val.{to_z, of_z}
use Rattle.ints.specs.Bounds.{Known, fits, within, worth, k_back, k-is, k_abs, k_within, k_lit_pos}
use Rattle.ints.proofs.Known.{k_sub}
use Rattle.limits.specs.Limits.{gap_most}
use Rattle.space.specs.Ranges.{made, upto_le}
use Rattle.verdict_walk.specs.Points.{Signed}
use Rattle.verdict_walk.specs.PointLaws.{signed_is}
use Rattle.verdict_frame.specs.Frames.{thick_of}
use Rattle.verdict_frame.specs.FrameLaws.{frame_eq}
use Rattle.verdict_frame.proofs.frame.widened.Goals as goal

-- the gap and its opposite, and the side, as the code holds them
abbrev up : {r : ℤ} {gap : ℕ} → r ≡ pos gap → gap ≤ gap_most → Known (to_z w64 (of_z w64 r))
up {gap} e h = k_back w64 _ (k-is e (k_abs (pos gap) gap_most h))

abbrev away : {n g r : ℤ} → Signed n g r → Known (to_z w64 (of_z w64 r))
away s = k_back w64 _ (k_within s.most)

pub signed-z-requires : goal.signed-z-requires
signed-z-requires c = within (up c.from-g.ensures c.requires.gap_le_gap_most) tt

pub thick-requires : goal.thick-requires
thick-requires c = (upto_le tt c.requires.upto, (made _ (up c.from-g.ensures c.requires.gap_le_gap_most) (up c.from-g.ensures c.requires.gap_le_gap_most) (away c.signed-z.ensures) tt).1)

pub overflow_sub-g : goal.overflow_sub-g
overflow_sub-g c = fits (k_sub (pos 0) _ k_lit_pos (up c.from-g.ensures c.requires.gap_le_gap_most)) tt

pub thick-requires-2 : goal.thick-requires-2
thick-requires-2 c = (
  upto_le tt c.requires.upto,
  (made _ (k_back w64 _ (k_sub (pos 0) _ k_lit_pos (up c.from-g.ensures c.requires.gap_le_gap_most))) (up c.from-g.ensures c.requires.gap_le_gap_most) (away c.signed-z.ensures) tt).1,
)

pub overflow_sub-g-2 : goal.overflow_sub-g-2
overflow_sub-g-2 c = fits (k_sub (pos 0) _ k_lit_pos (up c.from-g.ensures c.requires.gap_le_gap_most)) tt

pub thick-requires-3 : goal.thick-requires-3
thick-requires-3 c = (
  upto_le tt c.requires.upto,
  (made _ (up c.from-g.ensures c.requires.gap_le_gap_most) (k_back w64 _ (k_sub (pos 0) _ k_lit_pos (up c.from-g.ensures c.requires.gap_le_gap_most))) (away c.signed-z.ensures) tt).1,
)

pub returns : goal.returns
returns c =
    let g = up c.from-g.ensures c.requires.gap_le_gap_most in
    let d = k_back w64 _ (k_sub (pos 0) _ k_lit_pos g) in
    let z = away c.signed-z.ensures in
    record {
      away = c.signed-z.result;
      of = signed_is (worth (k_back w64 _ (k_within c.requires.upto.uz)) tt) (worth g tt) refl c.signed-z.ensures;
      is = frame_eq (made gap_most g g g tt).0 (c.thick.ensures ∙ ap (thick_of c.args.p) (made gap_most g g z tt).0)
          (c.thick-2.ensures ∙ ap (thick_of c.args.p) (made gap_most d g z tt).0) (c.thick-3.ensures ∙ ap (thick_of c.args.p) (made gap_most g d z tt).0);
    }

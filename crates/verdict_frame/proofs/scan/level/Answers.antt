-- `verdict_frame::level`: three dots, each tested for 0 by its bits.
use mathlib.Core.Path.{sym, ap, ◌∙◌, subst}
use mir.Syntax.{w64}
use mir.Val.{of_z}
use Rattle.std.proofs.Common.{eqb-true}
use Rattle.std.proofs.lemmas.Bool.{eqb-false}
use Rattle.ints.specs.Bounds.{Within}
use Rattle.limits.specs.DecidesLaws.{fails}
use Rattle.space.specs.Ranges.{upto_le}
use Rattle.verdict_portal.specs.Rounds.{dot_within, zero_bits}
use Rattle.verdict_frame.specs.Frames.{Level}
use Rattle.verdict_frame.specs.FrameLaws.{zero_decided}
use Rattle.verdict_frame.proofs.scan.level.Goals as goal
use Rattle.verdict_frame.proofs.scan.level.Goals.{then-dot-eq0, else-dot-eq0}

pub returns-then-dot-eq0-2 : goal.returns-then-dot-eq0-2
returns-then-dot-eq0-2 c =
    let s = c.requires in
    let far = subst (Within 679395106750464000) (sym c.dot-then-dot-eq0-2.ensures) (dot_within (upto_le tt s.0.three) s.1) in
    elim c.if-dot-eq0.branch [
      | then-dot-eq0 w ↦ zero_decided far
          (λ z. record {
            one = sym c.dot.ensures ∙ zero_bits (subst (Within 679395106750464000) (sym c.dot.ensures) (dot_within (upto_le tt s.0.one) s.1)) w.if-dot-eq0.true;
            two = sym w.dot-then-dot-eq0.ensures ∙ zero_bits (subst (Within 679395106750464000) (sym w.dot-then-dot-eq0.ensures) (dot_within (upto_le tt s.0.two) s.1))
                (eqb-true _ 0 (sym w.value-is ∙ c.if-dot-eq0-2.true));
            three = sym c.dot-then-dot-eq0-2.ensures ∙ z;
          })
          (λ l. c.dot-then-dot-eq0-2.ensures ∙ l.three)
      | else-dot-eq0 w ↦ absurd (w.if-dot-eq0.false (eqb-true _ 0 (sym w.value-is ∙ c.if-dot-eq0-2.true)))
    ]

pub returns-else-dot-eq0-2 : goal.returns-else-dot-eq0-2
returns-else-dot-eq0-2 c =
    fails c.if-dot-eq0-2.false (λ (l : Level c.args.rows c.args.p). elim c.if-dot-eq0.branch [
      | then-dot-eq0 w ↦ eqb-false _ 0 (sym w.value-is ∙ c.if-dot-eq0-2.false) (ap (of_z w64) (w.dot-then-dot-eq0.ensures ∙ l.two))
      | else-dot-eq0 w ↦ w.if-dot-eq0.false (ap (of_z w64) (c.dot.ensures ∙ l.one))
    ])

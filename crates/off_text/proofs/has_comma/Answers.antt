-- `has_comma` meets its contract: a byte that is passed outside comments is a comma, or what is left of the text has none (WalkLaws).
use mathlib.Core.Path.{refl, sym, ◌∙◌}
use Rattle.limits.specs.DecidesLaws.{holds, fails}
use Rattle.off_text.specs.WalkLaws.{comma_here, comma_none, comma_on, comma_back}
use Rattle.off_text.proofs.has_comma.Goals as goal

pub returns-then-b-eq44 : goal.returns-then-b-eq44
returns-then-b-eq44 c =
    let first = c.in-Some.ensures.item.3 in
    holds refl (c.loop-b.invariant.1 (comma_here _ first.0 (sym (first.1 0) ∙ c.if-b-eq44.true)))

pub loop-b-preserved : goal.loop-b-preserved
loop-b-preserved c =
    let first = c.in-Some.ensures.item.3 in
    let p = c.passed-rest.ensures in
    (λ h. comma_on p (λ e. c.if-b-eq44.false (first.1 0 ∙ e)) (c.loop-b.invariant.0 h), λ h. c.loop-b.invariant.1 (comma_back p h))

pub returns : goal.returns
returns c = fails refl (λ h. comma_none _ c.in_default.ensures.item.3 (c.loop-b.invariant.0 h))

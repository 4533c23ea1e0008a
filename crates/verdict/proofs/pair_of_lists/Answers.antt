-- `verdict::pair_of_lists`: the lengths first, then the reach, then the gap, then the verdict.
use mathlib.Core.Path.{ap, ◌∙◌, subst}
use native.Mathlib.Omega.{arith}
use lib.IntN.{nat_abs}
use mir.Facts.{to_z-of_z}
use Rattle.limits.specs.Decides.{Decides}
use Rattle.verdict.specs.Answers.{GapFits}
use Rattle.verdict.specs.Judged.{both_placed, not_refused, answered, answered_wide, answered_far, answered_long}
use Rattle.verdict.proofs.pair_of_lists.Goals as goal

pub returns-then-not-lengths_fit : goal.returns-then-not-lengths_fit
returns-then-not-lengths_fit c = answered_long (c.lengths_fit.ensures.no c.if-not-lengths_fit.true)

pub returns-then-not-both_near : goal.returns-then-not-both_near
returns-then-not-both_near c = answered_far (c.lengths_fit.ensures.yes c.if-not-lengths_fit.false) (c.both_near.ensures.no c.if-not-both_near.true)

pub returns-then-not-gap_fits : goal.returns-then-not-gap_fits
returns-then-not-gap_fits c =
    let gap : Decides c.gap_fits.result (GapFits c.args.gap) = subst (λ z. Decides c.gap_fits.result (GapFits z)) (to_z-of_z c.ranges.gap) c.gap_fits.ensures in
    answered_wide (c.lengths_fit.ensures.yes c.if-not-lengths_fit.false) (c.both_near.ensures.yes c.if-not-both_near.false) (gap.no c.if-not-gap_fits.true)

pub verdict-requires-clause-gap_le_gap_most : goal.verdict-requires-clause-gap_le_gap_most
verdict-requires-clause-gap_le_gap_most c =
    let g = c.gap_fits.ensures.yes c.if-not-gap_fits.false in omega (arith, c.unsigned_abs.ensures.value, g.below)

pub verdict-requires-clause-placed : goal.verdict-requires-clause-placed
verdict-requires-clause-placed c = both_placed (c.lengths_fit.ensures.yes c.if-not-lengths_fit.false) (c.both_near.ensures.yes c.if-not-both_near.false)

pub returns : goal.returns
returns c =
    let gap : Decides c.gap_fits.result (GapFits c.args.gap) = subst (λ z. Decides c.gap_fits.result (GapFits z)) (to_z-of_z c.ranges.gap) c.gap_fits.ensures in
    answered (c.lengths_fit.ensures.yes c.if-not-lengths_fit.false) (c.both_near.ensures.yes c.if-not-both_near.false) (gap.yes c.if-not-gap_fits.false)
    (c.unsigned_abs.ensures.value ∙ ap nat_abs (to_z-of_z c.ranges.gap)) (not_refused c.verdict.result, c.verdict.ensures)

-- `verdict::both_near`: the second list is looked at only where the first is near.
use mathlib.Core.Logic.{inl}
use Rattle.space.specs.Reaching.{near_all}
use Rattle.verdict.specs.Judged.{tells_both, tells_no}
use Rattle.verdict.proofs.both_near.Goals as goal

pub returns-then-in_reach : goal.returns-then-in_reach
returns-then-in_reach c = tells_both ((near_all c.in_reach.ensures).yes c.if-in_reach.true) (near_all c.in_reach-then-in_reach.ensures)

pub returns-else-in_reach : goal.returns-else-in_reach
returns-else-in_reach c = tells_no c.if-in_reach.false (inl ((near_all c.in_reach.ensures).no c.if-in_reach.false))

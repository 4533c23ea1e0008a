-- `verdict_walk::push`: a weight of 0 is left out; another is stored at the count.
use mathlib.Core.Path.{ap}
use mir.Syntax.{w64}
use mir.Val.{of_z}
use Rattle.ints.specs.Bounds.{worth, k_back, k_within, within_le}
use Rattle.verdict_walk.specs.GatherLaws.{push_none, push_some}
use Rattle.verdict_portal.specs.Rounds.{zero_bits}
use Rattle.verdict_walk.proofs.gather.push.Goals as goal

pub returns-then-w-eq0 : goal.returns-then-w-eq0
returns-then-w-eq0 c = push_none (zero_bits (within_le tt c.requires.within) c.if-w-eq0.true)

pub returns : goal.returns
returns c =
    push_some (λ e. c.if-w-eq0.false (ap (of_z w64) e)) c.named.ensures (worth (k_back w64 _ (k_within c.requires.within)) tt)

-- `verdict_walk::walk`: the portal is held at each turn, and with each turn that goes on the measure is less.
use Rattle.verdict_walk.specs.Ends.{Begun, left_of}
use Rattle.verdict_walk.proofs.path.walk.Given as goal

abbrev pub invariant-loop-q : goal.invariant-loop-q
invariant-loop-q l = Begun l.first l.second l.g l.q l.f l.t

abbrev pub decreases-loop-q : goal.decreases-loop-q
decreases-loop-q l = left_of l.q l.f l.t

-- `verdict_walk::walk`: the portal is held at each turn, and with each turn that goes on the measure is less.
use Rattle.verdict_portal.specs.Rounds.{said, unsaid}
use Rattle.verdict_walk.specs.EndLaws.{corners, point_upto, walked_apart, walked_met, ready, onward}
use Rattle.verdict_walk.proofs.path.walk.Goals as goal

pub loop-q-init : goal.loop-q-init
loop-q-init c = c.requires.begun

pub edges_of-x-requires : goal.edges_of-x-requires
edges_of-x-requires c = corners c.places_of-v.ensures c.loop-q.invariant

pub normal_of-normal-requires : goal.normal_of-normal-requires
normal_of-normal-requires c = let x = c.edges_of-x.ensures in (x.one.1, x.two.1, x.last.1)

pub support-last-requires-clause-upto : goal.support-last-requires-clause-upto
support-last-requires-clause-upto c = let k = c.requires.placed in (c.normal_of-normal.ensures.1, k.box)

pub support-last-requires-clause-placed : goal.support-last-requires-clause-placed
support-last-requires-clause-placed c = let k = c.requires.placed in (k.first, k.second)

pub behind-requires : goal.behind-requires
behind-requires c = (
  c.loop-q.invariant.setting.inq,
  c.normal_of-normal.ensures.1,
  point_upto
      c.requires.placed c.support-last.ensures.tagged,
)

pub returns-then-behind : goal.returns-then-behind
returns-then-behind c =
    walked_apart c.loop-q.invariant c.places_of-v.ensures
    c.edges_of-x.ensures c.normal_of-normal.ensures c.support-last.ensures (said
    c.behind.ensures c.if-behind.true)

pub round-requires-clause-ready : goal.round-requires-clause-ready
round-requires-clause-ready c = ready c.loop-q.invariant c.places_of-v.ensures
    c.edges_of-x.ensures c.normal_of-normal.ensures c.support-last.ensures
    c.requires.placed (unsaid c.behind.ensures c.if-behind.false)

pub round-requires-clause-edges : goal.round-requires-clause-edges
round-requires-clause-edges c = c.edges_of-x.ensures

pub returns-in-None : goal.returns-in-None
returns-in-None c =
    walked_met c.loop-q.invariant c.places_of-v.ensures
    c.edges_of-x.ensures c.normal_of-normal.ensures
    c.support-last.ensures c.in-None.ensures

pub loop-q-smaller : goal.loop-q-smaller
loop-q-smaller c =
    (onward _ c.loop-q.invariant c.places_of-v.ensures c.support-last.ensures.tagged
    c.in-Some.ensures c.replaced-t.ensures).less

pub loop-q-preserved : goal.loop-q-preserved
loop-q-preserved c =
    (onward _ c.loop-q.invariant c.places_of-v.ensures c.support-last.ensures.tagged
    c.in-Some.ensures c.replaced-t.ensures).begun

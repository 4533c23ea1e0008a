-- `verdict_walk::support`: two scans and the box's corner, put together.
use mathlib.Core.Path.{ap₂, ◌∙◌}
use Rattle.space.specs.Vectors.{minus, plus}
use Rattle.space.specs.Ranges.{upto_le}
use Rattle.verdict_walk.specs.PointLaws.{opposite_upto, supports}
use borrow.Author.Rules.{rules}
use Rattle.verdict_walk.proofs.support.support.Goals as goal

pub farthest-j-requires-clause-upto : goal.farthest-j-requires-clause-upto
farthest-j-requires-clause-upto c = search (rules, opposite_upto c.requires.upto.0 c.neg.ensures.0)

pub farthest-j-requires-clause-placed : goal.farthest-j-requires-clause-placed
farthest-j-requires-clause-placed c = c.requires.placed.1

pub sub-requires : goal.sub-requires
sub-requires c = (upto_le tt c.corner.ensures.1, upto_le tt c.corner-2.ensures.1)

pub add-requires : goal.add-requires
add-requires c = (upto_le tt c.sub.ensures.1, upto_le tt c.boxed.ensures.most)

pub cube_of-requires : goal.cube_of-requires
cube_of-requires c = c.requires.upto.0

pub returns : goal.returns
returns c =
    supports c.requires.upto.1 c.farthest-i.ensures
    c.neg.ensures.0 c.farthest-j.ensures c.cube_of.ensures
    (c.add.ensures.0 ∙ ap₂ plus
    (c.sub.ensures.0 ∙ ap₂ minus c.corner.ensures.0 c.corner-2.ensures.0)
    c.boxed.ensures.is)

-- `verdict_walk::normal_of`: the sum of the three edges, and its range.
use Rattle.verdict_walk.specs.EndLaws.{half_upto, whole_upto}
use Rattle.space.specs.Ranges.{upto_le}
use Rattle.verdict_walk.proofs.path.normal_of.Goals as goal

pub add-requires-2 : goal.add-requires-2
add-requires-2 c = let p = c.requires in (half_upto p.0 p.1 c.add.ensures.0, upto_le tt p.2)

pub returns : goal.returns
returns c = let p = c.requires in whole_upto p.0 p.1 p.2 c.add.ensures.0 c.add-2.ensures.0

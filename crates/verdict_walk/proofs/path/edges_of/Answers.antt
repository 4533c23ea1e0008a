-- `verdict_walk::edges_of`: three products, each within the reach of a product of two points.
use Rattle.verdict_walk.specs.EndLaws.{edges_made}
use Rattle.verdict_walk.proofs.path.edges_of.Goals as goal

pub returns : goal.returns
returns c = edges_made c.requires c.cross.ensures.0 c.cross-2.ensures.0 c.cross-3.ensures.0

-- `desk_tell::load_shape`: what the callee has promised of what it was lent.
-- Assumes nothing.
use mir.Facts.{to_z-of_z}
use Rattle.desk_tell.specs.Telling.{loads_at}
use Rattle.desk_tell.proofs.load_shape.Goals as goal

pub returns-clause-does : goal.returns-clause-does
returns-clause-does c = loads_at (to_z-of_z c.ranges.shape) c.load.ensures.loads

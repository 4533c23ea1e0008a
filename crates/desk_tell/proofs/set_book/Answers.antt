-- `desk_tell::set_book`: what the callee has promised of what it was lent.
-- Assumes nothing.
use mir.Facts.{to_z-of_z}
use Rattle.desk_tell.specs.Telling.{gap_at}
use Rattle.desk_tell.proofs.set_book.Goals as goal

pub returns-clause-does : goal.returns-clause-does
returns-clause-does c = gap_at (to_z-of_z c.ranges.steps) c.set_gap.ensures.sets_gap

-- `desk_tell::move_at`: what the callee has promised of what it was lent.
-- Assumes nothing.
use mir.Facts.{to_z-of_z}
use Rattle.std.proofs.Common.{rules}
use Rattle.desk_tell.specs.Telling.{moves_at}
use Rattle.desk_tell.proofs.move_at.Goals as goal

pub returns-clause-does : goal.returns-clause-does
returns-clause-does c = let h = moves_at (to_z-of_z c.ranges.p) (to_z-of_z c.ranges.turn) c.move_piece.ensures.moves in search rules

-- `desk_tell::place_at`: what the callee has promised of what it was lent.
-- Assumes nothing.
use mir.Facts.{to_z-of_z}
use Rattle.std.proofs.Common.{rules}
use Rattle.desk_tell.specs.Telling.{places_at}
use Rattle.desk_tell.proofs.place_at.Goals as goal

pub returns-clause-does : goal.returns-clause-does
returns-clause-does c = let h = places_at (to_z-of_z c.ranges.p) c.place.ensures.places in search rules

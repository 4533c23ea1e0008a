-- `bench_desk::bench_desk_place`: the reply to what `desk_place::place` answers.
-- Assumes nothing.
use borrow.Author.Rules.{rules}
use mir.Syntax.{w32}
use mir.ValLaws.{to_z-of_z}
use Rattle.bench_desk.specs.Handing.{places_handed}
use Rattle.bench_desk.proofs.bench_desk_place.Goals as goal

pub returns : goal.returns
returns c =
    places_handed (search rules) c.reply_to.ensures (to_z-of_z w32 c.args.number c.ranges.number)
    (rw (
      to_z-of_z w32 c.args.shape c.ranges.shape,
      to_z-of_z w32 c.args.turn c.ranges.turn,
      to_z-of_z w32 c.args.x c.ranges.x,
      to_z-of_z w32 c.args.y c.ranges.y,
      to_z-of_z w32 c.args.z c.ranges.z,
    ))
    c.place.ensures.places

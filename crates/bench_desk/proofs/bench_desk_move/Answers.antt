-- `bench_desk::bench_desk_move`: the reply to what `desk_move::move_piece` answers.
-- Assumes nothing.
use borrow.Author.Rules.{rules}
use mir.Syntax.{w32}
use mir.ValLaws.{to_z-of_z}
use Rattle.bench_desk.specs.Handing.{moves_handed}
use Rattle.bench_desk.proofs.bench_desk_move.Goals as goal

pub returns : goal.returns
returns c =
    moves_handed (search rules) c.reply_to.ensures (to_z-of_z w32 c.args.number c.ranges.number) (to_z-of_z w32 c.args.turn c.ranges.turn)
    (rw (to_z-of_z w32 c.args.x c.ranges.x, to_z-of_z w32 c.args.y c.ranges.y, to_z-of_z w32 c.args.z c.ranges.z))
    c.move_piece.ensures.moves

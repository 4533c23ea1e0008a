-- `bench_desk::bench_desk_remove`: the reply to what `desk_place::remove` answers.
-- Assumes nothing.
use borrow.Author.Rules.{rules}
use mir.Facts.{to_z-of_z}
use Rattle.bench_desk.specs.Handing.{removed_handed}
use Rattle.bench_desk.proofs.bench_desk_remove.Goals as goal

pub returns : goal.returns
returns c = removed_handed (search rules) c.reply_to.ensures (to_z-of_z c.ranges.number) c.remove.ensures.removed

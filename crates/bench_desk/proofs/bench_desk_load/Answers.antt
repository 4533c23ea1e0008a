-- `bench_desk::bench_desk_load`: the reply to what `desk_load::load` answers.
-- Assumes nothing.
use borrow.Author.Rules.{rules}
use mir.Facts.{to_z-of_z}
use Rattle.bench_desk.specs.Handing.{loads_handed}
use Rattle.bench_desk.proofs.bench_desk_load.Goals as goal

pub returns : goal.returns
returns c = loads_handed (search rules) c.reply_to.ensures c.args.numbers.now (to_z-of_z c.ranges.shape) c.load.ensures.loads

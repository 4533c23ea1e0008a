-- `mudwicket::run` meets its contract: the desk that was started is served, and reached by what the lines have it told.
use Rattle.std.specs.Prelude.{min, ◌≡◌, length}
use Rattle.std.proofs.Common.{arith}
use Rattle.limits.specs.Limits
use Rattle.line_runs.proofs.HeardLaws.{stands_by, fresh_reached}
use Rattle.mudwicket.proofs.run.Goals as goal

pub returns-clause-stands : goal.returns-clause-stands
returns-clause-stands o c =
    let q = c.requires in
    let m : min Limits.marks (length c.args.marks.now) ≡ Limits.marks = omega (arith, q.in_bounds) in
    λ quiet. stands_by q.most_bytes_in_bounds quiet c.serve.ensures.serves q.lent_value (fresh_reached m q.in_bounds c.fresh.ensures)

-- `step` meets its contract: the file is asked first, then the position, and a triangle that starts there is read (specs/StepLaws).
use Rattle.std.proofs.lemmas.Result.{err_from_is_err_and}
use Rattle.scans_stl.specs.StepLaws.{step_reads}
use Rattle.scans_stl.proofs.step.Goals as goal

pub returns-in_err-triangle_at : goal.returns-in_err-triangle_at
returns-in_err-triangle_at c =
    let p = err_from_is_err_and c.from_residual-in_err-triangle_at.result c.from_residual-in_err-triangle_at.ensures.1 in
    rw (p.1, p.2) (step_reads c.in_ok-file_refusal.ensures (c.starts.ensures.yes c.if-starts.true) c.in_err-triangle_at.ensures)

pub returns-in_ok-triangle_at : goal.returns-in_ok-triangle_at
returns-in_ok-triangle_at c = step_reads c.in_ok-file_refusal.ensures (c.starts.ensures.yes c.if-starts.true) c.in_ok-triangle_at.ensures

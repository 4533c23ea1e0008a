-- `verdict_frame::line_rows`: nine numbers, each known by the range of the vector.
use Rattle.space.specs.Ranges.{made}
use Rattle.verdict_frame.specs.FrameLaws.{rows_made}
use Rattle.ints.specs.Bounds.{fits}
use Rattle.ints.proofs.Known.{known}
use Rattle.verdict_frame.proofs.scan.line_rows.Goals as goal

pub overflow_sub-result : goal.overflow_sub-result
overflow_sub-result c = fits (search known depth 15) tt

pub overflow_sub-result-2 : goal.overflow_sub-result-2
overflow_sub-result-2 c = fits (search known depth 15) tt

pub overflow_sub-result-3 : goal.overflow_sub-result-3
overflow_sub-result-3 c = fits (search known depth 15) tt

pub returns : goal.returns
returns c =
    rows_made (made _ (search known depth 15) (search known depth 15) (search known depth 15) tt)
    (made _ (search known depth 15) (search known depth 15) (search known depth 15) tt)
    (made _ (search known depth 15) (search known depth 15) (search known depth 15) tt)

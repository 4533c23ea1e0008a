-- `line_save::to_file` stays in range: the name beside the path ends within the room for it.
use native.Mathlib.Omega.{arith}
use Rattle.line_save.specs.SavingLaws.{put_within}
use Rattle.line_save.proofs.to_file.Goals as goal

pub slice_bounds-put_beside-end : goal.slice_bounds-put_beside-end
slice_bounds-put_beside-end o c =
    let one = c.put-end in
    let two = c.put-n in
    let first = put_within one.ensures (omega arith) in
    omega (arith, put_within two.ensures (omega (arith, first)))

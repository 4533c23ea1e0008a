-- `rows::rows_in_order`: a line more, with its own place shut.
use Rattle.std.proofs.Common.{arith}
use Rattle.rows.specs.Cells.{LineInOrder}
use Rattle.rows.proofs.MaskLaws.{gathered_more, mask_more, line_decided, lines_decided}
use Rattle.rows.proofs.rows_in_order.Goals as goal

pub loop-low-preserved : goal.loop-low-preserved
loop-low-preserved c =
    let a = c.args in
    let l = c.loop-low in
    let h = c.loop-low-test.true in
    let here = line_decided a.rows.now c.wrong_in_line-wrong.result h l.invariant.mask c.wrong_in_line-wrong.ensures in
    record { mask = mask_more h l.invariant.mask; wrong = gathered_more (LineInOrder a.places.now a.rows.now) l.low l.wrong c.wrong_in_line-wrong.result l.invariant.wrong here }

pub returns : goal.returns
returns c = lines_decided c.args.rows.now c.loop-low.wrong c.loop-low.low c.told-rows (omega arith) c.loop-low.invariant.wrong

-- `rows::wrong_in_line`: a cell more is right exactly when its wrong bits are none.
use Rattle.std.proofs.Common.{◌≡◌, ◌<◌, ◌*◌, get_or, bit_or, arith, rules}
use Rattle.limits.specs.Limits
use Rattle.rows.specs.Rows.{cell}
use Rattle.rows.specs.Cells.{line_at}
use Rattle.rows.specs.Masks.{Masked, wrong_bits}
use Rattle.rows.proofs.MaskLaws.{gathered_more, cell_decided, or_byte}
use Rattle.rows.proofs.wrong_in_line.Goals as goal

pub loop-high-preserved : goal.loop-high-preserved
loop-high-preserved c =
    let a = c.args in
    let l = c.loop-high in
    let v = get_or a.rows.now (cell a.low l.high) 0 in
    let m = bit_or (get_or a.mask.now l.high 0) a.own in
    let byte : v < 256 = search rules in
    let here = cell_decided v m byte (or_byte (c.requires.2 l.high (omega arith)) c.requires.1) in
    rw (line_at a.rows.now (a.low * Limits.places) Limits.places l.high (omega arith)) (gathered_more (λ j. Masked (bit_or (get_or a.mask.now j 0) a.own) (get_or a.rows.now (cell a.low j) 0)) l.high l.wrong (wrong_bits v m) l.invariant here)

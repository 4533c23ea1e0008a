-- `b` is the box of the corners before `i`.
use Rattle.std.proofs.Common.{◌≡◌, refl, ◌∙◌, ◌+◌, ◌*◌, pos, get_or, arith, rules}
use Rattle.limits.specs.Limits
use Rattle.pieces_box.specs.ShapeBox.{box_from, widened}
use Rattle.pieces_box.proofs.ShapeLaws.{at, box_first, box_more}
use Rattle.pieces_box.proofs.boxes.shape_box.Goals as goal

pub loop-i-init : goal.loop-i-init
loop-i-init c =
    let n = c.args.shapes.now in
    let k = c.args.shape in
    let start = k * Limits.shape_cells + 1 in
    let b : c.of-b.result ≡ box_from (get_or n start (pos 0)) (get_or n (start + 1) (pos 0)) (get_or n (start + 2) (pos 0)) = search rules in
    b ∙ box_first n k (at n k start 0 0 (omega arith) refl) (at n k (start + 1) 1 0 (omega arith) refl) (at n k (start + 2) 2 0 (omega arith) refl)

pub loop-i-preserved : goal.loop-i-preserved
loop-i-preserved c =
    let l = c.loop-i in
    let n = c.args.shapes.now in
    let k = c.args.shape in
    let start = k * Limits.shape_cells + 1 + 3 * l.i in
    let b : c.widened-b.result ≡ widened l.b (get_or n start (pos 0)) (get_or n (start + 1) (pos 0)) (get_or n (start + 2) (pos 0)) = search rules in
    b ∙ box_more n k l.i (omega arith) l.invariant (at n k start 0 l.i (omega arith) refl) (at n k (start + 1) 1 l.i (omega arith) refl) (at n k (start + 2) 2 l.i (omega arith) refl)

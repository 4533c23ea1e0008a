-- Three parts, one after the other, each lent to the reordering function.
use Rattle.marks.specs.Promises.{Reordered}
use Rattle.marks_keep.proofs.Parts.{three_lent, all_reordered}
use Rattle.marks_keep.proofs.reorder_marks.Goals as goal

pub returns : goal.returns
returns c =
    let a = c.args in
    let rx = c.reorder in
    let ry = c.reorder-2 in
    let rz = c.reorder-3 in
    all_reordered (three_lent (Reordered a.place a.new.x a.keys.now.x rx.new.keys) (Reordered a.place a.new.y a.keys.now.y ry.new.keys)
    (Reordered a.place a.new.z a.keys.now.z rz.new.keys) a.marks.now rx.new.part ry.new.part rz.new.part c.requires.0
    rx.ensures rx.auto.part ry.ensures ry.auto.part rz.ensures rz.auto.part)

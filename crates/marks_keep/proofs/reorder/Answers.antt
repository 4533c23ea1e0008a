-- One mark slides, and then the other.
use Rattle.marks_keep.specs.SlideLaws.{both_slide}
use Rattle.marks_keep.proofs.reorder.Goals as goal

pub returns : goal.returns
returns c =
    let a = c.args in
    let high = c.slide in
    let low = c.slide-2 in
    both_slide a.place a.k a.keys.now high.new.keys low.new.keys a.part.now high.new.part low.new.part high.ensures low.ensures

-- `desk_put::renew_marks`: the keys of the two marks on each axis, and each part by its own.
-- What is handed on is what the boxes and the placements give.
use Rattle.desk_put.specs.RenewLaws.{keys_are, renewed_in}
use Rattle.desk_put.proofs.renew.renew_marks.Goals as goal

pub returns : goal.returns
returns c =
    let b = c.args.boxes.now in
    let q = c.args.places.now in
    let p = c.args.place in
    renewed_in b q p
    (keys_are b q p 0 (c.keys_at-x.ensures.low, c.keys_at-x.ensures.high))
    (keys_are b q p 1 (c.keys_at-y.ensures.low, c.keys_at-y.ensures.high))
    (keys_are b q p 2 (c.keys_at-z.ensures.low, c.keys_at-z.ensures.high))
    c.reorder_marks.ensures

-- `SeenDesk::tested`: the shapes and places, and then the rest by the keys that follow from them.
-- Where shapes and places are in order, everything that the keys ask of the boxes holds.
use Rattle.limits.specs.DecidesLaws.{unless_left}
use Rattle.pieces.specs.Pieces.{store_of, PiecesInOrder}
use Rattle.pieces_box.proofs.KeysLaws.{all_asked}
use Rattle.desk_state.specs.OrderLaws.{worked, order_decided}
use Rattle.desk_state.proofs.SeenDesk.tested.Goals as goal

pub put_keys-requires : goal.put_keys-requires
put_keys-requires c =
    let d = c.args.self in
    let order : PiecesInOrder (store_of d.shapes.now d.places.now) = unless_left c.pieces_in_order.ensures c.if-not-pieces_in_order.false-raw in
    all_asked order c.requires

pub returns-clause-decided : goal.returns-clause-decided
returns-clause-decided c =
    let d = c.args.self in
    let order : PiecesInOrder (store_of d.shapes.now d.places.now) = unless_left c.pieces_in_order.ensures c.if-not-pieces_in_order.false-raw in
    let h = c.put_keys.ensures in
    order_decided order (worked order c.requires h.x h.y h.z) c.rest_in_order.ensures

pub returns-clause-worked : goal.returns-clause-worked
returns-clause-worked c =
    let d = c.args.self in
    let order : PiecesInOrder (store_of d.shapes.now d.places.now) = unless_left c.pieces_in_order.ensures c.if-not-pieces_in_order.false-raw in
    let h = c.put_keys.ensures in
    λ _. worked order c.requires h.x h.y h.z

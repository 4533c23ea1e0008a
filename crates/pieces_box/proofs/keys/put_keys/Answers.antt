-- One place more on each axis.
use Rattle.std.proofs.Common.{◌+◌, sym, subst}
use Rattle.pieces_box.specs.ShapeBox.{KeysTo}
use Rattle.pieces_box.proofs.KeysLaws.{keys_more}
use Rattle.pieces_box.proofs.keys.put_keys.Goals as goal

pub loop-place-preserved : goal.loop-place-preserved
loop-place-preserved c =
    let l = c.loop-place in
    let t = c.loop-place-test.true in
    let b = c.args.boxes.now in
    let q = c.args.places.now in (
      subst (KeysTo b q 0 (l.place + 1)) (sym c.put_two.ensures) (keys_more t l.invariant.0 c.keys_at.ensures.low c.keys_at.ensures.high),
      subst (KeysTo b q 1 (l.place + 1)) (sym c.put_two-in-loop-place.ensures) (keys_more t l.invariant.1 c.keys_at-in-loop-place.ensures.low c.keys_at-in-loop-place.ensures.high),
      subst (KeysTo b q 2 (l.place + 1)) (sym c.put_two-in-loop-place-2.ensures) (keys_more t l.invariant.2 c.keys_at-in-loop-place-2.ensures.low c.keys_at-in-loop-place-2.ensures.high),
    )

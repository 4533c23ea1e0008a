-- On each axis the keys of every place before `place` are the axis's.
use Rattle.pieces_box.specs.ShapeBox.{KeysTo}
use Rattle.pieces_box.proofs.keys.put_keys.Given as goal

abbrev pub invariant-loop-place : goal.invariant-loop-place
invariant-loop-place l = KeysTo l.boxes l.places 0 l.place l.keys.x × KeysTo l.boxes l.places 1 l.place l.keys.y × KeysTo l.boxes l.places 2 l.place l.keys.z

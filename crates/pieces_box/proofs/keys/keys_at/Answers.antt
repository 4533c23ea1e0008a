-- The keys of the two ends.
use Rattle.std.proofs.Common.{◌≡◌, [], ◌*◌, ◌+◌, ap, ◌∙◌, rules}
use Rattle.marks.specs.Keys.{key_for}
use Rattle.pieces.specs.Pieces.{store_of}
use Rattle.pieces.specs.Store.{taken_is}
use Rattle.pieces_box.specs.declared.boxes.Ends.{Ends}
use Rattle.pieces_box.proofs.KeysLaws.{key_low, key_high}
use Rattle.pieces_box.proofs.keys.keys_at.Goals as goal

pub returns-clause-low : goal.returns-clause-low
returns-clause-low c =
    let a = c.args in
    let t = taken_is (store_of [] a.places.now) a.place (c.is_taken.ensures.yes c.if-not-is_taken.false) in
    let k : c.mark_key.result ≡ key_for c.ends_in-e.result.low (2 * a.place) = search rules in
    k ∙ ap (λ (e : Ends). key_for e.low (2 * a.place)) c.ends_in-e.ensures ∙ key_low a.boxes.now a.places.now a.axis a.place t

pub returns-clause-high : goal.returns-clause-high
returns-clause-high c =
    let a = c.args in
    let t = taken_is (store_of [] a.places.now) a.place (c.is_taken.ensures.yes c.if-not-is_taken.false) in
    let k : c.mark_key-2.result ≡ key_for c.ends_in-e.result.high (2 * a.place + 1) = search rules in
    k ∙ ap (λ (e : Ends). key_for e.high (2 * a.place + 1)) c.ends_in-e.ensures ∙ key_high a.boxes.now a.places.now a.axis a.place t

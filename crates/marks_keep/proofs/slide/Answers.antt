-- The new key is stored; the mark is found, carried down and up, and put there.
use Rattle.std.proofs.Common.{ℕ, ap, sym, ◌∙◌, set, arith}
use Rattle.marks.specs.Keys.{key_of}
use Rattle.marks_keep.specs.SlideLaws.{slides}
use Rattle.marks_keep.proofs.Loops.{stored_key}
use Rattle.marks_keep.proofs.slide.Goals as goal

pub returns : goal.returns
returns c =
    let a = c.args in
    let up = c.carry_up-cell in
    let down = c.carry_down-down in
    let stored = stored_key a.keys.now a.mark a.key (omega arith) c.requires.1 ∙ ap (λ (z : ℕ). key_of (set a.keys.now z a.key) a.mark) (sym c.from.ensures) in
    slides a.keys.now _ a.mark a.key _ a.key _ c.standing-2.result _ _ up.result a.part.now _ up.new.part c.requires.1
    (ap (λ (z : ℕ). set a.keys.now z a.key) c.from.ensures) c.key_of-was.ensures stored c.standing.ensures c.find-found.ensures
    down.ensures up.ensures (up.auto.part ∙ down.auto.part) c.standing-2.ensures

-- `verdict_portal::round`: the round of each slot is the first slot's in the rotated portal.
use Rattle.std.specs.Prelude.{◌≡◌, Some, Bool, pos}
use Rattle.std.proofs.Common.{sym, subst}
use Rattle.std.specs.Int.Signed.{lt_z}
use Rattle.space.specs.declared.Vec3.{Vec3}
use Rattle.verdict_portal.specs.declared.Three.{Three}
use Rattle.verdict_portal.specs.declared.Slot.{Slot}
use Rattle.verdict_portal.specs.Shift.{side}
use Rattle.verdict_portal.specs.Round.{moved_rot, meet}
use Rattle.verdict_portal.specs.Rounds.{Choice, Ready, slot_of, choice_of, beside_of, ready_rot}
use Rattle.verdict_portal.proofs.round.Goals as goal

-- whose round it is, of the slot that was told
told : {q : Vec3} {f t : Three Vec3} {p : Vec3} {u v w : Bool} {s k : Slot} → s ≡ k → Some s ≡ slot_of u v w → u ≡ lt_z (side q p t.b t.c) (pos 0) → v ≡ lt_z (side q p t.c t.a) (pos 0)
    → w ≡ lt_z (side q p t.a t.b) (pos 0) → Ready q f t p → Choice q t p (Some k)
told {q} {t} {p} {u} {v} {w} e h eu ev ew r = subst (λ s. Choice q t p (Some s)) e (subst (Choice q t p) (sym h) (choice_of u v w eu ev ew r))

pub returns-in-None : goal.returns-in-None
returns-in-None c =
    let r = c.requires.ready in
    meet r.setting r.held r.inp
    (subst (Choice c.args.q c.args.t c.args.p) (sym c.in-None.ensures) (choice_of _ _ _ c.outside-first.ensures c.outside-second.ensures c.outside-third.ensures r))

pub returns-then-beside : goal.returns-then-beside
returns-then-beside c =
    let r = c.requires.ready in
    let here = told c.in-Some-First.field-0-is c.in-Some-First.ensures c.outside-first.ensures c.outside-second.ensures c.outside-third.ensures r in
    (beside_of _ c.outside-second.ensures c.beside.ensures r here).second c.if-beside.true

pub returns-else-beside : goal.returns-else-beside
returns-else-beside c =
    let r = c.requires.ready in
    let here = told c.in-Some-First.field-0-is c.in-Some-First.ensures c.outside-first.ensures c.outside-second.ensures c.outside-third.ensures r in
    (beside_of _ c.outside-second.ensures c.beside.ensures r here).here c.if-beside.false

pub returns-then-beside-2 : goal.returns-then-beside-2
returns-then-beside-2 c =
    let r = c.requires.ready in
    let here = told c.in-Some-Second.field-0-is c.in-Some-Second.ensures c.outside-first.ensures c.outside-second.ensures c.outside-third.ensures r in
    moved_rot ((beside_of _ c.outside-third.ensures c.beside-in-Some-Second.ensures (ready_rot r) here).second c.if-beside-2.true)

pub returns-else-beside-2 : goal.returns-else-beside-2
returns-else-beside-2 c =
    let r = c.requires.ready in
    let here = told c.in-Some-Second.field-0-is c.in-Some-Second.ensures c.outside-first.ensures c.outside-second.ensures c.outside-third.ensures r in
    moved_rot ((beside_of _ c.outside-third.ensures c.beside-in-Some-Second.ensures (ready_rot r) here).here c.if-beside-2.false)

pub returns-then-beside-3 : goal.returns-then-beside-3
returns-then-beside-3 c =
    let r = c.requires.ready in
    let here = told c.in-Some-Third.field-0-is c.in-Some-Third.ensures c.outside-first.ensures c.outside-second.ensures c.outside-third.ensures r in
    moved_rot (moved_rot ((beside_of _ c.outside-first.ensures c.beside-in-Some-Third.ensures (ready_rot (ready_rot r)) here).second c.if-beside-3.true))

pub returns-else-beside-3 : goal.returns-else-beside-3
returns-else-beside-3 c =
    let r = c.requires.ready in
    let here = told c.in-Some-Third.field-0-is c.in-Some-Third.ensures c.outside-first.ensures c.outside-second.ensures c.outside-third.ensures r in
    moved_rot (moved_rot ((beside_of _ c.outside-first.ensures c.beside-in-Some-Third.ensures (ready_rot (ready_rot r)) here).here c.if-beside-3.false))

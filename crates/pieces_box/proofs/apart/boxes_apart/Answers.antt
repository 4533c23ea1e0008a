-- Some axis parts them, or none does; the first that does is enough. The shift is the gap in keys.
use Rattle.std.proofs.Common.{refl, sym, ◌∙◌, subst}
use Rattle.std.proofs.lemmas.Bool.{false≢true}
use Rattle.pieces_box.specs.Apart.{ApartOnBy, ApartBy}
use Rattle.pieces_box.specs.ApartLaws.{apart_x, apart_y, apart_z}
use Rattle.pieces_box.proofs.apart.boxes_apart.Goals as goal
use Rattle.pieces_box.proofs.apart.boxes_apart.Goals.{then-apart_on, else-apart_on}

pub returns-then-apart_on-2 : goal.returns-then-apart_on-2
returns-then-apart_on-2 c =
    let a = c.args in
    let k = a.keys.now in
    let yes = c.if-apart_on-2.true in
    subst (ApartBy a.gap k.x k.y k.z a.p a.q) (sym yes) (
    elim c.if-apart_on.branch [
      | then-apart_on w ↦ apart_x (subst (ApartOnBy a.gap k.x a.p a.q) w.if-apart_on.true (c.apart_on.ensures a.gap refl))
      | else-apart_on w ↦ apart_y (subst (ApartOnBy a.gap k.y a.p a.q) (sym w.value-is ∙ yes) (w.apart_on-else-apart_on.ensures a.gap refl))
    ])

pub returns-else-apart_on-2 : goal.returns-else-apart_on-2
returns-else-apart_on-2 c =
    let a = c.args in
    let k = a.keys.now in
    let no = c.if-apart_on-2.false in
    elim c.if-apart_on.branch [
      | then-apart_on w ↦ absurd (false≢true (sym no ∙ w.value-is ∙ w.if-apart_on.true))
      | else-apart_on w ↦
          apart_z (subst (ApartOnBy a.gap k.x a.p a.q) w.if-apart_on.false (c.apart_on.ensures a.gap refl))
          (subst (ApartOnBy a.gap k.y a.p a.q) (sym w.value-is ∙ no) (w.apart_on-else-apart_on.ensures a.gap refl)) (c.apart_on-else-apart_on-2.ensures a.gap refl)
    ]

-- `LentPlaces::tested`: what is seen is what is lent.
use mathlib.Core.Path.{◌≡◌, ap, sym, subst}
use mathlib.Core.List.{List}
use Rattle.std.specs.Prelude.{true}
use lib.IntN.{ℤ}
use Rattle.limits.specs.Decides.{Decides}
use Rattle.pieces_box.specs.ShapeBox.{Boxed}
use Rattle.desk_state.specs.Desk.{Desk, InOrder}
use Rattle.desk_state.specs.Worked.{Worked}
use Rattle.desk_state.proofs.LentPlaces.tested.Goals as goal

pub tested-requires : goal.tested-requires
tested-requires c = subst (λ (l : List ℤ). Boxed l c.args.boxes.now) (ap (λ (d : Desk). d.store.shapes) (sym c.seen.ensures)) c.requires

pub returns-clause-decided : goal.returns-clause-decided
returns-clause-decided c = subst (λ (d : Desk). Decides c.tested.result (InOrder d)) c.seen.ensures c.tested.ensures.decided

pub returns-clause-worked : goal.returns-clause-worked
returns-clause-worked c =
    let k = c.tested.new.keys in
    subst (λ (d : Desk). c.tested.result ≡ true → Worked d.store c.args.boxes.now k.x k.y k.z) c.seen.ensures c.tested.ensures.worked

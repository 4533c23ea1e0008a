-- `LentBook::in_order`: what is seen is what is lent.
use mathlib.Core.Path.{subst}
use Rattle.limits.specs.Decides.{Decides}
use Rattle.desk_state.specs.Desk.{Desk, InOrder}
use Rattle.desk_state.proofs.LentBook.in_order.Goals as goal

pub returns : goal.returns
returns c = subst (λ (d : Desk). Decides c.in_order.result (InOrder d)) c.seen.ensures c.in_order.ensures

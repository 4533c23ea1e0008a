-- `desk::contacts::contacts`: a desk in order is listed; else nothing is written.
use Rattle.limits.specs.DecidesLaws.{unless_taken, unless_left}
use Rattle.desk.specs.CommandLaws.{contacts_refused, contacts_listed}
use Rattle.desk.proofs.contacts.contacts.Goals as goal

pub returns-then-not-in_order : goal.returns-then-not-in_order
returns-then-not-in_order c = contacts_refused (unless_taken c.in_order.ensures c.if-not-in_order.true-raw)

pub returns : goal.returns
returns c =
    contacts_listed (unless_left c.in_order.ensures c.if-not-in_order.false-raw) c.list_contacts.ensures

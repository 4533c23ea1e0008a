-- `rows_list::count_contacts`: a row more is three bytes where it is a contact.
use Rattle.std.proofs.Common.{◌≡◌, ap, ◌∙◌, get_or, length, take, length-append, arith}
use Rattle.ints.specs.Counts.{one_if, one_if≤}
use Rattle.rows.proofs.Bytes.{byte_one}
use Rattle.rows_list.specs.Contacts.{contact, listed, contacts}
use Rattle.rows_list.specs.Listing.{contacts_none, contacts_more, listed_length}
use Rattle.rows_list.proofs.count_contacts.Goals as goal

pub loop-v-init : goal.loop-v-init
loop-v-init c = record { most = omega arith; bytes = ap length (contacts_none c.args.rows.now) }

pub loop-v-preserved : goal.loop-v-preserved
loop-v-preserved c =
    let rows = c.args.rows.now in
    let l = c.loop-v in
    let v = get_or rows l.v-index 0 in
    let here : c.from-n.result ≡ one_if (contact v) = c.from-n.ensures ∙ byte_one c.is_contact.result ∙ ap one_if c.is_contact.ensures in
    record {
      most = omega (arith, here, one_if≤ (contact v));
      bytes = omega (arith, here, l.invariant.bytes, ap length (contacts_more rows l.v-index (omega arith)), length-append (contacts (take l.v-index rows)) (listed l.v-index v), listed_length l.v-index v);
    }

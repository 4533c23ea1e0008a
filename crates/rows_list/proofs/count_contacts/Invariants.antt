-- `rows_list::count_contacts`: what is listed of the rows so far is three bytes for each one counted.
use Rattle.std.proofs.Common.{◌≡◌, ◌≤◌, ◌*◌, length, take}
use Rattle.rows_list.specs.Contacts.{contacts}
use Rattle.rows_list.proofs.count_contacts.Given as goal

abbrev pub invariant-loop-v : goal.invariant-loop-v
invariant-loop-v l = record {
  most : l.n ≤ l.v-index;
  bytes : length (contacts (take l.v-index l.rows)) ≡ 3 * l.n;
}

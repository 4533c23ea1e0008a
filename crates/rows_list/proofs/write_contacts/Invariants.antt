-- `rows_list::write_contacts`: what is listed of the first k rows stands in front, and room is as it was behind.
use Rattle.std.proofs.Common.{◌≡◌, ◌++◌, length, take, drop}
use Rattle.rows_list.specs.Contacts.{contacts}
use Rattle.rows_list.proofs.write_contacts.Given as goal

abbrev pub invariant-loop-k : goal.invariant-loop-k
invariant-loop-k l = record {
  next : l.at ≡ length (contacts (take l.k l.rows));
  room : l.room ≡ contacts (take l.k l.rows) ++ drop l.at l.initial.room;
  long : length l.room ≡ length l.initial.room;
}

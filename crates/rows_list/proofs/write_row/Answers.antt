-- `rows_list::write_row`: a contact's three bytes are stored one after the other, and no other row is written.
-- What the row is listed as fits in room.
use Rattle.std.proofs.Common.{◌≡◌, sym, ap, ◌∙◌, ℕ, List, [], ◌∷◌, ◌/◌, ◌%◌, Bool, true, false, not, length, length-set, arith}
use Rattle.limits.specs.Limits
use Rattle.ints.specs.Counts.{one_if}
use Rattle.rows_list.specs.Contacts.{contact, listed}
use Rattle.rows_list.specs.Listing.{listed_none, listed_three, three_stores}
use Rattle.rows_list.proofs.write_row.Goals as goal

-- what the row is listed as, by the test
none : (k v : ℕ) {b : Bool} → b ≡ contact v → b ≡ false → listed k v ≡ []
none k v e f = listed_none k v (ap one_if (sym e ∙ f))

three : (k v : ℕ) {b : Bool} → b ≡ contact v → b ≡ true → listed k v ≡ k / Limits.places ∷ k % Limits.places ∷ v ∷ []
three k v e t = listed_three k v (λ z. omega (arith, ap one_if (sym e ∙ t), z))

pub returns-then-not-is_contact-clause-next : goal.returns-then-not-is_contact-clause-next
returns-then-not-is_contact-clause-next c = omega (arith, ap length (none c.args.k c.args.v c.is_contact.ensures c.if-not-is_contact.true))

pub returns-then-not-is_contact-clause-room : goal.returns-then-not-is_contact-clause-room
returns-then-not-is_contact-clause-room c = rw (none c.args.k c.args.v c.is_contact.ensures c.if-not-is_contact.true)

pub bounds-room-at : goal.bounds-room-at
bounds-room-at c = omega (arith, ap length (three c.args.k c.args.v c.is_contact.ensures c.if-not-is_contact.false), c.requires.1)

pub bounds-room-at-2 : goal.bounds-room-at-2
bounds-room-at-2 c = rw length-set (omega (arith, ap length (three c.args.k c.args.v c.is_contact.ensures c.if-not-is_contact.false), c.requires.1))

pub bounds-room-at-3 : goal.bounds-room-at-3
bounds-room-at-3 c = simp length-set (omega (arith, ap length (three c.args.k c.args.v c.is_contact.ensures c.if-not-is_contact.false), c.requires.1))

pub returns-clause-next : goal.returns-clause-next
returns-clause-next c = omega (arith, ap length (three c.args.k c.args.v c.is_contact.ensures c.if-not-is_contact.false))

pub returns-clause-room : goal.returns-clause-room
returns-clause-room c =
    let a = c.args in
    rw (three a.k a.v c.is_contact.ensures c.if-not-is_contact.false) (three_stores a.room.now a.at _ _ a.v)

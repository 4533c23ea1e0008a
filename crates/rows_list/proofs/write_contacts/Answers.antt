-- `rows_list::write_contacts`: a row more is written behind those that stand there.
use Rattle.std.proofs.Common.{◌≡◌, ap, ap₂, sym, refl, ◌∙◌, ℕ, ◌+◌, ◌<◌, List, ◌++◌, get_or, length, take, drop, take_all, length-append, arith}
use Rattle.std.proofs.lemmas.List.Edits.{sets}
use lib.Seq.{length-sets}
use Rattle.rows_list.specs.Contacts.{listed, contacts}
use Rattle.rows_list.specs.Listing.{listed_more, contacts_none, contacts_more, contacts_fit}
use Rattle.rows_list.proofs.write_contacts.Goals as goal

pub loop-k-init : goal.loop-k-init
loop-k-init c = let e = contacts_none c.args.rows.now in record { next = ap length (sym e); room = rw e; long = refl }

pub write_row-at-requires : goal.write_row-at-requires
write_row-at-requires c =
    let l = c.loop-k in
    (omega arith, omega (arith, contacts_fit c.args.rows.now l.k (omega arith), l.invariant.next, l.invariant.long, c.requires))

pub loop-k-preserved : goal.loop-k-preserved
loop-k-preserved c =
    let w = c.write_row-at.ensures in
    let l = c.loop-k in
    let rows = c.args.rows.now in
    let room = c.args.room.now in
    let bytes = listed l.k (get_or rows l.k 0) in
    let next : c.write_row-at.result ≡ length (contacts (take (l.k + 1) rows)) =
    omega (arith, w.next, l.invariant.next, ap length (contacts_more rows l.k (omega arith)), length-append (contacts (take l.k rows)) bytes) in
    record {
      next = next;
      room = w.room ∙ ap₂ (λ (r : List ℕ) (n : ℕ). sets r n bytes) (l.invariant.room ∙ ap (λ (n : ℕ). contacts (take l.k rows) ++ drop n room) l.invariant.next) l.invariant.next
          ∙ listed_more rows room l.k (omega arith) c.requires ∙ ap (λ (n : ℕ). contacts (take (l.k + 1) rows) ++ drop n room) (sym next);
      long = ap length w.room ∙ length-sets l.room l.at bytes ∙ l.invariant.long;
    }

pub returns : goal.returns
returns c =
    let l = c.loop-k in
    let rows = c.args.rows.now in
    let room = c.args.room.now in
    l.invariant.room ∙ ap (λ (n : ℕ). contacts (take l.k rows) ++ drop n room) l.invariant.next
    ∙ ap (λ (r : List ℕ). contacts r ++ drop (length (contacts r)) room) (take_all l.k rows (omega arith))

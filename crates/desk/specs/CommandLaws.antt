-- The laws of the commands: what each way out of a function has kept or made, that a started desk is in order, and that an answer is the only one.
-- Witnesses apart, two exits and answers that a command's record allows for the same entry are equal, to the last cell.
use Rattle.std.specs.Prelude.{◌≡◌, refl, List, ℕ, ◌+◌, ◌*◌, ◌≤◌, ◌<◌, ℤ, pos, nat_abs, replicate, Result, Ok, Err}
use Rattle.std.proofs.Common.{sym, ap, ◌∙◌, subst, inl, inr, arith}
use Rattle.limits.specs.Limits
use Rattle.limits.specs.Lowest.{Rule, Lowest}
use Rattle.limits.specs.Refusals as refusals
use Rattle.limits.specs.declared.Refusal.{Refusal}
use Rattle.limits.proofs.LowestLaws.{lowest_once}
use Rattle.limits.proofs.RefusalLaws.{number_once, number_some}
use Rattle.limits.specs.declared.Refusal.TheVariants.{Disorder}
use Rattle.limits.specs.Numbered.{Numbered}
use Rattle.rows.specs.Rows.{Handled}
use Rattle.rows_list.specs.Contacts.{Lists}
use Rattle.rows_tally.specs.Tallies.{BookInOrder}
use Rattle.rows_tally.specs.Counting.{filled_at, zero_at, book_once, book_started, gap_order, gap_is}
use Rattle.rows.specs.Changes.{cleared_once}
use Rattle.rows.proofs.Handling.{rows_started, handled_once}
use Rattle.marks.specs.Marks.{InPlaceMarks, changed_marks}
use Rattle.marks.proofs.Buffer.{none_in_place_marks, one_buffer}
use Rattle.pieces.specs.declared.placement.Placement.{Placement}
use Rattle.pieces.specs.declared.placement.Offset.{Offset}
use Rattle.pieces.specs.Pieces.{Store, count_in, held_in, axes_of, piece_at}
use Rattle.pieces.specs.Store.{ranged}
use Rattle.verdict.specs.declared.witnessed.Verdict.{Verdict}
use Rattle.verdict.specs.Answers.{Answer, nothing, answer_of, Carries, OneAnswer, OneResult}
use Rattle.verdict.specs.AnswerLaws.{one_answer}
use Rattle.verdict.proofs.ResultsOnce.{one_result}
use Rattle.desk_put.specs.Handled.{Emptied, PutDown}
use Rattle.rows_right.specs.RowLaws.{carries_at, right_once}
use Rattle.desk_state.specs.Desk.{Desk, desk_of, gap_of, InOrder, gap_at}
use Rattle.rows_right.specs.Right.{RowRight}
use Rattle.desk.specs.Commands.{Outcome, Commanded, fresh_desk, start_refusals, Started, load_refusals, Loads, place_refusals, Places, move_refusals}
use Rattle.desk.specs.Commands.{MovedBy, Moves, remove_refusals, Removed, gap_refusals, SetsGap, contact_refusals, ListsContacts, pair_refusals, Pairs, Does}
use Rattle.desk.specs.declared.Command.{Command}
use Rattle.desk.specs.declared.Command.TheVariants.{Start, Load, Place, Move, Remove, Gap}

-- ---- every command
pub refuses : {l : List Rule} {Accepted : ℕ → Type 0} {d : Desk} {r : Refusal} → Lowest l (refusals.number_of r) → Commanded l Accepted d d (Err r)
refuses {r = r} h = record { refusal = h; kept = λ _. refl; done = λ z. absurd (omega (arith, number_some r)); named = number_some r }

pub accepts : {l : List Rule} {Accepted : ℕ → Type 0} {d after : Desk} {n : ℕ} → Lowest l 0 → Accepted n → Commanded l Accepted d after (Ok n)
accepts h k = record { refusal = h; kept = λ z. absurd (omega arith); done = λ _. k; named = tt }

-- where an accepted command allows one desk and one count, it allows one desk and one answer
module _ (l : List Rule) {A B : ℕ → Type 0} {d a b : Desk} (one : (m n : ℕ) → A m → B n → (a ≡ b) × (m ≡ n)) where
  pub commanded_once : (q r : Outcome) → Commanded l A d a q → Commanded l B d b r → (a ≡ b) × (q ≡ r)
  commanded_once (Ok m) (Ok n) p q = let e = one m n (p.done refl) (q.done refl) in (e.0, ap Ok e.1)
  commanded_once (Ok m) (Err r) p q = absurd (omega (arith, q.named, lowest_once l {m = 0} {n = refusals.number_of r} p.refusal q.refusal))
  commanded_once (Err r) (Ok n) p q = absurd (omega (arith, p.named, lowest_once l {m = refusals.number_of r} {n = 0} p.refusal q.refusal))
  commanded_once (Err m) (Err n) p q =
      (p.kept p.named ∙ sym (q.kept q.named), ap Err (number_once m n (lowest_once l {m = refusals.number_of m} {n = refusals.number_of n} p.refusal q.refusal)))

-- ---- starting afresh
pub fresh-is : {shapes places : List ℤ} {rows book marks : List ℕ} → shapes ≡ replicate Limits.shapes_length (pos 0) → places ≡ replicate Limits.places_length (pos 0)
    → rows ≡ replicate Limits.rows Limits.no_row → book ≡ replicate Limits.book 0 → marks ≡ replicate Limits.marks Limits.no_mark → desk_of shapes places rows book marks ≡ fresh_desk
fresh-is a b c d e = rw (a, b, c, d, e)

-- no shape is loaded and no place is taken
no_shape : (s : ℕ) → count_in fresh_desk.store.shapes s ≡ pos 0
no_shape s = filled_at {A = ℤ} (pos 0) Limits.shapes_length (s * Limits.shape_cells)

no_place : (p : ℕ) → nat_abs (held_in fresh_desk.store.places p) ≡ 0
no_place p = ap nat_abs (filled_at {A = ℤ} (pos 0) Limits.places_length (Limits.place_cells * p))

-- "Starting afresh gives a desk in order"
pub fresh_order : InOrder fresh_desk
fresh_order = record {
  pieces = record {
    shapes = record {
      few = λ s h. subst (Numbered (Limits.corners + 1)) (sym (no_shape s)) (record { natural = refl; below = omega arith });
      near = λ s k h l. absurd (let e = ap nat_abs (no_shape s) in omega arith);
    };
    places = record { all = λ p t. absurd (t.holds (no_place p)) };
  };
  marks = none_in_place_marks (axes_of fresh_desk.store) (λ p. rw (no_place p));
  rows = rows_started (λ p t. t.holds (no_place p));
  book = book_started;
}

pub started_once : {d a b : Desk} (q r : Outcome) → Started d a q → Started d b r → (a ≡ b) × (q ≡ r)
started_once {d} = commanded_once (start_refusals d) (λ m n p q. (p.0 ∙ sym q.0, p.1 ∙ sym q.1))

-- ---- loading
pub loaded_once : {d a b : Desk} {shape : ℤ} {numbers : List ℤ} (q r : Outcome) → Loads d shape numbers a q → Loads d shape numbers b r → (a ≡ b) × (q ≡ r)
loaded_once {d} {shape = shape} {numbers} = commanded_once (load_refusals d shape numbers) (λ m n p q. (p.0 ∙ sym q.0, p.2 ∙ sym q.2))

-- ---- placing, moving and removing
-- two desks in order with the same shapes, places, rows and gap are the same
pub desk_once : {a b : Desk} → InOrder a → InOrder b → a.store ≡ b.store → a.rows ≡ b.rows → gap_of a ≡ gap_of b → a ≡ b
desk_once {a} {b} p q s r g =
    let m = one_buffer (axes_of b.store) (ranged q.pieces) a.marks b.marks (subst (λ (d : Store). InPlaceMarks (axes_of d) a.marks) s p.marks) q.marks in
    let k = book_once (subst (λ (l : List ℕ). BookInOrder l a.book) r p.book) q.book g in
    rw (s, r, m, k)

put_once : {d a b : Desk} {p : ℕ} {q : Placement} → PutDown d p q a → PutDown d p q b → a ≡ b
put_once {d} {a} {b} {p} e f =
    let same = e.store ∙ sym f.store in
    let rows = subst (λ (k : Store). Handled (RowRight (gap_of d) k) k.places p Limits.places d.rows a.rows) same e.rows in
    desk_once e.order f.order same (handled_once (λ low high v w. right_once (gap_of d) b.store low high) (sym e.rows.size ∙ e.order.rows.size) rows f.rows)
    (e.gap ∙ sym f.gap)

pub placed_once : {d a b : Desk} {place : ℤ} {o : Placement} (q r : Outcome) → Places d place o a q → Places d place o b r → (a ≡ b) × (q ≡ r)
placed_once {d} {place = place} {o} = commanded_once (place_refusals d place o) (λ m n p q. (put_once p.0 q.0, p.1 ∙ sym q.1))

pub moved_once : {d a b : Desk} {place turn : ℤ} {o : Offset} (q r : Outcome) → Moves d place turn o a q → Moves d place turn o b r → (a ≡ b) × (q ≡ r)
moved_once {d} {a} {b} {place} {turn} {o} = commanded_once (move_refusals d place turn o) one
  where
    one : (m n : ℕ) → MovedBy d (nat_abs place) turn o a m → MovedBy d (nat_abs place) turn o b n → (a ≡ b) × (m ≡ n)
    one m n p q =
        let same = put_once p.put q.put in
        (same, p.counted ∙ ap (λ (k : Desk). changed_marks (axes_of d.store) (axes_of k.store) (nat_abs place)) same ∙ sym q.counted)

emptied_once : {d a b : Desk} {p : ℕ} → Emptied d p a → Emptied d p b → a ≡ b
emptied_once e f =
    desk_once e.order f.order (e.store ∙ sym f.store) (cleared_once (sym e.rows.size ∙ e.order.rows.size) e.rows f.rows) (e.gap ∙ sym f.gap)

pub removed_once : {d a b : Desk} {place : ℤ} (q r : Outcome) → Removed d place a q → Removed d place b r → (a ≡ b) × (q ≡ r)
removed_once {d} {place = place} = commanded_once (remove_refusals d place) (λ m n p q. (emptied_once p.0 q.0, p.1 ∙ sym q.1))

-- ---- setting the gap
pub gap_once : {d a b : Desk} {gap : ℤ} (q r : Outcome) → SetsGap d gap a q → SetsGap d gap b r → (a ≡ b) × (q ≡ r)
gap_once {d} {gap = gap} = commanded_once (gap_refusals d gap) (λ m n p q. (p.0 ∙ sym q.0, p.2 ∙ sym q.2))

-- a desk in order whose gap is set is in order, and that is its gap then
pub gap_set_order : {d : Desk} {gap : ℕ} → gap ≤ Limits.gap_most → InOrder d → InOrder (gap_at d gap)
gap_set_order h o = record { pieces = o.pieces; marks = o.marks; rows = o.rows; book = gap_order h o.book }

pub gap_set : {d : Desk} (gap : ℕ) → InOrder d → gap_of (gap_at d gap) ≡ gap
gap_set gap o = gap_is o.book

-- W6: the gap "is 0 at the start"
pub fresh_gap : gap_of fresh_desk ≡ 0
fresh_gap = zero_at Limits.book Limits.gap_cell

-- ---- one command: its desk and its answer are one
pub does_once : (c : Command) (numbers : List ℤ) (d a b : Desk) (q r : Outcome) → Does c numbers d a q → Does c numbers d b r → (a ≡ b) × (q ≡ r)
does_once Start numbers d a b q r = started_once q r
does_once (Load shape) numbers d a b q r = loaded_once {numbers = numbers} q r
does_once (Place place o) numbers d a b q r = placed_once q r
does_once (Move place turn o) numbers d a b q r = moved_once q r
does_once (Remove place) numbers d a b q r = removed_once q r
does_once (Gap gap) numbers d a b q r = gap_once q r

-- ---- the listing
pub contacts_refused : {d : Desk} {room : List ℕ} → (InOrder d → ⊥) → ListsContacts d room room (Err Disorder)
contacts_refused f = record {
  refusal = inl (f, refl);
  written = λ z. absurd (omega arith);
  count = λ z. absurd (omega arith);
  kept = λ _. refl;
  zeros = λ _. refl;
  named = omega arith;
}

pub contacts_listed : {d : Desk} {room after : List ℕ} {r : Result ℕ Refusal} → InOrder d → Lists d.rows room after r → ListsContacts d room after r
contacts_listed o l = record { refusal = inr (λ f. f o, l.refusal); written = l.written; count = l.count; kept = l.kept; zeros = l.zeros; named = l.named }

pub contacts_once : {d : Desk} {room a b : List ℕ} (q r : Result ℕ Refusal) → ListsContacts d room a q → ListsContacts d room b r → (a ≡ b) × (q ≡ r)
contacts_once (Ok m) (Ok n) p q = (p.written refl ∙ sym (q.written refl), ap Ok (let a = p.count refl in let b = q.count refl in omega arith))
contacts_once {d} {room} (Ok m) (Err n) p q = absurd (omega (arith, q.named, lowest_once (contact_refusals d room) {m = 0} {n = refusals.number_of n} p.refusal q.refusal))
contacts_once {d} {room} (Err m) (Ok n) p q = absurd (omega (arith, p.named, lowest_once (contact_refusals d room) {m = refusals.number_of m} {n = 0} p.refusal q.refusal))
contacts_once {d} {room} (Err m) (Err n) p q =
    (p.kept p.named ∙ sym (q.kept q.named), ap Err (number_once m n (lowest_once (contact_refusals d room) {m = refusals.number_of m} {n = refusals.number_of n} p.refusal q.refusal)))

-- ---- the pair question
pub pair_refuses : {d : Desk} {first second : ℤ} {n : ℕ} → Lowest (pair_refusals d first second) n → 0 < n → Pairs d first second (nothing n)
pair_refuses h k = record { refusal = h; zeros = λ _. refl; carries = λ z. absurd (omega arith) }

pub pair_answers : {d : Desk} {first second : ℤ} {i j : ℕ} {r : Answer} → Lowest (pair_refusals d first second) 0 → i ≡ nat_abs first → j ≡ nat_abs second
    → (r.number ≡ 0) × Carries (gap_of d) (piece_at d.store i) (piece_at d.store j) r → Pairs d first second r
pair_answers {d} {first} {second} h ei ej c = record {
  refusal = subst (Lowest (pair_refusals d first second)) (sym c.0) h;
  zeros = λ f. absurd (f c.0);
  carries = λ _. carries_at (ap (piece_at d.store) ei) (ap (piece_at d.store) ej) c.1;
}

-- only witnesses may vary
pub pairs_once : {d : Desk} {first second : ℤ} {q r : Answer} → Pairs d first second q → Pairs d first second r → OneAnswer q r
pairs_once {d} {first} {second} a b = one_answer (lowest_once (pair_refusals d first second) a.refusal b.refusal) a.zeros b.zeros a.carries b.carries

-- and of the results themselves: one refusal, or verdicts of one kind
pub pair_result_once : {d : Desk} {first second : ℤ} (q r : Result Verdict Refusal) → Pairs d first second (answer_of q) → Pairs d first second (answer_of r) → OneResult q r
pair_result_once q r a b = one_result q r (pairs_once a b)

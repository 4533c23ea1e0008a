-- Laws of the listing: one row more, the stores that write it, and what each way out has listed.
-- Two listings that are allowed for the same rows and room are equal (`lists_once`).
use Rattle.std.specs.Prelude.{ℕ, zero, suc, ◌+◌, ◌*◌, ◌/◌, ◌%◌, ◌≤◌, ◌<◌, ◌≡◌, refl, List, [], ◌∷◌, ◌++◌, Bool, true, false, ℤ, length, get_or, set, take, drop, Result, Ok, Err}
use Rattle.std.proofs.Common.{sym, ap, ap₂, ◌∙◌, append_assoc, append-nil, inl, inr, zero-add, add-one, arith, length-append, drop-drop}
use Rattle.std.proofs.lemmas.List.Edits.{sets, sets-eq}
use Rattle.std.proofs.Math.Seq.{take-append_seam, drop-append-add}
use Rattle.limits.specs.Limits
use Rattle.limits.proofs.LowestLaws.{lowest_once}
use Rattle.limits.proofs.RefusalLaws.{number_once}
use Rattle.limits.specs.Refusals
use Rattle.limits.specs.declared.Refusal.{Refusal}
use Rattle.limits.specs.declared.Refusal.TheVariants.{ShortRoom}
use Rattle.rows.specs.Rows.{PairOf, RowsInOrder, cell}
use Rattle.ints.specs.Counts.{one_if}
use Rattle.rows_list.specs.Contacts.{contact, only_if, listed, contacts_from, contacts, refusals, Lists}
use Rattle.rows.specs.Cells.{low_of, high_of_lem, one_cell}
use Rattle.rows.proofs.Handling.{by_pair}

-- a row is listed as three bytes or none
three_if : (b : Bool) (x y z : ℕ) → length (only_if b (x ∷ y ∷ z ∷ [])) ≡ 3 * one_if b
three_if true x y z = refl
three_if false x y z = refl

pub listed_length : (k v : ℕ) → length (listed k v) ≡ 3 * one_if (contact v)
unfolding listed
listed_length k v = three_if (contact v) _ _ _

-- the bytes of a row that is a contact, and of one that is not
when_zero : (b : Bool) (bytes : List ℕ) → one_if b ≡ 0 → only_if b bytes ≡ []
when_zero true bytes e = absurd (omega arith)
when_zero false bytes e = refl

when_one : (b : Bool) (bytes : List ℕ) → (one_if b ≡ 0 → ⊥) → only_if b bytes ≡ bytes
when_one true bytes e = refl
when_one false bytes e = absurd (e refl)

pub listed_none : (k v : ℕ) → one_if (contact v) ≡ 0 → listed k v ≡ []
unfolding listed
listed_none k v e = when_zero (contact v) _ e

pub listed_three : (k v : ℕ) → (one_if (contact v) ≡ 0 → ⊥) → listed k v ≡ k / Limits.places ∷ k % Limits.places ∷ v ∷ []
unfolding listed
listed_three k v e = when_one (contact v) _ e

-- "three bytes (lower place, higher place, verdict)"
pub listed_pair : (low high v : ℕ) → high < Limits.places → (one_if (contact v) ≡ 0 → ⊥) → listed (cell low high) v ≡ low ∷ high ∷ v ∷ []
listed_pair low high v h e = listed_three (cell low high) v e ∙ ap₂ (λ (a b : ℕ). a ∷ b ∷ v ∷ []) (low_of low high h) (high_of_lem low high h)

-- three stores, one after the other
pub three_stores : (room : List ℕ) (at a b v : ℕ) → set (set (set room at a) (at + 1) b) (at + 2) v ≡ sets room at (a ∷ b ∷ v ∷ [])
three_stores room at a b v =
    let e : at + 1 ≡ suc at = omega arith in
    let f : at + 2 ≡ suc (suc at) = omega arith in
    rw (e, f)

-- one row more
from_more : (s : ℕ) (rows : List ℕ) (k : ℕ) → k < length rows → contacts_from s (take (suc k) rows) ≡ contacts_from s (take k rows) ++ listed (s + k) (get_or rows k 0)
unfolding contacts_from
from_more s [] k h = absurd (omega arith)
from_more s (v ∷ rows) zero h = append-nil (listed s v) ∙ ap (λ (n : ℕ). listed n v) (omega arith)
from_more s (v ∷ rows) (suc k) h =
    ap (λ (l : List ℕ). listed s v ++ l) (from_more (suc s) rows k (omega arith))
    ∙ sym (append_assoc (listed s v) (contacts_from (suc s) (take k rows)) (listed (suc s + k) (get_or rows k 0)))
    ∙ ap (λ (n : ℕ). (listed s v ++ contacts_from (suc s) (take k rows)) ++ listed n (get_or rows k 0)) (omega arith)

pub contacts_more : (rows : List ℕ) (k : ℕ) → k < length rows → contacts (take (k + 1) rows) ≡ contacts (take k rows) ++ listed k (get_or rows k 0)
contacts_more rows k h = rw (add-one k) (from_more 0 rows k h ∙ ap (λ (n : ℕ). contacts (take k rows) ++ listed n (get_or rows k 0)) (zero-add k))

pub contacts_none : (rows : List ℕ) → contacts (take 0 rows) ≡ []
unfolding contacts_from
contacts_none rows = refl

from_most : (s : ℕ) (rows : List ℕ) (k : ℕ) → length (contacts_from s (take k rows)) ≤ length (contacts_from s rows)
unfolding contacts_from
from_most s [] zero = omega arith
from_most s [] (suc k) = omega arith
from_most s (v ∷ rows) zero = omega arith
from_most s (v ∷ rows) (suc k) =
    omega (arith, length-append (listed s v) (contacts_from (suc s) (take k rows)), length-append (listed s v) (contacts_from (suc s) rows), from_most (suc s) rows k)

-- what is listed of the first rows fits where all is
pub contacts_fit : (rows : List ℕ) (k : ℕ) → k < length rows → length (contacts (take k rows)) + length (listed k (get_or rows k 0)) ≤ length (contacts rows)
contacts_fit rows k h =
    omega (arith, ap length (contacts_more rows k h), length-append (contacts (take k rows)) (listed k (get_or rows k 0)), from_most 0 rows (k + 1))

-- a turn of the loop that writes: what is written grows by the row's bytes, and what stands behind them is as it was
pub write_more : (before more room : List ℕ) → length before + length more ≤ length room
    → sets (before ++ drop (length before) room) (length before) more ≡ (before ++ more) ++ drop (length (before ++ more)) room
write_more before more room h =
    let n = length before in
    let rest = drop n room in
    sets-eq more (before ++ rest) n (omega (arith, length-append before rest, length_rest room n))
    ∙ ap₂ (λ (a b : List ℕ). (a ++ more) ++ b) (take-append_seam before rest)
    (drop-append-add before rest (length more) ∙ drop-drop (length more) n room ∙ ap (λ (k : ℕ). drop k room) (sym (length-append before more)))
  where
    length_rest : (l : List ℕ) (k : ℕ) → length l ≤ k + length (drop k l)
    length_rest l zero = omega arith
    length_rest [] (suc k) = omega arith
    length_rest (x ∷ xs) (suc k) = omega (arith, length_rest xs k)

pub listed_more : (rows room : List ℕ) (k : ℕ) → k < length rows → length (contacts rows) ≤ length room
    → sets (contacts (take k rows) ++ drop (length (contacts (take k rows))) room) (length (contacts (take k rows))) (listed k (get_or rows k 0))
    ≡ contacts (take (k + 1) rows) ++ drop (length (contacts (take (k + 1) rows))) room
listed_more rows room k h fits = rw (contacts_more rows k h) (write_more (contacts (take k rows)) (listed k (get_or rows k 0)) room (omega (arith, contacts_fit rows k h)))

-- the two ways out
pub lists_short : (rows room : List ℕ) (n : ℕ) → length (contacts rows) ≡ 3 * n → length room < 3 * n → Lists rows room room (Err ShortRoom)
lists_short rows room n e h = record {
  refusal = inl (omega arith, refl);
  written = λ z. absurd (omega arith);
  count = λ z. absurd (omega arith);
  kept = λ z. refl;
  zeros = λ z. refl;
  named = omega arith;
}

pub lists_all : (rows room after : List ℕ) (n : ℕ) → length (contacts rows) ≡ 3 * n → 3 * n ≤ length room
    → after ≡ contacts rows ++ drop (length (contacts rows)) room → Lists rows room after (Ok n)
lists_all rows room after n e h w = record {
  refusal = inr (λ s. omega arith, refl);
  written = λ z. w;
  count = λ z. e;
  kept = λ z. absurd (omega arith);
  zeros = λ z. absurd (omega arith);
  named = tt;
}

-- one listing is right
pub lists_once : {rows room a b : List ℕ} (q r : Result ℕ Refusal) → Lists rows room a q → Lists rows room b r → (a ≡ b) × (q ≡ r)
lists_once {rows} {room} (Ok m) (Ok n) p q =
    (p.written refl ∙ sym (q.written refl), ap Ok (let a = p.count refl in let b = q.count refl in omega arith))
lists_once {rows} {room} (Ok m) (Err n) p q =
    absurd (omega (arith, q.named, lowest_once (refusals rows room) {m = 0} {n = Refusals.number_of n} p.refusal q.refusal))
lists_once {rows} {room} (Err m) (Ok n) p q =
    absurd (omega (arith, p.named, lowest_once (refusals rows room) {m = Refusals.number_of m} {n = 0} p.refusal q.refusal))
lists_once {rows} {room} (Err m) (Err n) p q =
    (p.kept p.named ∙ sym (q.kept q.named), ap Err (number_once m n (lowest_once (refusals rows room) {m = Refusals.number_of m} {n = Refusals.number_of n} p.refusal q.refusal)))

-- where rows are in order, a row that is listed is a pair's, the lower place first
pub contact_pair : {places : List ℤ} {rows : List ℕ} → RowsInOrder places rows → (k : ℕ) → k < Limits.rows → (one_if (contact (get_or rows k 0)) ≡ 0 → ⊥)
    → PairOf places (k / Limits.places) (k % Limits.places)
contact_pair {places} {rows} o k h c =
    by_pair places (k / Limits.places) (k % Limits.places) (omega arith) (omega arith)
    (λ p. p)
    (λ f. absurd (c (ap (λ (v : ℕ). one_if (contact v)) ((one_cell o k h).other f))))

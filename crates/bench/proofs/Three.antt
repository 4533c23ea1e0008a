-- Three boxes in a row: the rows of a desk that holds them, and its listing, before the move and after it.
-- Rows that are right are one list (`rows_are`), and the listing of that list is computed.
use Rattle.std.specs.Prelude.{◌≡◌, refl, List, [], ◌∷◌, ℕ, zero, suc, ◌<◌, length, set, replicate}
use Rattle.std.proofs.Common.{sym, ap, ◌∙◌, arith, length-set}
use Rattle.std.proofs.lemmas.List.{length-replicate, get_or-replicate}
use Rattle.limits.specs.Limits
use Rattle.rows.specs.Rows.{PairOf, cell, row_at}
use Rattle.rows_list.specs.Contacts.{listed, contacts_from, contacts}
use Rattle.rows.specs.Changes.{rows_once, row_same, row_other}
use Rattle.rows.proofs.Handling.{by_pair}
use Rattle.pieces.specs.Pieces.{Store, Taken, least_to, greatest_to}
use Rattle.rows_right.specs.Right.{RowRight}
use Rattle.rows_right.specs.RowLaws.{right_once}
use Rattle.bench.specs.Table.{HoldsThree, RightRows}
use Rattle.bench.specs.Holding.{apart_row, verdict_row}
use Rattle.bench.proofs.Lists as lists

-- ---- the rows
-- no pair but 0 1, 0 2 and 1 2 has a row
abbrev empty : List ℕ
empty = replicate Limits.rows Limits.no_row

abbrev pub three_rows : ℕ → ℕ → ℕ → List ℕ
three_rows a b c = set (set (set empty (cell 0 1) a) (cell 0 2) b) (cell 1 2) c

module _ (a b c : ℕ) where
  size-0 : length empty ≡ Limits.rows
  size-0 = length-replicate {A = ℕ} Limits.rows Limits.no_row

  size-1 : length (set empty (cell 0 1) a) ≡ Limits.rows
  size-1 = length-set empty (cell 0 1) a ∙ size-0

  size-2 : length (set (set empty (cell 0 1) a) (cell 0 2) b) ≡ Limits.rows
  size-2 = length-set (set empty (cell 0 1) a) (cell 0 2) b ∙ size-1

  size-3 : length (three_rows a b c) ≡ Limits.rows
  size-3 = length-set (set (set empty (cell 0 1) a) (cell 0 2) b) (cell 1 2) c ∙ size-2

  row-0-1 : row_at (three_rows a b c) 0 1 ≡ a
  row-0-1 =
      row_other (set (set empty (cell 0 1) a) (cell 0 2) b) 1 2 c 0 1 (omega arith) (omega arith) (λ e. let k = e.0 in omega arith)
      ∙ row_other (set empty (cell 0 1) a) 0 2 b 0 1 (omega arith) (omega arith) (λ e. let k = e.1 in omega arith)
      ∙ row_same empty 0 1 a size-0 (omega arith) (omega arith)

  row-0-2 : row_at (three_rows a b c) 0 2 ≡ b
  row-0-2 =
      row_other (set (set empty (cell 0 1) a) (cell 0 2) b) 1 2 c 0 2 (omega arith) (omega arith) (λ e. let k = e.0 in omega arith)
      ∙ row_same (set empty (cell 0 1) a) 0 2 b size-1 (omega arith) (omega arith)

  row-1-2 : row_at (three_rows a b c) 1 2 ≡ c
  row-1-2 = row_same (set (set empty (cell 0 1) a) (cell 0 2) b) 1 2 c size-2 (omega arith) (omega arith)

  row-none : (low high : ℕ) → low < Limits.places → high < Limits.places → (low < high → high < 3 → ⊥) → row_at (three_rows a b c) low high ≡ Limits.no_row
  row-none low high hl hh f =
      row_other (set (set empty (cell 0 1) a) (cell 0 2) b) 1 2 c low high (omega arith) hh (λ e. let k = e.0 in let l = e.1 in f (omega arith) (omega arith))
      ∙ row_other (set empty (cell 0 1) a) 0 2 b low high (omega arith) hh (λ e. let k = e.0 in let l = e.1 in f (omega arith) (omega arith))
      ∙ row_other empty 0 1 a low high (omega arith) hh (λ e. let k = e.0 in let l = e.1 in f (omega arith) (omega arith))
      ∙ get_or-replicate Limits.rows (cell low high) Limits.no_row Limits.no_row (omega arith)

-- the lower and the higher of three places
by_three : (C : ℕ → ℕ → Type 0) (low high : ℕ) → low < high → high < 3 → C 0 1 → C 0 2 → C 1 2 → C low high
by_three C zero zero l h a b c = absurd (omega arith)
by_three C zero (suc zero) l h a b c = a
by_three C zero (suc (suc zero)) l h a b c = b
by_three C zero (suc (suc (suc high))) l h a b c = absurd (omega arith)
by_three C (suc zero) zero l h a b c = absurd (omega arith)
by_three C (suc zero) (suc zero) l h a b c = absurd (omega arith)
by_three C (suc zero) (suc (suc zero)) l h a b c = c
by_three C (suc zero) (suc (suc (suc high))) l h a b c = absurd (omega arith)
by_three C (suc (suc low)) high l h a b c = absurd (omega arith)

three_pairs : {d : Store} {x0 x1 x2 : ℕ} → HoldsThree d x0 x1 x2 → (low high : ℕ) → low < high → high < 3 → PairOf d.places low high
three_pairs {d} t low high l k =
    by_three (PairOf d.places) low high l k
    (record { rising = omega arith; first = t.place-0.taken; second = t.place-1.taken })
    (record { rising = omega arith; first = t.place-0.taken; second = t.place-2.taken })
    (record { rising = omega arith; first = t.place-1.taken; second = t.place-2.taken })

-- the verdicts of the three pairs
pub record Right (d : Store) (a b c : ℕ) : Type 0 where
  pub first : RowRight 0 d 0 1 a
  pub second : RowRight 0 d 0 2 b
  pub third : RowRight 0 d 1 2 c

module _ {d : Store} {rows : List ℕ} {x0 x1 x2 : ℕ} (t : HoldsThree d x0 x1 x2) (r : RightRows d rows) where
  rows_are : {a b c : ℕ} → Right d a b c → rows ≡ three_rows a b c
  rows_are {a} {b} {c} k = rows_once r.order.size (size-3 a b c) (λ low high hl hh. by_pair d.places low high hl hh (there low high) (none low high hl hh))
    where
      right : (low high : ℕ) → low < high → Taken d.places low → Taken d.places high → RowRight 0 d low high (row_at rows low high)
      right low high l k h = r.right low high (record { rising = l; first = k; second = h })

      there : (low high : ℕ) → PairOf d.places low high → row_at rows low high ≡ row_at (three_rows a b c) low high
      there low high p =
          by_three (λ i j. row_at rows i j ≡ row_at (three_rows a b c) i j) low high p.rising (t.others high p.second)
          (right_once 0 d 0 1 (right 0 1 (omega arith) t.place-0.taken t.place-1.taken) k.first ∙ sym (row-0-1 a b c))
          (right_once 0 d 0 2 (right 0 2 (omega arith) t.place-0.taken t.place-2.taken) k.second ∙ sym (row-0-2 a b c))
          (right_once 0 d 1 2 (right 1 2 (omega arith) t.place-1.taken t.place-2.taken) k.third ∙ sym (row-1-2 a b c))

      none : (low high : ℕ) → low < Limits.places → high < Limits.places → (PairOf d.places low high → ⊥) → row_at rows low high ≡ row_at (three_rows a b c) low high
      none low high hl hh f =
          r.order.others low high hl hh f
          ∙ sym (row-none a b c low high hl hh (λ l k. f (three_pairs t low high l k)))

-- ---- the listings, computed
listed_before : contacts (three_rows 2 3 3) ≡ 0 ∷ 1 ∷ 2 ∷ 0 ∷ 2 ∷ 3 ∷ 1 ∷ 2 ∷ 3 ∷ []
unfolding contacts_from listed
listed_before = refl

listed_after : contacts (three_rows 2 0 2) ≡ 0 ∷ 1 ∷ 2 ∷ 1 ∷ 2 ∷ 2 ∷ []
unfolding contacts_from listed
listed_after = refl

-- ---- at x = 0, 64, 32, and after the move
pub right_before : {d : Store} → HoldsThree d 0 64 32 → Right d 2 3 3
unfolding least_to greatest_to
right_before t = record {
  first = verdict_row t.place-0 t.place-1 tt lists.boxes-64;
  second = verdict_row t.place-0 t.place-2 tt lists.boxes-0-32;
  third = verdict_row t.place-1 t.place-2 tt lists.boxes-64-32;
}

pub right_after : {d : Store} → HoldsThree d 0 64 128 → Right d 2 0 2
unfolding least_to greatest_to
right_after t = record {
  first = verdict_row t.place-0 t.place-1 tt lists.boxes-64;
  second = apart_row t.place-0 t.place-2 0 (omega arith) tt;
  third = verdict_row t.place-1 t.place-2 tt lists.boxes-64-128;
}

pub listing : (d : Store) (rows : List ℕ) → HoldsThree d 0 64 32 → RightRows d rows → contacts rows ≡ 0 ∷ 1 ∷ 2 ∷ 0 ∷ 2 ∷ 3 ∷ 1 ∷ 2 ∷ 3 ∷ []
listing d rows t r = ap contacts (rows_are t r (right_before t)) ∙ listed_before

pub move_listing : (d : Store) (rows : List ℕ) → HoldsThree d 0 64 128 → RightRows d rows → contacts rows ≡ 0 ∷ 1 ∷ 2 ∷ 1 ∷ 2 ∷ 2 ∷ []
move_listing d rows t r = ap contacts (rows_are t r (right_after t)) ∙ listed_after

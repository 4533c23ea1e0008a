-- A piece that may be put down can be: of any desk in order there is the desk after it, once the right rows are given.
-- Its marks are put in one after the other by their keys; its tallies are counted.
use Rattle.std.specs.Prelude.{◌≡◌, refl, List, ◌∷◌, ◌++◌, ℕ, zero, suc, ◌-◌, ◌*◌, ◌≤◌, ◌<◌, ℤ, get_or, take, drop, replicate}
use Rattle.std.proofs.Common.{sym, ap, ◌∙◌, subst, inl, inr, arith, length-append, take_at, drop_at, drop-drop, take_all}
use Rattle.ints.specs.Counts.{count_of}
use Rattle.limits.specs.Limits
use Rattle.rows.specs.Rows.{Verdict, PairOf, Names, Handled}
use Rattle.rows_tally.specs.Tallies.{BookInOrder}
use Rattle.rows_tally.specs.Counting.{zero_at}
use Rattle.marks.specs.Marks.{Axes, axis_of, InPlace, InPlaceMarks, RangedMarks}
use Rattle.marks.specs.Keys.{key_at}
use Rattle.marks.specs.Sorted.{in_order}
use Rattle.marks.proofs.Cells.{there_in_place}
use Rattle.pieces.specs.declared.placement.Placement.{Placement}
use Rattle.pieces.specs.Pieces.{Sized, Taken, axes_of}
use Rattle.pieces.specs.Store.{ranged}
use Rattle.desk_state.specs.Desk.{Desk, gap_of, put_at}
use Rattle.rows_right.specs.Right.{RowRight}
use Rattle.desk_put.specs.Handled.{MayPut, PutDown}
use Rattle.desk_put.specs.HandledLaws.{put_piece, put_down}

-- ---- the marks
abbrev part_after : Axes → ℕ → List ℕ
part_after a axis = in_order (key_at (axis_of a axis)) Limits.axis_marks

abbrev marks_after : Axes → List ℕ
marks_after a = part_after a 0 ++ (part_after a 1 ++ part_after a 2)

three-parts : {a : Axes} {x y z : List ℕ} → InPlace (axis_of a 0) x → InPlace (axis_of a 1) y → InPlace (axis_of a 2) z → InPlaceMarks a (x ++ (y ++ z))
three-parts {a} {x} {y} {z} p q r =
    let rest : drop Limits.axis_marks (x ++ (y ++ z)) ≡ y ++ z = drop_at x (y ++ z) Limits.axis_marks p.long in
    let twice : drop (2 * Limits.axis_marks) (x ++ (y ++ z)) ≡ drop Limits.axis_marks (y ++ z) = sym (drop-drop Limits.axis_marks Limits.axis_marks (x ++ (y ++ z))) ∙ ap (drop Limits.axis_marks) rest in
    let last : drop (2 * Limits.axis_marks) (x ++ (y ++ z)) ≡ z = twice ∙ drop_at y z Limits.axis_marks q.long in
    record {
      long = omega (arith, length-append x (y ++ z), length-append y z, p.long, q.long, r.long);
      on_x_lem = subst (InPlace (axis_of a 0)) (sym (take_at x (y ++ z) Limits.axis_marks p.long)) p;
      on_y_lem = subst (InPlace (axis_of a 1)) (sym (ap (take Limits.axis_marks) rest ∙ take_at y z Limits.axis_marks q.long)) q;
      on_z_lem = subst (InPlace (axis_of a 2)) (sym (ap (take Limits.axis_marks) last ∙ take_all Limits.axis_marks z (omega (arith, r.long)))) r;
    }

marks_after_lem : (a : Axes) → RangedMarks a → InPlaceMarks a (marks_after a)
marks_after_lem a r =
    three-parts (there_in_place (axis_of a 0) (r 0 (omega arith))) (there_in_place (axis_of a 1) (r 1 (omega arith))) (there_in_place (axis_of a 2) (r 2 (omega arith)))

-- ---- the tallies
-- the tallies counted, and no gap
abbrev book_of : List ℕ → List ℕ
book_of rows = count_of 0 rows ∷ count_of 1 rows ∷ count_of 2 rows ∷ count_of 3 rows ∷ replicate (Limits.book - Limits.tallies) 0

book_of_lem : (rows : List ℕ) → BookInOrder rows (book_of rows)
book_of_lem rows = record { size = refl; counts = counts; gap = omega arith; rest = λ k h _. rest k h }
  where
    counts : (v : ℕ) → Verdict v → get_or (book_of rows) v 0 ≡ count_of v rows
    counts zero h = refl
    counts (suc zero) h = refl
    counts (suc (suc zero)) h = refl
    counts (suc (suc (suc zero))) h = refl
    counts (suc (suc (suc (suc v)))) h = absurd (omega arith)

    rest : (k : ℕ) → Limits.tallies ≤ k → get_or (book_of rows) k 0 ≡ 0
    rest zero h = absurd (omega arith)
    rest (suc zero) h = absurd (omega arith)
    rest (suc (suc zero)) h = absurd (omega arith)
    rest (suc (suc (suc zero))) h = absurd (omega arith)
    rest (suc (suc (suc (suc k)))) h = zero_at (Limits.book - Limits.tallies) k

-- ---- the rows: where no place from n on but p is taken, those with the places below n are all
pub handled_all : {Right : ℕ → ℕ → ℕ → Type 0} {places : List ℤ} {p n : ℕ} {before after : List ℕ} → n ≤ Limits.places → ((q : ℕ) → Taken places q → (q ≡ p → ⊥) → q < n)
    → Handled Right places p n before after → Handled Right places p Limits.places before after
handled_all {places = places} {p} {n} l below d = record {
  size = d.size;
  right = λ low high o c. d.right low high o (narrow o c);
  kept = λ low high h k f. d.kept low high h k (λ o c. f o (widen c));
}
  where
    narrow : {low high : ℕ} → PairOf places low high → Names p Limits.places low high → Names p n low high
    narrow {low} {high} o (inl (e, h)) = let r = o.rising in inl (e, below high o.second (λ k. omega arith))
    narrow {low} {high} o (inr (e, h)) = let r = o.rising in inr (e, below low o.first (λ k. omega arith))

    widen : {low high : ℕ} → Names p n low high → Names p Limits.places low high
    widen (inl (e, h)) = inl (e, omega arith)
    widen (inr (e, h)) = inr (e, omega arith)

-- ---- the desk after a piece is put down, on a desk with no gap
abbrev pub desk_after : Desk → ℕ → Placement → List ℕ → Desk
desk_after d p q rows = record { store = put_at d.store p q; rows = rows; book = book_of rows; marks = marks_after (axes_of (put_at d.store p q)) }

pub can_put : {d : Desk} {p : ℕ} {q : Placement} {rows : List ℕ} → Sized d.store → MayPut d p q → gap_of d ≡ 0
    → Handled (RowRight 0 (put_at d.store p q)) (put_at d.store p q).places p Limits.places d.rows rows → PutDown d p q (desk_after d p q rows)
can_put {d} {p} {q} {rows} size m g h =
    put_down size m refl (marks_after_lem (axes_of (put_at d.store p q)) (ranged (put_piece size m refl).order))
    (subst (λ n. Handled (RowRight n (put_at d.store p q)) (put_at d.store p q).places p Limits.places d.rows rows) (sym g) h)
    (record { order = book_of_lem rows; gap = sym g })

-- The whole buffer: two buffers in place are one, and a buffer of no_mark alone is in place where no place is taken.
-- And what holds on the axis of three lists holds of every axis that agrees with it.
use Rattle.std.specs.Prelude.{◌≡◌, List, ◌++◌, false, ℕ, ◌*◌, ◌<◌, length, drop, replicate}
use Rattle.std.proofs.Common.{ap, sym, ◌∙◌, arith, length-drop, take-append-drop, drop-drop, take_all}
use Rattle.std.proofs.lemmas.List.{length-replicate}
use Rattle.limits.specs.Limits
use Rattle.marks.specs.Marks.{Axes, axis_of, InPlaceMarks, RangedMarks, OthersStayOn, OthersStayMarks, part_x, part_y, part_z}
use Rattle.marks.proofs.Cells.{one_part, none_in_place}

-- the three parts are the whole
pub whole : (marks : List ℕ) → length marks ≡ Limits.marks → marks ≡ part_x marks ++ (part_y marks ++ part_z marks)
whole m h =
    sym (take-append-drop Limits.axis_marks m) ∙ ap (λ (r : List ℕ). part_x m ++ r) (sym (take-append-drop Limits.axis_marks (drop Limits.axis_marks m))
    ∙ ap (λ (r : List ℕ). part_y m ++ r)
    (drop-drop Limits.axis_marks Limits.axis_marks m ∙ sym (take_all Limits.axis_marks (drop (2 * Limits.axis_marks) m) (omega (arith, h, length-drop (2 * Limits.axis_marks) m)))))

-- two buffers in place for the same places and values are one
pub one_buffer : (a : Axes) → RangedMarks a → (m n : List ℕ) → InPlaceMarks a m → InPlaceMarks a n → m ≡ n
one_buffer a r m n p q = whole m p.long ∙ parts ∙ sym (whole n q.long)
  where
    parts : part_x m ++ (part_y m ++ part_z m) ≡ part_x n ++ (part_y n ++ part_z n)
    parts =
        ap (λ (l : List ℕ). l ++ (part_y m ++ part_z m)) (one_part (axis_of a 0) (r 0 (omega arith)) (part_x m) (part_x n) p.on_x_lem q.on_x_lem)
        ∙ ap (λ (l : List ℕ). part_x n ++ (l ++ part_z m)) (one_part (axis_of a 1) (r 1 (omega arith)) (part_y m) (part_y n) p.on_y_lem q.on_y_lem)
        ∙ ap (λ (l : List ℕ). part_x n ++ (part_y n ++ l)) (one_part (axis_of a 2) (r 2 (omega arith)) (part_z m) (part_z n) p.on_z_lem q.on_z_lem)

-- "every mark 65,535"
pub none_in_place_marks : (a : Axes) → ((place : ℕ) → a.taken place ≡ false) → InPlaceMarks a (replicate Limits.marks Limits.no_mark)
none_in_place_marks a h = record {
  long = length-replicate {A = ℕ} Limits.marks Limits.no_mark;
  on_x_lem = none_in_place (axis_of a 0) h;
  on_y_lem = none_in_place (axis_of a 1) h;
  on_z_lem = none_in_place (axis_of a 2) h;
}

-- on each axis the other places stay
pub on_axis_lem : (place axis : ℕ) (old new : Axes) → axis < 3 → OthersStayMarks place old new → OthersStayOn place (axis_of old axis) (axis_of new axis)
on_axis_lem place axis old new h o = record { taken = o.taken; low = λ p. o.low axis p h; high = λ p. o.high axis p h }

-- End marks: the marks of one axis and their order, a part and a whole buffer in place, and how many pairs a move turns round.
-- Document 01, "End marks" and "What the desk can be told".
use Rattle.std.specs.Prelude.{◌≡◌, ◌⊎◌, List, Bool, true, false, cond, ◌&&◌, not, ℕ, ◌+◌, ◌*◌, ◌/◌, ◌%◌, ◌<◌, eqb, ltb, ℤ, length, get_or, take, drop}
use Rattle.std.specs.Bool.{xor}
use Rattle.std.specs.Int.Signed.{lt_z}
use Rattle.limits.specs.Limits
use Rattle.ints.specs.Counts.{one_if, sum_to}
use Rattle.ints.specs.Bounds.{Within}

-- "On each axis a taken place has a low mark and a high mark, the least and greatest placed corner."
pub record Axis : Type 0 where
  pub taken : ℕ → Bool
  pub low : ℕ → ℤ
  pub high : ℕ → ℤ

-- "A mark is written 2 × place for low, 2 × place + 1 for high."
abbrev pub low_mark : ℕ → ℕ
low_mark place = 2 * place

abbrev pub high_mark : ℕ → ℕ
high_mark place = 2 * place + 1

abbrev pub mark_place : ℕ → ℕ
mark_place mark = mark / 2

-- 0 for low, 1 for high
abbrev pub side_of : ℕ → ℕ
side_of mark = mark % 2

abbrev pub mark_value : Axis → ℕ → ℤ
mark_value a mark = cond (eqb (side_of mark) 0) (a.low (mark_place mark)) (a.high (mark_place mark))

-- a mark of a taken place
abbrev pub is_mark : Axis → ℕ → Bool
is_mark a mark = ltb mark Limits.axis_marks && a.taken (mark_place mark)

-- "Marks are ordered by value, then low before high, then smaller place number."
unfoldable pub earlier : Axis → ℕ → ℕ → Bool
earlier a m n =
    cond (lt_z (mark_value a m) (mark_value a n)) true (cond (lt_z (mark_value a n) (mark_value a m)) false
    (cond (ltb (side_of m) (side_of n)) true (cond (ltb (side_of n) (side_of m)) false
    (ltb (mark_place m) (mark_place n)))))

-- "the marks are exactly those of the taken places in order with the right tail": one axis's part, cell by cell
pub record InPlace (a : Axis) (part : List ℕ) : Type 0 where
  pub long : length part ≡ Limits.axis_marks
  pub each : (i : ℕ) → i < Limits.axis_marks → (get_or part i 0 ≡ Limits.no_mark) ⊎ (is_mark a (get_or part i 0) ≡ true)
  pub all : (mark : ℕ) → is_mark a mark ≡ true → (i : ℕ) × (i < Limits.axis_marks) × (get_or part i 0 ≡ mark)
  pub order : (i j : ℕ) → i < j → j < Limits.axis_marks → (get_or part j 0 ≡ Limits.no_mark → ⊥) → (get_or part i 0 ≡ Limits.no_mark → ⊥) × (earlier a (get_or part i 0) (get_or part j 0) ≡ true)

-- "one lent buffer of 384 16-bit numbers, 128 an axis; each axis has its own part of that buffer"; W4: "The marks buffer becomes 768 numbers", 256 an axis
abbrev pub part_x : List ℕ → List ℕ
part_x marks = take Limits.axis_marks marks

abbrev pub part_y : List ℕ → List ℕ
part_y marks = take Limits.axis_marks (drop Limits.axis_marks marks)

abbrev pub part_z : List ℕ → List ℕ
part_z marks = take Limits.axis_marks (drop (2 * Limits.axis_marks) marks)

-- all three axes: which places are taken, and the ends of each on axis 0, 1 and 2
pub record Axes : Type 0 where
  pub taken : ℕ → Bool
  pub low : ℕ → ℕ → ℤ
  pub high : ℕ → ℕ → ℤ

abbrev pub axis_of : Axes → ℕ → Axis
axis_of a axis = record { taken = a.taken; low = a.low axis; high = a.high axis }

pub record InPlaceMarks (a : Axes) (marks : List ℕ) : Type 0 where
  pub long : length marks ≡ Limits.marks
  pub on_x_lem : InPlace (axis_of a 0) (part_x marks)
  pub on_y_lem : InPlace (axis_of a 1) (part_y marks)
  pub on_z_lem : InPlace (axis_of a 2) (part_z marks)

-- the placed corners of all taken places are in range
abbrev pub Ranged : Axis → Type 0
Ranged a = (mark : ℕ) → is_mark a mark ≡ true → Within Limits.placed_reach (mark_value a mark)

abbrev pub RangedMarks : Axes → Type 0
RangedMarks a = (axis : ℕ) → axis < 3 → Ranged (axis_of a axis)

-- two axes with the same taken places and the same values
pub record Agree (a b : Axis) : Type 0 where
  pub taken : (p : ℕ) → p < Limits.places → a.taken p ≡ b.taken p
  pub low : (p : ℕ) → p < Limits.places → a.taken p ≡ true → a.low p ≡ b.low p
  pub high : (p : ℕ) → p < Limits.places → a.taken p ≡ true → a.high p ≡ b.high p

-- one place is handled and every other stays: what a place, a move and a removal have in common
pub record OthersStayOn (place : ℕ) (old new : Axis) : Type 0 where
  pub taken : (p : ℕ) → p < Limits.places → (p ≡ place → ⊥) → old.taken p ≡ new.taken p
  pub low : (p : ℕ) → p < Limits.places → (p ≡ place → ⊥) → old.taken p ≡ true → old.low p ≡ new.low p
  pub high : (p : ℕ) → p < Limits.places → (p ≡ place → ⊥) → old.taken p ≡ true → old.high p ≡ new.high p

pub record OthersStayMarks (place : ℕ) (old new : Axes) : Type 0 where
  pub taken : (p : ℕ) → p < Limits.places → (p ≡ place → ⊥) → old.taken p ≡ new.taken p
  pub low : (axis p : ℕ) → axis < 3 → p < Limits.places → (p ≡ place → ⊥) → old.taken p ≡ true → old.low axis p ≡ new.low axis p
  pub high : (axis p : ℕ) → axis < 3 → p < Limits.places → (p ≡ place → ⊥) → old.taken p ≡ true → old.high axis p ≡ new.high axis p

-- "the number of pairs (mark of the moved piece, mark of another piece) whose order before and after differs": on one axis, and over the three
abbrev pub crossed : Axis → Axis → ℕ → ℕ → ℕ
crossed old new own other = one_if (xor (earlier old own other) (earlier new own other))

abbrev pub is_other : Axis → ℕ → ℕ → Bool
is_other a place mark = is_mark a mark && not (eqb (mark_place mark) place)

unfoldable pub changed : Axis → Axis → ℕ → ℕ
changed old new place = sum_to Limits.axis_marks (λ other. cond (is_other old place other) (crossed old new (low_mark place) other + crossed old new (high_mark place) other) 0)

abbrev pub changed_marks : Axes → Axes → ℕ → ℕ
changed_marks old new place = changed (axis_of old 0) (axis_of new 0) place + changed (axis_of old 1) (axis_of new 1) place + changed (axis_of old 2) (axis_of new 2) place

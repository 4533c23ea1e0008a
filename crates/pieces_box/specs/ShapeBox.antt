-- The box of a shape, before any turn: its least and its greatest number on each axis, found by one visit of its corners (request W3).
-- "A turn only swaps or negates axes": `ends_along` is what a turn makes of it, and `Boxed` the table that a command works out once.
use Rattle.std.specs.Prelude.{ℕ, ◌+◌, ◌-◌, ◌*◌, ◌/◌, ◌%◌, ◌<◌, ◌≡◌, cond, List, [], ◌∷◌, eqb, ℤ, pos, neg_ℤ, nat_abs, ◌+ℤ◌, length, get_or}
use Rattle.std.specs.Int.Signed.{lt_z}
use Rattle.limits.specs.Limits
use Rattle.limits.specs.Numbered.{Numbered}
use Rattle.ints.specs.Bounds.{Within}
use Rattle.turns.specs.Turns.{axis_number, signed_axis}
use Rattle.marks.specs.Keys.{key_for, no_key}
use Rattle.pieces.specs.Pieces.{Taken, taken_in, count_in, held_in, turn_in, lesser, greater, least_to, greatest_to}
use Rattle.pieces_box.specs.declared.boxes.Ends.{Ends}
use Rattle.pieces_box.specs.declared.boxes.ShapeBox.{ShapeBox}

-- number `axis` of corner i of a shape
abbrev pub on_axis : List ℤ → ℕ → ℕ → ℕ → ℤ
on_axis shapes s axis i = get_or shapes (s * Limits.shape_cells + 1 + (3 * i + axis)) (pos 0)

-- the ends of the first n corners on an axis, and on all three
abbrev pub ends_to : List ℤ → ℕ → ℕ → ℕ → Ends
ends_to shapes s n axis = record { low = least_to n (on_axis shapes s axis); high = greatest_to n (on_axis shapes s axis) }

abbrev pub box_to : List ℤ → ℕ → ℕ → ShapeBox
box_to shapes s n = record { x = ends_to shapes s n 0; y = ends_to shapes s n 1; z = ends_to shapes s n 2 }

abbrev pub box_of : List ℤ → ℕ → ShapeBox
box_of shapes s = box_to shapes s (nat_abs (count_in shapes s))

-- the ends of one number, and with one number more
abbrev pub ends_from : ℤ → Ends
ends_from v = record { low = v; high = v }

abbrev pub stretched : Ends → ℤ → Ends
stretched e v = record { low = lesser v e.low; high = greater v e.high }

-- the same on three axes
abbrev pub box_from : ℤ → ℤ → ℤ → ShapeBox
box_from x y z = record { x = ends_from x; y = ends_from y; z = ends_from z }

abbrev pub widened : ShapeBox → ℤ → ℤ → ℤ → ShapeBox
widened b x y z = record { x = stretched b.x x; y = stretched b.y y; z = stretched b.z z }

-- the ends on axis 0, 1 or 2, and along a signed axis: negated and exchanged where it is less than 0
abbrev pub ends_on : ShapeBox → ℕ → Ends
ends_on b axis = cond (eqb axis 0) b.x (cond (eqb axis 1) b.y b.z)

abbrev pub opposed : Ends → Ends
opposed e = record { low = neg_ℤ e.high; high = neg_ℤ e.low }

abbrev pub ends_along : ShapeBox → ℤ → Ends
ends_along b k = cond (lt_z k (pos 0)) (opposed (ends_on b (axis_number (nat_abs k)))) (ends_on b (axis_number (nat_abs k)))

-- moved by an offset
abbrev pub moved_by : Ends → ℤ → Ends
moved_by e o = record { low = e.low +ℤ o; high = e.high +ℤ o }

-- the table of boxes: one for each shape
abbrev pub box_in : List ShapeBox → ℕ → ShapeBox
box_in boxes s = get_or boxes s (box_from (pos 0) (pos 0) (pos 0))

-- a box's six numbers, low and high on x, on y, on z; and number k of a shape's in the table
abbrev pub box_list : ShapeBox → List ℤ
box_list b = b.x.low ∷ b.x.high ∷ b.y.low ∷ b.y.high ∷ b.z.low ∷ b.z.high ∷ []

abbrev pub box_number : List ShapeBox → ℕ → ℕ → ℤ
box_number boxes s k = get_or (box_list (box_in boxes s)) k (pos 0)

-- the box of each loaded shape stands at its number
abbrev pub BoxAt : List ℤ → ℕ → ShapeBox → Type 0
BoxAt shapes s b = Numbered (Limits.corners + 1) (count_in shapes s) → (nat_abs (count_in shapes s) ≡ 0 → ⊥) → b ≡ box_of shapes s

pub record Boxed (shapes : List ℤ) (boxes : List ShapeBox) : Type 0 where
  pub is : (s : ℕ) → s < Limits.shapes → BoxAt shapes s (box_in boxes s)

-- the ends of the piece at a place, out of the boxes and the placements alone: those of the box along the axis that the turn puts there, moved by the offset
abbrev pub box_held : List ShapeBox → List ℤ → ℕ → ShapeBox
box_held boxes places p = box_in boxes (nat_abs (held_in places p) - 1)

abbrev pub ends_in : List ShapeBox → List ℤ → ℕ → ℕ → Ends
ends_in boxes places axis p = moved_by (ends_along (box_held boxes places p) (signed_axis (nat_abs (turn_in places p)) axis)) (get_or places (Limits.place_cells * p + 2 + axis) (pos 0))

-- what is asked of them: numbers in range
pub record NearEnds (e : Ends) : Type 0 where
  pub low : Within Limits.shape_reach e.low
  pub high : Within Limits.shape_reach e.high

pub record NearBox (b : ShapeBox) : Type 0 where
  pub x : NearEnds b.x
  pub y : NearEnds b.y
  pub z : NearEnds b.z

pub record EndsAsked (boxes : List ShapeBox) (places : List ℤ) (p : ℕ) : Type 0 where
  pub place : p < Limits.places
  pub some : nat_abs (held_in places p) ≡ 0 → ⊥
  pub shape : Numbered (Limits.shapes + 1) (held_in places p)
  pub turn : Numbered Limits.turns (turn_in places p)
  pub near : NearBox (box_held boxes places p)
  pub offset : (axis : ℕ) → axis < 3 → Within Limits.shape_reach (get_or places (Limits.place_cells * p + 2 + axis) (pos 0))

pub record AllAsked (boxes : List ShapeBox) (places : List ℤ) : Type 0 where
  pub all : (p : ℕ) → Taken places p → EndsAsked boxes places p

-- the keys of all marks of an axis, out of the boxes and the placements alone
abbrev pub key_in : List ShapeBox → List ℤ → ℕ → ℕ → ℕ
key_in boxes places axis mark =
    cond (taken_in places (mark / 2))
    (key_for (cond (eqb (mark % 2) 0) (ends_in boxes places axis (mark / 2)).low (ends_in boxes places axis (mark / 2)).high) mark)
    no_key

pub record KeysIn (boxes : List ShapeBox) (places : List ℤ) (axis : ℕ) (keys : List ℕ) : Type 0 where
  pub long : length keys ≡ Limits.axis_marks
  pub is : (mark : ℕ) → mark < Limits.axis_marks → get_or keys mark 0 ≡ key_in boxes places axis mark

-- the same of the marks of the first so many places
pub record KeysTo (boxes : List ShapeBox) (places : List ℤ) (axis n : ℕ) (keys : List ℕ) : Type 0 where
  pub long : length keys ≡ Limits.axis_marks
  pub is : (mark : ℕ) → mark < 2 * n → get_or keys mark 0 ≡ key_in boxes places axis mark

-- The key of a mark: one number that decides document 01's order, so that code and laws compare numbers only.
-- What is no mark of a taken place has the key `no_key`, above every mark's.
use Rattle.std.specs.Prelude.{◌≡◌, List, cond, ℕ, ◌+◌, ◌*◌, ◌/◌, ◌%◌, ◌<◌, ltb, ℤ, pos, nat_abs, ◌+ℤ◌, get_or, set, replicate}
use Rattle.limits.specs.Limits
use Rattle.marks.specs.declared.MarkKeys.{MarkKeys}
use Rattle.marks.specs.Marks.{Axis, Axes, axis_of, low_mark, high_mark, mark_place, side_of, mark_value, is_mark, Ranged}

abbrev pub no_key : ℕ
no_key = 4294967295

-- the keys of an axis, of which no mark has one
abbrev pub no_keys : List ℕ
no_keys = replicate Limits.axis_marks no_key

-- a value in range, counted from the least
abbrev pub raised : ℤ → ℕ
raised value = nat_abs (value +ℤ pos Limits.placed_reach)

abbrev pub key_for : ℤ → ℕ → ℕ
key_for value mark = (raised value * 2 + side_of mark) * Limits.places + mark_place mark

-- the mark that a key names
abbrev pub mark_in : ℕ → ℕ
mark_in key = 2 * (key % Limits.places) + key / Limits.places % 2

unfoldable pub key_at : Axis → ℕ → ℕ
key_at a mark = cond (is_mark a mark) (key_for (mark_value a mark) mark) no_key

-- a list of keys, one for each number that a mark can be, is the axis's
pub record Keyed (a : Axis) (keys : List ℕ) : Type 0 where
  pub ranged : Ranged a
  pub is : (mark : ℕ) → mark < Limits.axis_marks → get_or keys mark 0 ≡ key_at a mark

pub record KeyedMarks (a : Axes) (x y z : List ℕ) : Type 0 where
  pub on_x_lem : Keyed (axis_of a 0) x
  pub on_y_lem : Keyed (axis_of a 1) y
  pub on_z_lem : Keyed (axis_of a 2) z

-- the key that the list has for a number of a part
abbrev pub key_of : List ℕ → ℕ → ℕ
key_of keys q = cond (ltb q Limits.axis_marks) (get_or keys q 0) no_key

-- the keys of a place's two marks, and a list of keys in which they are new
abbrev pub keys_at : List ℕ → ℕ → MarkKeys
keys_at keys place = record { low = get_or keys (low_mark place) 0; high = get_or keys (high_mark place) 0 }

abbrev pub keys_put : List ℕ → ℕ → MarkKeys → List ℕ
keys_put keys place k = set (set keys (high_mark place) k.high) (low_mark place) k.low

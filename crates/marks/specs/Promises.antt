-- What the functions that keep the marks promise, for any contents of what they are lent.
-- Each says what its result means in document 01's words; a count is also pinned by a sum over keys.
use Rattle.std.specs.Prelude.{◌≡◌, List, true, ℕ, ◌+◌, ◌-◌, ◌*◌, ◌≤◌}
use Rattle.limits.specs.Limits
use Rattle.marks.specs.Marks.{Axis, Axes, InPlace, InPlaceMarks, OthersStayOn, OthersStayMarks, changed, changed_marks}
use Rattle.marks.specs.declared.MarkKeys.{MarkKeys}
use Rattle.marks.specs.Keys.{Keyed, KeyedMarks, keys_put}
use Rattle.marks.specs.Changed.{changed_keys}

-- the two keys of a place are new, and its marks stand by them: a place, a move and a removal keep the part, and the buffer, in place;
-- one in place is the only one that is (Cells `one_part`, Buffer `one_buffer`), so nothing else can be left there
pub record Reordered (place : ℕ) (k : MarkKeys) (keys keys' before after : List ℕ) : Type 0 where
  pub put : keys' ≡ keys_put keys place k
  pub stays : (old new : Axis) → Keyed old keys → Keyed new keys' → InPlace old before → InPlace new after

pub record ReorderedMarks (place : ℕ) (kx ky kz : MarkKeys) (x y z x' y' z' before after : List ℕ) : Type 0 where
  pub put_x : x' ≡ keys_put x place kx
  pub put_y : y' ≡ keys_put y place ky
  pub put_z : z' ≡ keys_put z place kz
  pub stays : (old new : Axes) → KeyedMarks old x y z → KeyedMarks new x' y' z' → InPlaceMarks old before → InPlaceMarks new after

-- a move's count on one axis, and over the three
pub record Counted (old new : List ℕ) (place count : ℕ) : Type 0 where
  pub is : count ≡ changed_keys old new place
  pub most : count ≤ 4 * (Limits.places - 1)
  pub true_count : (a b : Axis) → Keyed a old → Keyed b new → OthersStayOn place a b → a.taken place ≡ true → b.taken place ≡ true → count ≡ changed a b place

pub record CountedMarks (ox oy oz nx ny nz : List ℕ) (place count : ℕ) : Type 0 where
  pub is : count ≡ changed_keys ox nx place + changed_keys oy ny place + changed_keys oz nz place
  pub most : count ≤ Limits.move_most
  pub true_count : (a b : Axes) → KeyedMarks a ox oy oz → KeyedMarks b nx ny nz → OthersStayMarks place a b → a.taken place ≡ true → b.taken place ≡ true → count ≡ changed_marks a b place

-- WRITING A SHAPE (document 02, W7): "Write a shape back with no faces .. Writing gives refusals 1, 2, 6 and 13."; W2: "Here and in W7 the room past what is
-- written keeps its value." The text itself stands in crates/off_write/specs/Written.antt. No laws stand here.
use Rattle.std.specs.Prelude.{ℕ, ◌*◌, ◌<◌, ◌≡◌, List, [], ◌∷◌, ◌++◌, ℤ, nat_abs, length, drop, Result, Ok, Err}
use Rattle.limits.specs.Limits
use Rattle.limits.specs.Lowest.{Rule, Lowest, ◌when◌}
use Rattle.limits.specs.Refusals.{number_of}
use Rattle.limits.specs.declared.Refusal.{Refusal}
use Rattle.pieces.specs.Pieces.{Store, corners_of, shape_value, list_to}
use Rattle.desk_state.specs.Desk.{Desk, InOrder}
use Rattle.desk_refusals.specs.Parts.{shape_refusals}
use Rattle.off_write.specs.Written.{off_text}

-- the numbers of shape s, three for each of its corners
abbrev pub numbers_of_shape : Store → ℕ → List ℤ
numbers_of_shape d s = list_to (3 * corners_of d s) (shape_value d s)

abbrev pub shape_text : Store → ℤ → List ℕ
shape_text d shape = off_text (numbers_of_shape d (nat_abs shape))

-- 13: "result room too short"
abbrev pub room_refusals : List ℕ → List ℕ → List Rule
room_refusals text room = Limits.short_room when (length room < length text) ∷ []

abbrev pub write_refusals : Desk → ℤ → List ℕ → List Rule
write_refusals d shape room = Limits.disorder when (InOrder d → ⊥) ∷ (shape_refusals d.store shape ++ room_refusals (shape_text d.store shape) room)

-- 0 and how many bytes were written, or the number of the refusal and 0
pub record Written : Type 0 where
  pub number : ℕ
  pub count : ℕ

abbrev pub written_of : Result ℕ Refusal → Written
written_of (Ok n) = record { number = Limits.done; count = n }
written_of (Err r) = record { number = number_of r; count = 0 }

-- a text at the start of the room, the rest of which keeps its value; or a refusal, and the room as it was
pub record WrittenAs (refusals : List Rule) (text room after : List ℕ) (r : Written) : Type 0 where
  pub refusal : Lowest refusals r.number
  pub written : r.number ≡ Limits.done → after ≡ text ++ drop (length text) room
  pub count : r.number ≡ Limits.done → r.count ≡ length text
  pub kept : (r.number ≡ Limits.done → ⊥) → after ≡ room
  pub zeros : (r.number ≡ Limits.done → ⊥) → r.count ≡ 0

-- the desk is lent to be read alone; the room is `after` then
abbrev pub Writes : Desk → ℤ → List ℕ → List ℕ → Written → Type 0
Writes d shape room after r = WrittenAs (write_refusals d shape room) (shape_text d.store shape) room after r

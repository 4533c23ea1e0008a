-- A RUN EXHIBITED, so that the theorem over runs (`runs` Theorem.antt) speaks of something: document 01's three boxes and the move, told to a desk.
-- To be read beside the document, "Bench pieces"; the proof is `exhibited` in Exhibiting.antt.
use Rattle.std.specs.Prelude.{◌≡◌, List, [], ◌∷◌, ℕ, pos, Ok}
use Rattle.rows_list.specs.Contacts.{contacts}
use Rattle.desk_state.specs.Desk.{Desk}
use Rattle.desk.specs.Commands.{Does}
use Rattle.desk.specs.declared.Command.TheVariants.{Load, Place, Move}
use Rattle.runs.specs.Log.{Entry, ◌with◌, plan_of}
use Rattle.runs.specs.Count.{reported}
use Rattle.runs.specs.Reached.{Reached}
use Rattle.bench.specs.Table.{B, upright, new_offset}

-- "B is the box 64, 64, 64 steps", loaded as shape 0
abbrev pub the_box : Entry
the_box = Load (pos 0) with B

-- B at a place and an offset along x, in turn 0
abbrev pub box_at : ℕ → ℕ → Entry
box_at p x = Place (pos p) (upright (pos 0) x 0 0) with []

-- "Places 0, 1, 2 hold B at x = 0, 64, 32." The newest command comes first, and the desk was started before them
abbrev pub three_boxes : List Entry
three_boxes = box_at 2 32 ∷ box_at 1 64 ∷ box_at 0 0 ∷ the_box ∷ []

-- "Move place 2 to x = 128"
abbrev pub the_move : Entry
the_move = Move (pos 2) (pos 0) new_offset with []

-- there is a desk that was reached so, the move is accepted on it, and then there is the desk after it
pub record Exhibited : Type 0 where
  pub before : Desk
  pub after : Desk
  pub reached : Reached before three_boxes
  -- "The whole listing is 0 1 2, 0 2 3, 1 2 3 (nine bytes)."
  pub listing : contacts before.rows ≡ 0 ∷ 1 ∷ 2 ∷ 0 ∷ 2 ∷ 3 ∷ 1 ∷ 2 ∷ 3 ∷ []
  -- "count 3, listing 0 1 2, 1 2 2."; the count is that of the plan's pieces alone
  pub moves : Does the_move.command the_move.numbers before after (Ok 3)
  pub counted : reported the_move (plan_of three_boxes) ≡ 3
  pub move_reached : Reached after (the_move ∷ three_boxes)
  pub move_listing : contacts after.rows ≡ 0 ∷ 1 ∷ 2 ∷ 1 ∷ 2 ∷ 2 ∷ []

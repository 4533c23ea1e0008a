-- WHAT THE DESK CAN BE TOLD, as document 01 has it: one record for each command and question, between what was lent at entry, at exit, and the answer.
-- Refused: the lowest number that applies, and nothing that was lent has changed. What several commands refuse stands in crate `desk_refusals`, Parts.antt; the laws in CommandLaws.antt.
use Rattle.std.specs.Prelude.{◌≡◌, List, [], ◌∷◌, ◌++◌, ◌⊎◌, ℕ, ◌*◌, ◌≤◌, ◌<◌, ℤ, pos, nat_abs, ◌-ℤ◌, length, drop, replicate, Result, Ok, Err}
use Rattle.limits.specs.Limits
use Rattle.limits.specs.Lowest.{Rule, Lowest, ◌when◌}
use Rattle.limits.specs.Refusals.{answer_number}
use Rattle.limits.specs.declared.Refusal.{Refusal}
use Rattle.rows_list.specs.Contacts as listing
use Rattle.space.specs.Lists.{LengthFits, InReach}
use Rattle.marks.specs.Marks.{changed_marks}
use Rattle.pieces.specs.declared.placement.Placement.{Placement}
use Rattle.pieces.specs.declared.placement.Offset.{Offset}
use Rattle.pieces.specs.Pieces.{Store, Loaded, Taken, held_in, axes_of, piece_at}
use Rattle.verdict.specs.Answers.{Answer, nothing, Carries, GapFits}
use Rattle.desk_state.specs.Desk.{Desk, desk_of, gap_of, InOrder, loaded_at, gap_at}
use Rattle.desk_put.specs.Handled.{PutDown, Emptied}
use Rattle.limits.specs.Numbered.{Numbered}
use Rattle.desk_refusals.specs.Parts.{shape_refusals, empty_refusals, taken_refusals, placement_refusals, two_refusals}
use Rattle.desk.specs.declared.Command.{Command}
use Rattle.desk.specs.declared.Command.TheVariants.{Start, Load, Place, Move, Remove, Gap}

-- the answer to a command: its count, or a refusal
abbrev pub Outcome : Type 0
Outcome = Result ℕ Refusal

-- document 01's number of an answer, 0 where it is done, and its count, zero on a refusal
abbrev pub number_of : Outcome → ℕ
number_of r = answer_number r

abbrev pub outcome_count : Outcome → ℕ
outcome_count (Ok n) = n
outcome_count (Err r) = 0

-- "0 is done": what is refused has another number
abbrev pub Named : Outcome → Type 0
Named (Ok n) = Unit {0}
Named (Err r) = 0 < answer_number {A = ℕ} (Err r)

-- every command: "the lowest number that applies is given, and only where it applies. Every other value in the answer is zero; desk, marks and room
-- stay as they were." Else what the command is accepted for holds, of its count
pub record Commanded (l : List Rule) (Accepted : ℕ → Type 0) (before after : Desk) (r : Outcome) : Type 0 where
  pub refusal : Lowest l (number_of r)
  pub kept : 0 < number_of r → after ≡ before
  pub done : number_of r ≡ 0 → Accepted (outcome_count r)
  pub named : Named r

-- ---- "Start afresh: no shapes, places or rows, tallies 0, every mark 65,535." W6: the gap "is 0 at the start". Cells that mean nothing are 0 too
abbrev pub fresh_desk : Desk
fresh_desk =
    desk_of
    (replicate Limits.shapes_length (pos 0))
    (replicate Limits.places_length (pos 0))
    (replicate Limits.rows Limits.no_row)
    (replicate Limits.book 0)
    (replicate Limits.marks Limits.no_mark)

-- 1: "starting afresh: the length only"
abbrev pub start_refusals : Desk → List Rule
start_refusals d = Limits.disorder when (length d.marks ≡ Limits.marks → ⊥) ∷ []

abbrev pub Started : Desk → Desk → Outcome → Type 0
Started before after r = Commanded (start_refusals before) (λ count. (after ≡ fresh_desk) × (count ≡ 0)) before after r

-- ---- "Load a shape at a number": 1, 2, 3 "a corner list's length isn't 3 × (1 to 32)" (to 64 since W4), 4 "a shape's corner number is beyond ±65,536",
-- 5 "load: number already loaded"
abbrev pub new_shape_refusals : Store → ℤ → List ℤ → List Rule
new_shape_refusals d shape numbers =
    Limits.shape_number when (Numbered Limits.shapes shape → ⊥)
    ∷ Limits.list_length when (LengthFits (length numbers) → ⊥)
    ∷ Limits.corner_range when (InReach Limits.shape_reach numbers → ⊥)
    ∷ Limits.shape_loaded when (Loaded d (nat_abs shape))
    ∷ []

abbrev pub load_refusals : Desk → ℤ → List ℤ → List Rule
load_refusals d shape numbers = Limits.disorder when (InOrder d → ⊥) ∷ new_shape_refusals d.store shape numbers

abbrev pub Loads : Desk → ℤ → List ℤ → Desk → Outcome → Type 0
Loads before shape numbers after r = Commanded (load_refusals before shape numbers) (λ count. (after ≡ loaded_at before (nat_abs shape) numbers) × InOrder after × (count ≡ 0)) before after r

-- ---- "Place at an empty place": 1, 2, 6, 7, 8, 10, 11
abbrev pub place_refusals : Desk → ℤ → Placement → List Rule
place_refusals d place q =
    Limits.disorder when (InOrder d → ⊥) ∷ (shape_refusals d.store q.shape ++ (empty_refusals d.store.places place ++ placement_refusals q.turn q.x q.y q.z))

abbrev pub Places : Desk → ℤ → Placement → Desk → Outcome → Type 0
Places before place q after r = Commanded (place_refusals before place q) (λ count. PutDown before (nat_abs place) q after × (count ≡ 0)) before after r

-- ---- "Move a taken place to a new turn and offset": 1, 7, 9, 10, 11
abbrev pub move_refusals : Desk → ℤ → ℤ → Offset → List Rule
move_refusals d place turn o = Limits.disorder when (InOrder d → ⊥) ∷ (taken_refusals d.store.places place ++ placement_refusals turn o.x o.y o.z)

-- the shape of place p stays
abbrev pub moved_to : List ℤ → ℕ → ℤ → Offset → Placement
moved_to places p turn o = record { shape = held_in places p -ℤ pos 1; turn = turn; x = o.x; y = o.y; z = o.z }

-- "A move reports a count: over the three axes, the number of pairs (mark of the moved piece, mark of another piece) whose order before and after differs. It is at most 756."
-- W4: "the move count's limit becomes 1,524"
pub record MovedBy (before : Desk) (p : ℕ) (turn : ℤ) (o : Offset) (after : Desk) (count : ℕ) : Type 0 where
  pub put : PutDown before p (moved_to before.store.places p turn o) after
  pub counted : count ≡ changed_marks (axes_of before.store) (axes_of after.store) p
  pub most : count ≤ Limits.move_most

abbrev pub Moves : Desk → ℤ → ℤ → Offset → Desk → Outcome → Type 0
Moves before place turn o after r = Commanded (move_refusals before place turn o) (MovedBy before (nat_abs place) turn o after) before after r

-- ---- "Remove": 1, 7, 9
abbrev pub remove_refusals : Desk → ℤ → List Rule
remove_refusals d place = Limits.disorder when (InOrder d → ⊥) ∷ taken_refusals d.store.places place

abbrev pub Removed : Desk → ℤ → Desk → Outcome → Type 0
Removed before place after r = Commanded (remove_refusals before place) (λ count. Emptied before (nat_abs place) after × (count ≡ 0)) before after r

-- ---- W6: the gap "can be set only while no place is taken": 1, 24 "gap out of range, or set while a place is taken"
pub record SomeTaken (places : List ℤ) : Type 0 where
  pub place : ℕ
  pub taken : Taken places place

abbrev pub gap_refusals : Desk → ℤ → List Rule
gap_refusals d gap = Limits.disorder when (InOrder d → ⊥) ∷ Limits.gap_refused when ((GapFits gap → ⊥) ⊎ SomeTaken d.store.places) ∷ []

-- "An accepted setting stores its gap and changes nothing else; only another setting or a fresh start alters it."
abbrev pub SetsGap : Desk → ℤ → Desk → Outcome → Type 0
SetsGap before gap after r = Commanded (gap_refusals before gap) (λ count. (after ≡ gap_at before (nat_abs gap)) × InOrder after × (count ≡ 0)) before after r

-- ---- "List contacts". 1: "the desk, or the length of its marks buffer, is not in order"; then what the listing itself refuses
abbrev pub contact_refusals : Desk → List ℕ → List Rule
contact_refusals d room = Limits.disorder when (InOrder d → ⊥) ∷ listing.refusals d.rows room

-- the desk is lent to be read alone; the room is `after` then
pub record ListsContacts (d : Desk) (room after : List ℕ) (r : Result ℕ Refusal) : Type 0 where
  pub refusal : Lowest (contact_refusals d room) (listing.number_of r)
  pub written : listing.number_of r ≡ 0 → after ≡ listing.contacts d.rows ++ drop (length (listing.contacts d.rows)) room
  pub count : listing.number_of r ≡ 0 → length (listing.contacts d.rows) ≡ 3 * listing.rows_of r
  pub kept : 0 < listing.number_of r → after ≡ room
  pub zeros : 0 < listing.number_of r → listing.rows_of r ≡ 0
  pub named : listing.Named r

-- ---- "Ask for the pair verdict of two different taken places": 1, 7, 9, 12
abbrev pub pair_refusals : Desk → ℤ → ℤ → List Rule
pair_refusals d first second = Limits.disorder when (InOrder d → ⊥) ∷ two_refusals d.store.places first second

-- the desk is lent to be read alone; "The first piece is the one named first." W6: the desk's gap "serves places too"
pub record Pairs (d : Desk) (first second : ℤ) (r : Answer) : Type 0 where
  pub refusal : Lowest (pair_refusals d first second) r.number
  pub zeros : (r.number ≡ Limits.done → ⊥) → r ≡ nothing r.number
  pub carries : r.number ≡ Limits.done → Carries (gap_of d) (piece_at d.store (nat_abs first)) (piece_at d.store (nat_abs second)) r

-- ---- one command, with the corner numbers that come with it: a load takes them, every other command passes them over
abbrev pub Does : Command → List ℤ → Desk → Desk → Outcome → Type 0
Does Start numbers before after r = Started before after r
Does (Load shape) numbers before after r = Loads before shape numbers after r
Does (Place place q) numbers before after r = Places before place q after r
Does (Move place turn o) numbers before after r = Moves before place turn o after r
Does (Remove place) numbers before after r = Removed before place after r
Does (Gap gap) numbers before after r = SetsGap before gap after r

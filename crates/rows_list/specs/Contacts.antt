-- The listing of contacts, in the words of document 01, "What the desk can be told": which rows are listed, as which bytes, and when it is refused.
-- The row of the places low < high stands at low × places + high, so that the rows' own order is the rising order of the two places.
use Rattle.std.specs.Prelude.{ℕ, suc, ◌*◌, ◌/◌, ◌%◌, ◌<◌, ◌≡◌, List, [], ◌∷◌, ◌++◌, Bool, true, false, ◌||◌, eqb, length, drop, Result, Ok, Err}
use Rattle.limits.specs.Limits
use Rattle.limits.specs.Lowest.{Rule, Lowest, ◌when◌}
use Rattle.limits.specs.Refusals.{answer_number}
use Rattle.limits.specs.declared.Refusal.{Refusal}

-- "rows 2 and 3"
abbrev pub contact : ℕ → Bool
contact v = eqb v Limits.touching || eqb v Limits.penetrating

-- "as three bytes (lower place, higher place, verdict)": what the row v at k is listed as, if it is listed
abbrev pub only_if : Bool → List ℕ → List ℕ
only_if true bytes = bytes
only_if false bytes = []

unfoldable pub listed : ℕ → ℕ → List ℕ
listed k v = only_if (contact v) (k / Limits.places ∷ k % Limits.places ∷ v ∷ [])

-- "in rising order of the two places": the rows from k on, one after the other
unfoldable pub contacts_from : ℕ → List ℕ → List ℕ
contacts_from k [] = []
contacts_from k (row ∷ rows) = listed k row ++ contacts_from (suc k) rows

abbrev pub contacts : List ℕ → List ℕ
contacts rows = contacts_from 0 rows

-- 13: "room shorter than what must be written"
abbrev pub refusals : List ℕ → List ℕ → List Rule
refusals rows room = Limits.short_room when (length room < length (contacts rows)) ∷ []

-- document 01's number of an answer, 0 where it is done, and how many rows it says, zero on a refusal
abbrev pub number_of : Result ℕ Refusal → ℕ
number_of r = answer_number r

abbrev pub rows_of : Result ℕ Refusal → ℕ
rows_of (Ok n) = n
rows_of (Err r) = 0

-- "0 is done": what is refused has another number
abbrev pub Named : Result ℕ Refusal → Type 0
Named (Ok n) = Unit {0}
Named (Err r) = 0 < number_of (Err r)

-- the listing of rows into room, which is `after` then. Done: the contacts stand in front, "bytes after them keep their value", and "the
-- listing says how many rows", of three bytes each. Refused: "Every other value in the answer is zero; desk, marks and room stay as they were."
pub record Lists (rows room after : List ℕ) (r : Result ℕ Refusal) : Type 0 where
  pub refusal : Lowest (refusals rows room) (number_of r)
  pub written : number_of r ≡ 0 → after ≡ contacts rows ++ drop (length (contacts rows)) room
  pub count : number_of r ≡ 0 → length (contacts rows) ≡ 3 * rows_of r
  pub kept : 0 < number_of r → after ≡ room
  pub zeros : 0 < number_of r → rows_of r ≡ 0
  pub named : Named r

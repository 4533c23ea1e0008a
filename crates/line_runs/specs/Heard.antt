-- WHAT AN INPUT HAS THE DESK TOLD: of each line its command, with the numbers that stand in the line; of `load-stl` and `load-off` the corners of a file, or nothing.
-- `StandsBy` is the promise of the program: whatever bytes arrive, the desk is reached by the accepted commands of the lines so far.
use Rattle.std.specs.Prelude.{ℕ, ◌<◌, ◌≡◌, List, [], ◌∷◌, ◌++◌, map, ◌⊎◌, ℤ, length}
use Rattle.limits.specs.Limits
use Rattle.desk_state.specs.Desk.{Desk}
use Rattle.desk.specs.declared.Command.TheVariants.{Load}
use Rattle.line_command.specs.Lines.{most_bytes, LineSays}
use Rattle.line_command.specs.declared.Line.{Line}
use Rattle.line_command.specs.declared.Line.TheVariants.{Tell, Ask, Spoil, LoadFile, SaveFile, Other}
use Rattle.line_file.specs.Requests.{NamesShape, ReadFrom}
use Rattle.line_tell.specs.Tells.{behind_first, lent_to}
use Rattle.line_input.specs.Input.{bare, lines_of, fed}
use Rattle.runs.specs.Log.{Entry, ◌with◌}
use Rattle.runs.specs.Reached.{Reached}
use Rattle.runs.specs.Told.{Ran}

-- what a line's command has the desk told: that command, with the line's numbers behind the first; a load of some file that the reader of its kind takes, at the number that
-- the line names; and else nothing
abbrev pub EntriesOf : Line → List ℕ → List ℤ → List Entry → Type 0
EntriesOf (Tell command count) line numbers es = es ≡ command with behind_first count numbers ∷ []
EntriesOf (Ask asked) line numbers es = es ≡ []
EntriesOf (Spoil cell) line numbers es = es ≡ []
EntriesOf (LoadFile kind) line numbers es = (es ≡ []) ⊎ ((s : ℤ) × (corners : List ℤ) × NamesShape line s × ReadFrom kind corners × (es ≡ Load s with corners ∷ []))
EntriesOf SaveFile line numbers es = es ≡ []
EntriesOf (Other other) line numbers es = es ≡ []

-- a line, read in room for as many numbers as a line can have
pub record Hears (line : List ℕ) (es : List Entry) : Type 0 where
  pub room : List ℤ
  pub numbers : List ℤ
  pub says : Line
  pub enough : most_bytes < length room
  pub command : LineSays line room numbers says
  pub entries : EntriesOf says line numbers es

-- lines one after the other; the newest entry comes first
pub data Heard : List (List ℕ) → List Entry → Type 0 where
  none : Heard [] []
  more : {line : List ℕ} {lines : List (List ℕ)} {es fs : List Entry} → Hears line es → Heard lines fs → Heard (line ∷ lines) (fs ++ es)

-- the desk as the program lends it: with the marks that it has of a longer buffer
abbrev pub lent_desk : Desk → Desk
lent_desk d = lent_to Limits.marks d

-- THE PROMISE: there is an input, and the desk is reached by the accepted ones of the commands that its lines have it told, in their order, from a start.
-- All of its lines are heard; or, where the answers could not be written or the input not be read, all that had ended by then
pub record StandsBy (after : Desk) : Type 0 where
  pub input : List ℕ
  pub lines : List (List ℕ)
  pub read : (lines ≡ lines_of input) ⊎ (lines ≡ map bare (fed [] input).ended)
  pub told : List Entry
  pub heard : Heard lines told
  pub start : Desk
  pub started : Reached start []
  pub log : List Entry
  pub ran : Ran start told (lent_desk after) log
  pub reached : Reached (lent_desk after) log

-- What the desk does when it is told a line's command: the command of document 01 with the line's numbers.
-- `Tells` is all that is promised of the desk afterwards; what a command does is said in crate `desk`, Commands.antt.
use Rattle.std.specs.Prelude.{ℕ, ◌≡◌, List, ◌⊎◌, ℤ, take, drop}
use Rattle.desk_state.specs.Desk.{Desk}
use Rattle.desk.specs.Commands.{Outcome, Does}
use Rattle.desk.specs.declared.Command.{Command}
use Rattle.desk.specs.declared.Command.TheVariants.{Load}
use Rattle.line.specs.declared.kinds.FileKind.{FileKind}
use Rattle.line_file.specs.Requests.{Requests}
use Rattle.line_file.specs.declared.Request.TheVariants.{Load as Loading}

-- a load's corner list: of the line's n numbers those behind the first
abbrev pub behind_first : ℕ → List ℤ → List ℤ
behind_first n numbers = drop 1 (take n numbers)

-- the desk as it is lent: with the first m cells of its marks buffer
abbrev pub lent_to : ℕ → Desk → Desk
lent_to m d = record { store = d.store; rows = d.rows; book = d.book; marks = take m d.marks }

-- the desk that is lent does the command with the numbers behind the first, with some outcome, and the rest of the buffer stays
pub record Tells (command : Command) (count : ℕ) (numbers : List ℤ) (m : ℕ) (before after : Desk) : Type 0 where
  pub outcome : Outcome
  pub does : Does command (behind_first count numbers) (lent_to m before) (lent_to m after) outcome
  pub rest : drop m after.marks ≡ drop m before.marks

-- `load-stl` and `load-off`: the desk stays, or it is told to load, at the number that the line names, the corners of a file of that kind
abbrev pub LoadsFile : FileKind → List ℕ → ℕ → Desk → Desk → Type 0
LoadsFile kind line m before after =
    (after ≡ before)
    ⊎ ((s : ℤ) × (count : ℕ) × (numbers : List ℤ) × Requests kind line numbers (Loading s count) × Tells (Load s) count numbers m before after)

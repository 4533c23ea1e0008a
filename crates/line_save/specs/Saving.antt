-- What a line asks to be saved: the text of the shape that it names, as writing that shape leaves it at the start of the room, or the refusal of writing it.
-- `Saves` is all that is promised of it; what the system does with the bytes no contract says.
use Rattle.std.specs.Prelude.{ℕ, ◌≤◌, List, ℤ, length}
use Rattle.limits.specs.Limits
use Rattle.desk_state.specs.Desk.{Desk}
use Rattle.desk_write.specs.Writing.{Writes}
use Rattle.line_file.specs.Requests.{NamesShape}
use Rattle.line_save.specs.declared.Saving.{Saving}
use Rattle.line_save.specs.declared.Saving.TheVariants.{Text, Refused, Bad}

-- the line, the desk that is read, and the room before and after, by what is found: a text and where the path begins, a refusal, or no command
abbrev pub SavedBy : List ℕ → Desk → List ℕ → List ℕ → Saving → Type 0
SavedBy line d before after (Text n start) = (s : ℤ) × NamesShape line s × Writes d s before after (record { number = Limits.done; count = n }) × (start ≤ length line)
SavedBy line d before after (Refused number) = (s : ℤ) × NamesShape line s × Writes d s before after (record { number = number; count = 0 })
SavedBy line d before after Bad = Unit {0}

pub record Saves (line : List ℕ) (d : Desk) (before after : List ℕ) (r : Saving) : Type 0 where
  pub found : SavedBy line d before after r

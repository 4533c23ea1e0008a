-- What a code says, as the entries that it makes: one, of a command with the corner numbers beside it, or none.
use Rattle.std.specs.Prelude.{List, [], ◌∷◌, ℤ, Option, Some, None}
use Rattle.desk.specs.declared.Command.{Command}
use Rattle.runs.specs.Log.{Entry, ◌with◌}

abbrev pub entries_of : Option Command → List ℤ → List Entry
entries_of (Some command) numbers = command with numbers ∷ []
entries_of None numbers = []

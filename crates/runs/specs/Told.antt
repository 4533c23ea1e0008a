-- WHAT A RUN DOES: commands told one after the other, each by its own record, and the log of those that were accepted.
-- The laws stand in ToldLaws.antt: the desk and the log at the end are the only ones, and a desk that is reached before is reached after.
use Rattle.std.specs.Prelude.{◌≡◌, List, [], ◌∷◌, ◌++◌, ℕ, ℤ, length, Ok, Err}
use Rattle.desk_state.specs.Desk.{Desk}
use Rattle.desk.specs.Commands.{Outcome, number_of, Does}
use Rattle.desk.specs.declared.Command.{Command}
use Rattle.desk.specs.declared.Command.TheVariants.{Start, Load, Place, Move, Remove, Gap}
use Rattle.runs.specs.Log.{Entry}
use Rattle.runs.specs.Reached.{logged, Reached}
use Rattle.runs.specs.Stands.{Stands}
use Rattle.runs.specs.Encoded.{told_by}

-- from a desk, by the entries (the newest first), to a desk with the log of the accepted ones (the newest first)
pub data Ran (before : Desk) : List Entry → Desk → List Entry → Type 0 where
  none : Ran before [] before []
  more : {d after : Desk} {es log : List Entry} (e : Entry) (r : Outcome) → Ran before es d log → Does e.command e.numbers d after r → Ran before (e ∷ es) after (logged (number_of r) e log)

-- what a function that tells commands promises, of how many were accepted
pub record Told (es : List Entry) (before after : Desk) (n : ℕ) : Type 0 where
  pub log : List Entry
  pub ran : Ran before es after log
  pub accepted : n ≡ length log

abbrev pub accepted_of : Outcome → ℕ
accepted_of (Ok n) = 1
accepted_of (Err r) = 0

-- there is a start in the log: from there on nothing depends on what was lent
abbrev pub StartOr : Command → Type 0 → Type 0
StartOr Start Before = Unit {0}
StartOr (Load shape) Before = Before
StartOr (Place place q) Before = Before
StartOr (Move place turn o) Before = Before
StartOr (Remove place) Before = Before
StartOr (Gap gap) Before = Before

abbrev pub Starts : List Entry → Type 0
Starts [] = ⊥
Starts (e ∷ log) = StartOr e.command (Starts log)

-- "its standing list of pairs and verdicts equals the list worked out afresh from the pieces as the accepted commands put them":
-- from a desk that was reached, and, where a start is among the accepted commands, from whatever was lent
pub record Runs (codes numbers : List ℤ) (before after : Desk) (n : ℕ) : Type 0 where
  pub run : Told (told_by codes numbers) before after n
  pub stands : (old : List Entry) → Reached before old → Stands after (run.log ++ old)
  pub starts : Starts run.log → Stands after run.log

-- What a line does to the desk: its command, and what the desk does when it is told that.
-- `Answered` is all that is promised of the desk after a line. On trial a `spoil` may put anything there, and nothing else may at any time.
use Rattle.std.specs.Prelude.{ℕ, min, ◌≡◌, List, Bool, false, ℤ, length, get_or}
use Rattle.desk_state.specs.Desk.{Desk, desk_of}
use Rattle.line_command.specs.Lines.{LineSays}
use Rattle.line_command.specs.declared.Line.{Line}
use Rattle.line_command.specs.declared.Line.TheVariants.{Tell, Ask, Spoil, LoadFile, SaveFile, Other}
use Rattle.line_tell.specs.Tells.{Tells, LoadsFile}

-- what is kept from line to line: the desk, and how much of each buffer is lent
pub record Kept : Type 0 where
  pub desk : Desk
  pub lent : List ℕ

abbrev pub kept_of : List ℤ → List ℤ → List ℕ → List ℕ → List ℕ → List ℕ → Kept
kept_of shapes places rows book marks lent = record { desk = desk_of shapes places rows book marks; lent = lent }

-- how many cells of the marks buffer are lent: never more than there are
abbrev pub marks_lent : Kept → ℕ
marks_lent k = min (get_or k.lent 1 0) (length k.desk.marks)

-- by the line, its numbers, and as many marks as are lent; a test tool does nothing where the program is not on trial
abbrev pub ByLine : Bool → Line → List ℕ → List ℤ → ℕ → Desk → Desk → Type 0
ByLine trial (Tell command count) line numbers m before after = Tells command count numbers m before after
ByLine trial (Ask asked) line numbers m before after = after ≡ before
ByLine trial (Spoil cell) line numbers m before after = trial ≡ false → after ≡ before
ByLine trial (LoadFile kind) line numbers m before after = LoadsFile kind line m before after
ByLine trial SaveFile line numbers m before after = after ≡ before
ByLine trial (Other other) line numbers m before after = after ≡ before

-- only a test tool changes how much is lent
pub record Answered (trial : Bool) (line : List ℕ) (room : List ℤ) (before after : Kept) : Type 0 where
  pub says : Line
  pub numbers : List ℤ
  pub command : LineSays line room numbers says
  pub does : ByLine trial says line numbers (marks_lent before) before.desk after.desk
  pub lends : trial ≡ false → after.lent ≡ before.lent

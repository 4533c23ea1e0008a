-- From a line's command and what was done by it to what is promised of the desk after the line.
-- What the desk is asked, the saving of a shape, and what it has no part in, leave it as it was.
use Rattle.std.specs.Prelude.{ℕ, ◌≡◌, List, Bool, false, ℤ}
use Rattle.std.proofs.Common.{sym, subst}
use Rattle.line.specs.declared.kinds.FileKind.{FileKind}
use Rattle.line_spoil.specs.declared.Cell.{Cell}
use Rattle.desk.specs.declared.Command.{Command}
use Rattle.line_command.specs.Lines.{LineSays}
use Rattle.line_command.specs.declared.Line.{Line}
use Rattle.line_command.specs.declared.Line.TheVariants.{Tell, Ask, Spoil, LoadFile, SaveFile, Other}
use Rattle.line_command.specs.declared.Asked.{Asked}
use Rattle.line_command.specs.declared.Other.{Other as OtherLine}
use Rattle.line_tell.specs.Tells.{Tells, LoadsFile}
use Rattle.line_answer.specs.Answered.{Kept, marks_lent, ByLine, Answered}

module _ {trial : Bool} {line : List ℕ} {room : List ℤ} {c : Line} (numbers : List ℤ) (f : LineSays line room numbers c) (before after : Kept) (l : trial ≡ false → after.lent ≡ before.lent) where
  by : (other : Line) → c ≡ other → ByLine trial other line numbers (marks_lent before) before.desk after.desk → Answered trial line room before after
  by other e h = record {
    says = c;
    numbers = numbers;
    command = f;
    does = subst (λ (q : Line). ByLine trial q line numbers (marks_lent before) before.desk after.desk) (sym e) h;
    lends = l;
  }

  pub answered_told : {command : Command} {count : ℕ} → c ≡ Tell command count → Tells command count numbers (marks_lent before) before.desk after.desk → Answered trial line room before after
  answered_told {command} {count} e h = by (Tell command count) e h

  pub answered_asked : {asked : Asked} → c ≡ Ask asked → after.desk ≡ before.desk → Answered trial line room before after
  answered_asked {asked} e h = by (Ask asked) e h

  pub answered_spoiled : {cell : Cell} → c ≡ Spoil cell → (trial ≡ false → after.desk ≡ before.desk) → Answered trial line room before after
  answered_spoiled {cell} e h = by (Spoil cell) e h

  pub answered_file : {kind : FileKind} → c ≡ LoadFile kind → LoadsFile kind line (marks_lent before) before.desk after.desk → Answered trial line room before after
  answered_file {kind} e h = by (LoadFile kind) e h

  pub answered_saved : c ≡ SaveFile → after.desk ≡ before.desk → Answered trial line room before after
  answered_saved e h = by SaveFile e h

  pub answered_other : {other : OtherLine} → c ≡ Other other → after.desk ≡ before.desk → Answered trial line room before after
  answered_other {other} e h = by (Other other) e h

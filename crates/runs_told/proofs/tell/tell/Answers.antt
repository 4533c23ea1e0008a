-- `runs_told::tell::tell`: a code that is a command is told, and any other is passed over.
-- Assumes nothing.
use mathlib.Core.Path.{refl, ap, ◌∙◌}
use Rattle.std.specs.Prelude.{Option, Ok, Err}
use Rattle.desk.specs.declared.Command.{Command}
use Rattle.runs.specs.Log.{◌with◌}
use Rattle.runs.proofs.ToldLaws.{told_none, told_one, told_as}
use Rattle.runs_told.specs.Entries.{entries_of}
use Rattle.runs_told.proofs.tell.tell.Goals as goal

pub returns-in_default-clause-told : goal.returns-in_default-clause-told
returns-in_default-clause-told c =
    let numbers = c.args.numbers.now in
    told_as (c.command_of.ensures numbers ∙ ap (λ (k : Option Command). entries_of k numbers) c.in_default.is) told_none

pub returns-in-Ok-clause-told : goal.returns-in-Ok-clause-told
returns-in-Ok-clause-told c =
    let numbers = c.args.numbers.now in
    told_as (c.command_of.ensures numbers ∙ ap (λ (k : Option Command). entries_of k numbers) c.in-Some.is)
    (told_one (c.in-Some.command with numbers) (Ok c.in-Ok.field-0) refl c.in-Ok.ensures.does)

pub returns-in-Err-clause-told : goal.returns-in-Err-clause-told
returns-in-Err-clause-told c =
    let numbers = c.args.numbers.now in
    told_as (c.command_of.ensures numbers ∙ ap (λ (k : Option Command). entries_of k numbers) c.in-Some.is)
    (told_one (c.in-Some.command with numbers) (Err c.in-Err.field-0) refl c.in-Err.ensures.does)

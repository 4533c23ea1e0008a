-- `desk_tell::tell` meets its contract: each command is handed on with its own numbers.
-- Assumes nothing.
use mathlib.Core.Path.{subst}
use mathlib.Core.List.{[], ◌∷◌}
use mir.Syntax.{w32}
use denote.Laws.{Is}
use denote.Enum.Declared.{row}
use denote.Enum.Laws.{val}
use Rattle.ints.specs.Bounds.{element}
use Rattle.desk.specs.declared.Command.{Command}
use Rattle.desk.specs.contracts.Command.{the_type}
use Rattle.desk.proofs.Command.TheLaws.{the_laws}
use Rattle.desk_tell.specs.Telling.{does_load, does_place, does_move, does_remove, does_gap}
use Rattle.desk_tell.proofs.tell.Goals as goal

-- what the machine holds of a command: each of its numbers fits
abbrev Good : Command → Type 0
Good k = Is (row the_type) k (val the_type the_laws k ∷ [])

pub returns-in-Load-clause-does : goal.returns-in-Load-clause-does
returns-in-Load-clause-does c =
    let e = c.in-Load.is in
    let g = subst Good e c.well_formed.1.0 in
    does_load c.args.command c.args.numbers.now e (element w32 _ g.1.1.1.1.0.1) c.load_shape.ensures.does

pub returns-in-Place-clause-does : goal.returns-in-Place-clause-does
returns-in-Place-clause-does c =
    let e = c.in-Place.is in
    let g = subst Good e c.well_formed.1.0 in
    does_place c.args.command c.args.numbers.now e (element w32 _ g.1.1.1.1.0.1) c.place_at.ensures.does

pub returns-in-Move-clause-does : goal.returns-in-Move-clause-does
returns-in-Move-clause-does c =
    let e = c.in-Move.is in
    let g = subst Good e c.well_formed.1.0 in
    does_move c.args.command c.args.numbers.now e (element w32 _ g.1.1.1.1.0.1) (element w32 _ g.1.1.1.1.1.0.1) c.move_at.ensures.does

pub returns-in-Remove-clause-does : goal.returns-in-Remove-clause-does
returns-in-Remove-clause-does c =
    let e = c.in-Remove.is in
    let g = subst Good e c.well_formed.1.0 in
    does_remove c.args.command c.args.numbers.now e (element w32 _ g.1.1.1.1.0.1) c.remove_at.ensures.does

pub returns-in-Gap-clause-does : goal.returns-in-Gap-clause-does
returns-in-Gap-clause-does c =
    let e = c.in-Gap.is in
    let g = subst Good e c.well_formed.1.0 in
    does_gap c.args.command c.args.numbers.now e (element w32 _ g.1.1.1.1.0.1) c.set_book.ensures.does

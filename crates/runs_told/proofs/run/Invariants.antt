-- `runs_told::run`: after i codes the desk is what their commands made of it, and the corner numbers that they took are used.
use mathlib.Core.Path.{◌≡◌}
use lib.ListN.{length}
use Rattle.desk_state.specs.Lent.{held, SameLent}
use Rattle.runs.specs.Encoded.{used_to, told_to}
use Rattle.runs.specs.Told.{Told}
use Rattle.runs_told.proofs.run.Given as goal

abbrev pub invariant-loop-i : goal.invariant-loop-i
invariant-loop-i l =
    (l.used ≡ used_to l.codes (length l.numbers) l.i) × SameLent l.initial.desk l.desk
    × Told (told_to l.codes l.numbers l.i) (held l.initial.desk) (held l.desk) l.accepted

-- `desk_load::put_shape`: the count is stored first, and the numbers behind it.
-- Assumes nothing.
use mathlib.Core.Path.{◌≡◌, ◌∙◌}
use Prim.Native.Nat.{◌+◌, ◌*◌, ◌/◌}
use lib.ListN.{length, set}
use lib.Seq.{sets}
use mir.Syntax.{w32}
use mir.Val.{to_z}
use Rattle.limits.specs.Limits
use Rattle.desk_load.specs.Loading.{shape_stored}
use Rattle.desk_load.proofs.put_shape.Goals as goal

pub returns : goal.returns
returns c =
    let a = c.args in
    let at = a.s * Limits.shape_cells in
    let stored : c.copy_numbers.new.shapes ≡ sets (set a.shapes.now at (to_z w32 (length a.numbers.now / 3))) (at + 1) a.numbers.now = c.copy_numbers.ensures in
    stored ∙ shape_stored a.shapes.now a.s a.numbers.now c.requires.1

-- `desk_load::copy_numbers`: the numbers passed stand in the array, and the rest is as it was.
-- Assumes nothing.
use mir.Syntax.{w32}
use native.Mathlib.Omega.{arith}
use mir.Facts.{to_z-of_z}
use Rattle.desk_load.specs.Loading.{copied, copied_all}
use Rattle.desk_load.proofs.copy_numbers.Goals as goal

pub loop-i-preserved : goal.loop-i-preserved
loop-i-preserved c =
    let a = c.args in
    (omega arith, copied a.shapes.now a.numbers.now a.start c.loop-i.i (to_z-of_z {w = w32} (record { sfits = c.shapes-1.given })) (omega (arith, c.requires.0)) (omega arith) c.loop-i.invariant.1)

pub returns : goal.returns
returns c =
    let a = c.args in
    copied_all a.shapes.now a.numbers.now a.start c.loop-i.i c.loop-i.invariant.1 (omega (arith, c.loop-i-test.false, c.loop-i.invariant.0)) (omega (arith, c.requires.0, c.requires.1))

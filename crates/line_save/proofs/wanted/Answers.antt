-- `line_save::wanted` meets its contract: what is written is the shape that the line names, as the desk has it.
use mathlib.Core.Path.{sym, subst}
use native.Mathlib.Omega.{arith}
use Prim.Native.Nat.{ℕ}
use mir.Syntax.{w32}
use mir.Facts.{to_z-of_z}
use lib.IntN.{ℤ}
use Rattle.std.specs.Prelude.{Ok, Err}
use Rattle.ints.specs.Bounds.{fits_in}
use Rattle.desk_state.specs.Lent.{seen}
use Rattle.desk_write.specs.Writing.{written_of, Writes}
use Rattle.line_save.proofs.wanted.Goals as goal

pub returns-in_default : goal.returns-in_default
returns-in_default c = record { found = tt }

pub returns-in-Err : goal.returns-in-Err
returns-in-Err c =
    let a = c.args in
    let shape = c.in-At.shape in
    let names = c.in-At.ensures in
    let same = to_z-of_z (fits_in w32 shape 2147483648 2147483647 names.0.reads.1 (omega arith) (omega arith)) in
    let written = subst (λ (s : ℤ). Writes (seen a.desk) s a.room.now c.write.new.room (written_of (Err c.in-Err.refusal))) same c.in-Err.ensures in
    record {
      found = (
        shape,
        names.0,
        subst (λ (n : ℕ). Writes (seen a.desk) shape a.room.now c.write.new.room (record { number = n; count = 0 })) (sym c.number.ensures) written,
      );
    }

pub returns-in-Ok : goal.returns-in-Ok
returns-in-Ok c =
    let a = c.args in
    let shape = c.in-At.shape in
    let names = c.in-At.ensures in
    let same = to_z-of_z (fits_in w32 shape 2147483648 2147483647 names.0.reads.1 (omega arith) (omega arith)) in
    let written = subst (λ (s : ℤ). Writes (seen a.desk) s a.room.now c.write.new.room (written_of (Ok c.in-Ok.count))) same c.in-Ok.ensures in
    record { found = (shape, names.0, written, names.1) }

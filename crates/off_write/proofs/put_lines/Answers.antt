-- `off_write::put_lines` meets its contract. The invariant: the lines of the first i numbers stand behind what was there, and i is three for each line.
-- The measure is what is left of the numbers.
use Prim.Native.Nat.{ℕ, ◌≤◌, ◌<◌, ◌+◌}
use mathlib.Core.List.{List, []}
use mathlib.Core.Path.{◌≡◌, sym, ap, ◌∙◌, subst}
use native.Mathlib.Omega.{arith}
use lib.IntN.{ℤ, pos}
use lib.ListN.{length, get_or, take}
use lib.Seq.{take-length}
use Rattle.ints.specs.Bounds.{Within}
use Rattle.limits.specs.Limits
use Rattle.text_put.specs.Print.{Extends}
use Rattle.text_put.specs.PrintLaws.{put_none, put_extends}
use Rattle.off_write.specs.Written.{lines_of}
use Rattle.off_write.specs.WrittenLaws.{handed, line_most, line_grows}
use Rattle.off_write.proofs.put_lines.Goals as goal

pub loop-i-init : goal.loop-i-init
loop-i-init c = let a = c.args in (omega arith, omega arith, put_extends a.room.now a.from [] (omega (arith, c.requires.2)) (put_none a.room.now a.from), omega arith)

pub bounds-numbers-i-in-loop-i : goal.bounds-numbers-i-in-loop-i
bounds-numbers-i-in-loop-i c =
    let room_for : c.loop-i.i + 3 ≤ length c.args.numbers.now = omega (arith, c.requires.0.is, c.loop-i.invariant.1, c.loop-i-test.true) in
    omega (arith, room_for)

pub bounds-numbers-i-in-loop-i-2 : goal.bounds-numbers-i-in-loop-i-2
bounds-numbers-i-in-loop-i-2 c =
    let room_for : c.loop-i.i + 3 ≤ length c.args.numbers.now = omega (arith, c.requires.0.is, c.loop-i.invariant.1, c.loop-i-test.true) in
    omega (arith, room_for)

pub put_line-at-requires : goal.put_line-at-requires
put_line-at-requires c =
    let room_for : c.loop-i.i + 3 ≤ length c.args.numbers.now = omega (arith, c.requires.0.is, c.loop-i.invariant.1, c.loop-i-test.true) in
    let near_first : Within Limits.shape_reach (get_or c.args.numbers.now c.loop-i.i (pos 0)) = c.requires.1.all c.loop-i.i c.loop-i-test.true in
    let near : (j : ℕ) → j < 3 → Within Limits.shape_reach (get_or c.args.numbers.now (c.loop-i.i + j) (pos 0)) = λ (j : ℕ) (h : j < 3). c.requires.1.all (c.loop-i.i + j) (omega (arith, room_for)) in
    let v = c.args.numbers.now in
    let i = c.loop-i.i in (
      subst (Within Limits.shape_reach) (sym (handed (get_or v i (pos 0)) near_first)) near_first,
      subst (Within Limits.shape_reach) (sym (handed (get_or v (i + 1) (pos 0)) (near 1 (omega arith)))) (near 1 (omega arith)),
      subst (Within Limits.shape_reach) (sym (handed (get_or v (i + 2) (pos 0)) (near 2 (omega arith)))) (near 2 (omega arith)),
      omega (arith, c.requires.2, c.loop-i.invariant.3, c.loop-i.invariant.2.size, room_for),
    )

pub loop-i-preserved : goal.loop-i-preserved
loop-i-preserved c =
    let room_for : c.loop-i.i + 3 ≤ length c.args.numbers.now = omega (arith, c.requires.0.is, c.loop-i.invariant.1, c.loop-i-test.true) in
    let near_first : Within Limits.shape_reach (get_or c.args.numbers.now c.loop-i.i (pos 0)) = c.requires.1.all c.loop-i.i c.loop-i-test.true in
    let near : (j : ℕ) → j < 3 → Within Limits.shape_reach (get_or c.args.numbers.now (c.loop-i.i + j) (pos 0)) = λ (j : ℕ) (h : j < 3). c.requires.1.all (c.loop-i.i + j) (omega (arith, room_for)) in
    let v = c.args.numbers.now in
    let i = c.loop-i.i in
    let x = handed (get_or v i (pos 0)) near_first in
    let y = handed (get_or v (i + 1) (pos 0)) (near 1 (omega arith)) in
    let z = handed (get_or v (i + 2) (pos 0)) (near 2 (omega arith)) in
    let most = line_most (get_or v i (pos 0)) (get_or v (i + 1) (pos 0)) (get_or v (i + 2) (pos 0)) near_first (near 1 (omega arith)) (near 2 (omega arith)) in
    let b = rw (x, y, z) at c.put_line-at.ensures in (
      room_for,
      omega (arith, c.loop-i.invariant.1),
      line_grows v i c.loop-i.invariant.1 (room_for) x y z c.loop-i.invariant.2 c.put_line-at.ensures,
      omega (arith, b.place, most, c.loop-i.invariant.3),
    )

pub shape_of-room : goal.shape_of-room
shape_of-room c = c.loop-i.invariant.2.size

pub returns : goal.returns
returns c =
    let v = c.args.numbers.now in
    let e : c.loop-i.i ≡ length v = omega (arith, c.loop-i.invariant.0, c.loop-i-test.false) in
    subst (λ (m : List ℤ). Extends c.args.room.now c.args.from (lines_of m) c.loop-i.room c.loop-i.at) (ap (λ (n : ℕ). take n v) e ∙ take-length v) c.loop-i.invariant.2

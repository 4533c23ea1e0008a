-- `off_number::shortest::put_part` meets its contract: seven digits hold a million and the part, and the first of them becomes the point.
use Prim.Native.Nat.{ℕ, ◌+◌, ◌-◌, ◌≤◌}
use mathlib.Core.List.{List}
use mathlib.Core.Path.{◌≡◌, sym, ap, ◌∙◌, subst}
use native.Mathlib.Omega.{arith}
use lib.ListN.{take, set}
use Rattle.std.specs.Int.Count.{count_trailing_zeros}
use Rattle.limits.specs.Limits
use Rattle.text_put.specs.Print.{Put}
use Rattle.text_put.specs.PrintLaws.{put_none}
use Rattle.off_number.specs.Shortest.{part_of, pointed}
use Rattle.off_number.proofs.PartLaws.{part_none, decimals_found}
use Rattle.off_number.proofs.SpellingLaws.{part_found}
use Rattle.off_number.proofs.shortest.put_part.Goals as goal

pub returns-then-r-eq0 : goal.returns-then-r-eq0
returns-then-r-eq0 c =
    let room = c.args.room.now in
    let e = ap pointed (ap part_of c.if-r-eq0.true ∙ part_none) in
    subst (λ (l : List ℕ). Put room c.args.at l room c.args.at) (sym e) (put_none room c.args.at)

pub overflow_sub-decimals : goal.overflow_sub-decimals
overflow_sub-decimals c = omega (arith, decimals_found c.args.r c.requires (omega (arith, c.if-r-eq0.false)))

pub returns : goal.returns
returns c =
    let out = c.decimal-decimals.new.out in
    let some : 1 ≤ c.args.r = omega (arith, c.if-r-eq0.false) in
    let n = c.from.ensures in
    let d = c.decimal-decimals.ensures in
    let e : take (1 + (Limits.off_digits - count_trailing_zeros 32 c.args.r)) (set out 0 46) ≡ pointed (part_of c.args.r) =
    ap (λ (k : ℕ). take (1 + k) (set out 0 46)) (decimals_found c.args.r c.requires some) ∙ part_found c.args.r c.requires some out c.decimal-decimals.result (rw n at d.len) (rw n at d.digits) in
    subst (λ (l : List ℕ). Put c.args.room.now c.args.at l c.put.new.room c.put.result) e c.put.ensures

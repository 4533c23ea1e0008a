-- `is_kept` meets its contract: a corner that is the one is among all, and else the rest decide (HoldingLaws).
use Rattle.std.specs.Prelude.{ℕ, suc, ◌-◌, ◌≡◌}
use Rattle.std.proofs.Common.{sym, ap, ◌∙◌, arith}
use Rattle.scans_stl_corners.specs.HoldingLaws.{among_none, among_found}
use Rattle.scans_stl_corners.specs.Holding.{corner_of, corners_held}
use Rattle.scans_stl_corners.specs.Kept.{among}
use Rattle.scans_stl_corners.proofs.is_kept.Goals as goal

pub returns-then-is_at : goal.returns-then-is_at
returns-then-is_at c =
    let i = c.loop-i.i in
    let v = corner_of c.args.corner.x c.args.corner.y c.args.corner.z in
    let e : suc (i - 1) ≡ i = omega arith in
    sym (c.loop-i.invariant ∙ ap (λ (j : ℕ). among v (corners_held c.args.kept.now j)) (sym e) ∙ among_found c.args.kept.now (i - 1) v (sym c.if-is_at.ensures))

pub loop-i-preserved : goal.loop-i-preserved
loop-i-preserved c =
    let i = c.loop-i.i in
    let v = corner_of c.args.corner.x c.args.corner.y c.args.corner.z in
    let e : suc (i - 1) ≡ i = omega arith in
    c.loop-i.invariant ∙ ap (λ (j : ℕ). among v (corners_held c.args.kept.now j)) (sym e) ∙ among_none c.args.kept.now (i - 1) v (sym c.if-is_at.ensures)

-- `keep` meets its contract: no place for it, or put behind those kept (HoldingLaws).
use Rattle.std.specs.Prelude.{ℕ, suc, ◌+◌, ◌≡◌, List, ℤ}
use Rattle.std.proofs.Common.{sym, ap, ◌∙◌, arith}
use Rattle.scans_stl_corners.specs.Holding.{corners_held}
use Rattle.scans_stl_corners.specs.HoldingLaws.{keep_many, keep_put, put_behind}
use Rattle.scans_stl_corners.proofs.keep.Goals as goal
use Rattle.scans_stl_corners.proofs.keep.Goals.{then-count-lt-CORNERS, else-count-lt-CORNERS}

pub returns : goal.returns
returns c = λ l h.
    let a = c.args in
    let s = a.corner in
    let none = sym c.if-is_kept.ensures in
    elim c.if-count-lt-CORNERS.branch [
      | then-count-lt-CORNERS w ↦
          let p = w.put_corner.ensures in
          let e : a.count + 1 ≡ suc a.count = omega arith in
          rw w.kept-is
          (keep_put h _ (omega arith) none _ (omega arith)
          (ap (λ (k : ℕ). corners_held w.put_corner.new.kept k) e ∙ ap (λ (b : List ℤ). corners_held b (suc a.count)) p.0
          ∙ put_behind a.kept.now a.count s.x s.y s.z (omega (arith, p.1))))
      | else-count-lt-CORNERS w ↦ rw w.kept-is (keep_many h _ (omega arith) none (omega arith))
    ]

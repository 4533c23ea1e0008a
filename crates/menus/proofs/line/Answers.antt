-- `menus::line` meets its contract: as many bytes as the first line of what is left has, from the line's start on, are line k.
use Prim.Native.Nat.{ℕ, ◌+◌}
use mathlib.Core.Path.{◌≡◌, ap}
use native.Mathlib.Omega.{arith}
use Rattle.menus.specs.ScanLaws.{start_in_lem, part_is_lem}
use Rattle.menus.proofs.line.Goals as goal

-- a place counted from the text's own, either way round
shifted : (p : ℕ × ℕ) (a b : ℕ) → a ≡ b → ◌≡◌ {A = ℕ × ℕ} (p.0, a + p.1) (p.0, p.1 + b)
shifted p a b h = let e : a + p.1 ≡ p.1 + b = omega arith in ap (λ (n : ℕ). (p.0, n)) e

pub slice_bounds-result-start : goal.slice_bounds-result-start
slice_bounds-result-start c =
    let a = c.args in
    omega (arith, c.part_end-end.ensures.place, start_in_lem a.text.now a.k _ _ c.line_start-start.ensures c.part_end-end.ensures.place)

pub slice_bounds-result-count : goal.slice_bounds-result-count
slice_bounds-result-count c =
    let a = c.args in
    omega (arith, c.part_end-end.ensures.place, start_in_lem a.text.now a.k _ _ c.line_start-start.ensures c.part_end-end.ensures.place)

pub returns-clause-bytes : goal.returns-clause-bytes
returns-clause-bytes c =
    let a = c.args in
    let s = c.line_start-start.ensures in
    part_is_lem a.text.now a.k _ _ s c.part_end-end.ensures.place

pub returns-clause-place : goal.returns-clause-place
returns-clause-place c =
    let a = c.args in
    let s = c.line_start-start.ensures in
    shifted a.text.ref_ptr _ _ s

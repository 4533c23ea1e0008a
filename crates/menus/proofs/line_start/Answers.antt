-- `menus::line_start` meets its contract: each turn passes a line, and the text's end is where line k starts that is not there.
use Prim.Native.Nat.{ℕ, suc, ◌≤◌, ◌<◌, ◌+◌, ◌-◌, min}
use mathlib.Core.List.{List}
use mathlib.Core.Path.{◌≡◌, ap}
use native.Mathlib.Omega.{arith}
use lib.ListN.{length, drop, length-drop}
use lib.Seq.{drop-drop}
use Rattle.menus.specs.Scan.{first_line, start_of}
use Rattle.menus.specs.ScanLaws.{start_zero, start_last, start_next}
use Rattle.menus.proofs.line_start.Goals as goal

-- the line that starts at `at` ends at `end`, and some are left to pass
module _ (s : List ℕ) (at left end : ℕ) (here : at ≤ length s) (some : 0 < left) (e : end ≡ min at (length s) + length (first_line (drop at s))) where
  more : suc (left - 1) ≡ left
  more = omega arith

  last : end ≡ length s → at + start_of (drop at s) left ≡ length s
  last l =
      let z = start_last (drop at s) (left - 1) (omega (arith, length-drop at s)) in
      omega (arith, ap (start_of (drop at s)) more, z, length-drop at s)

  next : end < length s → at + start_of (drop at s) left ≡ end + 1 + start_of (drop (end + 1) s) (left - 1)
  next l =
      let z = start_next (drop at s) (left - 1) (omega (arith, length-drop at s)) in
      let k : at + suc (length (first_line (drop at s))) ≡ end + 1 = omega arith in
      let d = drop-drop (suc (length (first_line (drop at s)))) at s in
      omega (arith, ap (start_of (drop at s)) more, z, ap (λ (t : List ℕ). start_of t (left - 1)) d, ap (λ (j : ℕ). start_of (drop j s) (left - 1)) k)

pub loop-passed-init : goal.loop-passed-init
loop-passed-init c = let z : c.args.k - 0 ≡ c.args.k = omega arith in (omega arith, omega (arith, ap (start_of c.args.text.now) z))

pub returns-then-end-text : goal.returns-then-end-text
returns-then-end-text c =
    let h = c.part_end-end in
    let l = c.loop-passed in
    let z = last c.args.text.now l.start (c.args.k - l._passed) h.result l.invariant.0 (omega arith) h.ensures.place in
    omega (arith, l.invariant.1, z c.if-end-text.true, c.if-end-text.true)

pub overflow_add-start : goal.overflow_add-start
overflow_add-start c = let h = c.part_end-end in omega (arith, h.ensures.within, c.if-end-text.false, c.well_formed)

pub loop-passed-preserved : goal.loop-passed-preserved
loop-passed-preserved c =
    let h = c.part_end-end in
    let l = c.loop-passed in
    let s = c.args.text.now in
    let z = next s l.start (c.args.k - l._passed) h.result l.invariant.0 (omega arith) h.ensures.place in
    let n : h.result < length s = omega (arith, h.ensures.within, c.if-end-text.false) in
    let k : c.args.k - l._passed - 1 ≡ c.args.k - (l._passed + 1) = omega arith in
    (omega arith, omega (arith, l.invariant.1, z n, ap (start_of (drop (h.result + 1) s)) k))

pub returns : goal.returns
returns c =
    let s = c.args.text.now in
    let l = c.loop-passed in
    let z : c.args.k - l._passed ≡ 0 = omega arith in
    omega (arith, l.invariant.1, ap (start_of (drop l.start s)) z, start_zero (drop l.start s))

-- `starts` meets its contract: the triangles before the position are the quotient, and none is left over.
use borrow.Author.Tests.{eqb-true, eqb-false}
use Prim.Native.Nat.{◌-◌, ◌*◌, ◌/◌, ◌%◌}
use mathlib.Core.Path.{◌≡◌, ap, ◌∙◌}
use native.Mathlib.Nat.{div-add-mod, mul-mod_right}
use native.Mathlib.Omega.{arith}
use Rattle.scans_stl.specs.Steps.{TriangleStarts}
use Rattle.scans_stl.proofs.starts.Goals as goal

pub returns-then-at-file : goal.returns-then-at-file
returns-then-at-file c =
    let a = c.args.at in
    record {
      yes = λ e.
          let m : (a - 84) % 50 ≡ 0 = eqb-true _ _ e in
          let d = div-add-mod (a - 84) 50 in
          record { nth = (a - 84) / 50; below = omega arith; place = omega arith };
      no = λ e (s : TriangleStarts _ _).
          let d : a - 84 ≡ 50 * s.nth = omega (arith, s.place) in
          eqb-false _ _ e (ap (λ k. k % 50) d ∙ mul-mod_right 50 s.nth);
    }

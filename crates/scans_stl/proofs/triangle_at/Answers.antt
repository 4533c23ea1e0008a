-- `triangle_at` meets its contract: the lower of its corners' numbers is the lowest refusal of its nine floats, and none refused means that each is taken.
use Rattle.std.specs.Prelude.{ℕ, ◌+◌, ◌*◌, ◌≡◌, refl, true, List, [], ◌∷◌, ℤ, Result, Ok, Err}
use Rattle.std.proofs.Common.{sym, ap, subst, arith}
use Rattle.std.proofs.lemmas.Result.{err_from_is_err_and}
use Rattle.limits.specs.Refusals.{answer_number}
use Rattle.limits.specs.declared.Refusal.{Refusal}
use Rattle.limits.proofs.RefusalLaws.{number_some}
use Rattle.scans.specs.declared.Steps.{Steps}
use Rattle.scans.specs.Lower.{both_number, both_given}
use Rattle.scans.specs.Scanned.{both_of, scanned_of, PointAs}
use Rattle.scans.proofs.ResultsOnce.{scanned_number}
use Rattle.scans.proofs.Within.{point_as_is}
use Rattle.scans_stl.specs.Stl.{normal_bytes, corner_bytes, triangle_bytes, point_at, triangle_at, Corner, in_steps, numbers_of}
use Rattle.scans_stl.specs.StlLaws.{LowestOf, one_of, first_of, corner_taken}
use Rattle.scans_stl.specs.Steps.{taken_of, TriangleAs}
use Rattle.scans_stl.proofs.triangle_at.Goals as goal

-- the numbers of three corners as they were scanned
abbrev nine : Steps → Steps → Steps → List ℤ
nine a b c = a.x ∷ a.y ∷ a.z ∷ b.x ∷ b.y ∷ b.z ∷ c.x ∷ c.y ∷ c.z ∷ []

abbrev corner_of : Steps → Corner
corner_of a = record { x = a.x; y = a.y; z = a.z }

-- what the three corners of a triangle gave, put together
module _ (file : List ℕ) (at : ℕ) (a b c : Result Steps Refusal) (ha : PointAs (point_at file (at + normal_bytes)) (scanned_of a))
    (hb : PointAs (point_at file (at + normal_bytes + corner_bytes)) (scanned_of b))
    (hc : PointAs (point_at file (at + normal_bytes + 2 * corner_bytes)) (scanned_of c)) where
  lowest : LowestOf (triangle_at file at) (answer_number (both_of a (both_of b c)))
  lowest =
      let p = point_at file (at + normal_bytes) in
      let q = point_at file (at + normal_bytes + corner_bytes) in
      let s = point_at file (at + normal_bytes + 2 * corner_bytes) in
      rw (both_number a (both_of b c), both_number b c, ← scanned_number a, ← scanned_number b, ← scanned_number c)
      (first_of p (q ∷ s ∷ []) ha.number (first_of q (s ∷ []) hb.number (one_of s hc.number)))

  all_taken : (x y z : Steps) → both_of a (both_of b c) ≡ Ok (x, (y, z))
      → TriangleAs file at (record { number = 0; found = true; corners = nine x y z; next = at + triangle_bytes })
  all_taken x y z e =
      let f = both_given e in
      let g = both_given f.1 in
      let u : in_steps (point_at file (at + normal_bytes)) ≡ corner_of x = corner_taken (rw f.0 at ha) refl in
      let v : in_steps (point_at file (at + normal_bytes + corner_bytes)) ≡ corner_of y = corner_taken (rw g.0 at hb) refl in
      let w : in_steps (point_at file (at + normal_bytes + 2 * corner_bytes)) ≡ corner_of z = corner_taken (rw g.1 at hc) refl in
      record {
        number = subst (LowestOf (triangle_at file at)) (ap answer_number e) lowest;
        handed = λ _. sym (λ i. record { number = 0; found = true; corners = numbers_of (u i ∷ v i ∷ w i ∷ []); next = at + triangle_bytes });
        nothing = λ f. absurd (f refl);
      }

  one_refused : (r : Refusal) → both_of a (both_of b c) ≡ Err r → TriangleAs file at (taken_of (Err r))
  one_refused r e = record {
    number = subst (LowestOf (triangle_at file at)) (ap answer_number e) lowest;
    handed = λ z. absurd (omega (arith, number_some r));
    nothing = λ _. refl;
  }

pub returns-in_err-a : goal.returns-in_err-a
returns-in_err-a c =
    let p = err_from_is_err_and c.from_residual.result c.from_residual.ensures.1 in
    rw (p.1, p.2)
    (one_refused c.args.file.now c.args.at c.corner-a.result c.corner-b.result c.corner-c.result
    c.corner-a.ensures c.corner-b.ensures c.corner-c.ensures c.in_err-a.field-0.0
    (cc (c.in_err-a.ensures, c.both.ensures)))

pub returns : goal.returns
returns c =
    let a = c.in_ok-a.a in
    let b = c.in_ok-a.b in
    let d = c.in_ok-a.c in
    let e : both_of c.corner-a.result (both_of c.corner-b.result c.corner-c.result) ≡ Ok (a, (b, d)) = cc (c.in_ok-a.ensures, c.both.ensures) in
    let f = both_given e in
    let g = both_given f.1 in
    let u = point_as_is a (rw f.0 at c.corner-a.ensures) in
    let v = point_as_is b (rw g.0 at c.corner-b.ensures) in
    let w = point_as_is d (rw g.1 at c.corner-c.ensures) in
    rw (u.0, u.1, u.2, v.0, v.1, v.2, w.0, w.1, w.2)
    (all_taken c.args.file.now c.args.at c.corner-a.result c.corner-b.result c.corner-c.result c.corner-a.ensures c.corner-b.ensures c.corner-c.ensures a b d e)

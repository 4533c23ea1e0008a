-- `scan_patterns` meets its contract: the lower of three numbers is the lowest refusal of the three floats together (specs/Lower).
use Rattle.std.specs.Prelude.{◌≡◌, ◌⊎◌, refl, ℤ, Result, Ok, Err}
use Rattle.std.proofs.Common.{ap, subst, arith}
use Rattle.std.proofs.lemmas.Result.{err_from_is_err_and}
use Rattle.limits.specs.Lowest.{Lowest}
use Rattle.limits.specs.Refusals.{answer_number}
use Rattle.limits.specs.declared.Refusal.{Refusal}
use Rattle.limits.proofs.RefusalLaws.{number_some}
use Rattle.scans.specs.declared.Point.{Point}
use Rattle.scans.specs.Lower.{together, both_number, both_given}
use Rattle.scans.specs.Scanned.{scan_of, both_of, scanned_of, ScannedAs, One, of_patterns, PointAs}
use Rattle.scans.specs.Floats.{refusals}
use Rattle.scans.proofs.ResultsOnce.{scan_number}
use Rattle.scans.proofs.Within.{float_as_is}
use Rattle.scans.proofs.scan_patterns.Goals as goal

-- what the floats of a point gave, put together
module _ (p : Point) (a b c : Result ℤ Refusal) (ha : ScannedAs p.x (scan_of a)) (hb : ScannedAs p.y (scan_of b)) (hc : ScannedAs p.z (scan_of c)) where
  lowest : Lowest (refusals (λ C. One C p)) (answer_number (both_of a (both_of b c)))
  lowest =
      rw (both_number a (both_of b c), both_number b c, ← scan_number a, ← scan_number b, ← scan_number c)
      (together (λ C. C p.x) (λ C. C p.y ⊎ C p.z) _ _ ha.number (together (λ C. C p.y) (λ C. C p.z) _ _ hb.number hc.number))

  all_taken : (x y z : ℤ) → both_of a (both_of b c) ≡ Ok (x, (y, z)) → PointAs p (record { number = 0; x = x; y = y; z = z })
  all_taken x y z e =
      let f = both_given e in
      let g = both_given f.1 in
      record {
        number = subst (Lowest (refusals (λ C. One C p))) (ap answer_number e) lowest;
        steps = λ _. ((rw f.0 at ha).steps refl, (rw g.0 at hb).steps refl, (rw g.1 at hc).steps refl);
        zero = λ f. absurd (f refl);
      }

  one_refused : (r : Refusal) → both_of a (both_of b c) ≡ Err r → PointAs p (scanned_of (Err r))
  one_refused r e = record {
    number = subst (Lowest (refusals (λ C. One C p))) (ap answer_number e) lowest;
    steps = λ z. absurd (omega (arith, number_some r));
    zero = λ _. (refl, refl, refl);
  }

pub returns-in_err-x : goal.returns-in_err-x
returns-in_err-x c =
    let p = err_from_is_err_and c.from_residual.result c.from_residual.ensures.1 in
    rw (p.1, p.2)
    (one_refused (of_patterns c.args.x c.args.y c.args.z) c.scan_pattern.result c.scan_pattern-2.result c.scan_pattern-3.result
    c.scan_pattern.ensures c.scan_pattern-2.ensures c.scan_pattern-3.ensures c.in_err-x.field-0.0
    (cc (c.in_err-x.ensures, c.both.ensures)))

pub returns : goal.returns
returns c =
    let e : both_of c.scan_pattern.result (both_of c.scan_pattern-2.result c.scan_pattern-3.result) ≡ Ok (c.in_ok-x.x, (c.in_ok-x.y, c.in_ok-x.z)) =
    cc (c.in_ok-x.ensures, c.both.ensures) in
    let f = both_given e in
    let g = both_given f.1 in
    rw (
      float_as_is c.in_ok-x.x (rw f.0 at c.scan_pattern.ensures),
      float_as_is c.in_ok-x.y (rw g.0 at c.scan_pattern-2.ensures),
      float_as_is c.in_ok-x.z (rw g.1 at c.scan_pattern-3.ensures),
    )
    (all_taken (of_patterns c.args.x c.args.y c.args.z) c.scan_pattern.result c.scan_pattern-2.result c.scan_pattern-3.result
    c.scan_pattern.ensures c.scan_pattern-2.ensures c.scan_pattern-3.ensures c.in_ok-x.x c.in_ok-x.y c.in_ok-x.z e)

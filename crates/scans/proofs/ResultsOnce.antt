-- Determinacy of the answers themselves: two results of which a contract allows what they say (specs/Once) are one result.
use Rattle.std.specs.Prelude.{◌≡◌, refl, ℤ, Float, Result, Ok, Err}
use Rattle.std.proofs.Common.{ap, ◌∙◌, sym}
use Rattle.limits.specs.Refusals.{answer_number}
use Rattle.limits.specs.declared.Refusal.{Refusal}
use Rattle.limits.proofs.RefusalLaws.{result_once}
use Rattle.scans.specs.declared.Point.{Point}
use Rattle.scans.specs.declared.Steps.{Steps}
use Rattle.scans.specs.Scanned.{Scan, scan_of, Scanned, scanned_of, ScannedAs, PointAs}
use Rattle.scans.specs.Shown.{Millimetres, millimetres_of, ShownAs}
use Rattle.scans.specs.Once.{scanned_once, point_once, shown_once}

pub scan_number : (r : Result ℤ Refusal) → (scan_of r).number ≡ answer_number r
scan_number (Ok z) = refl
scan_number (Err r) = refl

pub scan_once : {x : Float} (r t : Result ℤ Refusal) → ScannedAs x (scan_of r) → ScannedAs x (scan_of t) → r ≡ t
scan_once r t h k =
    let e = scanned_once h k in
    result_once r t (sym (scan_number r) ∙ ap (λ (s : Scan). s.number) e ∙ scan_number t)
    (λ y z p q. let f : scan_of (Ok y) ≡ scan_of (Ok z) = sym (ap scan_of p) ∙ e ∙ ap scan_of q in ap (λ (s : Scan). s.steps) f)

pub scanned_number : (r : Result Steps Refusal) → (scanned_of r).number ≡ answer_number r
scanned_number (Ok s) = refl
scanned_number (Err r) = refl

same_steps : (s t : Steps) → scanned_of (Ok s) ≡ scanned_of (Ok t) → s ≡ t
same_steps s t e = λ i. record { x = (e i).x; y = (e i).y; z = (e i).z }

pub steps_once : {p : Point} (r t : Result Steps Refusal) → PointAs p (scanned_of r) → PointAs p (scanned_of t) → r ≡ t
steps_once r t h k =
    let e = point_once h k in
    result_once r t (sym (scanned_number r) ∙ ap (λ (s : Scanned). s.number) e ∙ scanned_number t)
    (λ y z p q. same_steps y z (sym (ap scanned_of p) ∙ e ∙ ap scanned_of q))

pub millimetres_number : (r : Result Float Refusal) → (millimetres_of r).number ≡ answer_number r
millimetres_number (Ok x) = refl
millimetres_number (Err r) = refl

pub millimetres_once : {z : ℤ} (r t : Result Float Refusal) → ShownAs z (millimetres_of r) → ShownAs z (millimetres_of t) → r ≡ t
millimetres_once r t h k =
    let e = shown_once h k in
    result_once r t (sym (millimetres_number r) ∙ ap (λ (m : Millimetres). m.number) e ∙ millimetres_number t)
    (λ y z p q. let f : millimetres_of (Ok y) ≡ millimetres_of (Ok z) = sym (ap millimetres_of p) ∙ e ∙ ap millimetres_of q in ap (λ (m : Millimetres). m.value) f)

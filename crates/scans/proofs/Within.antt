-- What is scanned is within the range: so a number of steps is itself again when a machine's number has held it.
use Rattle.std.specs.Prelude.{◌≤◌, ◌≡◌, refl, ℤ, pos, negsuc, nat_abs, Float, Ok}
use Rattle.std.proofs.Common.{inl, inr, ⊎_elim, arith, SFits, to_z, of_z, to_z-of_z, w32}
use Rattle.ints.specs.Order.{lt-or-ge}
use Rattle.limits.specs.Limits
use Rattle.scans.specs.declared.Point.{Point}
use Rattle.scans.specs.declared.Steps.{Steps}
use Rattle.scans.specs.Floats.{InSteps, Beyond}
use Rattle.scans.specs.Scanned.{scan_of, scanned_of, ScannedAs, One, PointAs}
use Rattle.scans.specs.TakenWhen.{taken_only, none_applies, beyond}

small : (z : ℤ) → nat_abs z ≤ Limits.shape_reach → SFits w32 z
small (pos n) h = record { sfits = omega arith }
small (negsuc n) h = record { sfits = omega arith }

as_is : (z : ℤ) → nat_abs z ≤ Limits.shape_reach → to_z w32 (of_z w32 z) ≡ z
as_is z h = to_z-of_z (small z h)

pub float_as_is : {x : Float} (z : ℤ) → ScannedAs x (scan_of (Ok z)) → to_z w32 (of_z w32 z) ≡ z
float_as_is {x} z h = as_is z (taken_only {x = x} {r = scan_of (Ok z)} h refl).1

in_range : (x : Float) (z : ℤ) → InSteps x z → (Beyond x → ⊥) → to_z w32 (of_z w32 z) ≡ z
in_range x z v f = as_is z (⊎_elim (λ l. absurd (f (beyond x z v l))) (λ l. l) (lt-or-ge Limits.shape_reach (nat_abs z)))

pub point_as_is : {p : Point} (s : Steps) → PointAs p (scanned_of (Ok s))
    → (to_z w32 (of_z w32 s.x) ≡ s.x) × (to_z w32 (of_z w32 s.y) ≡ s.y) × (to_z w32 (of_z w32 s.z) ≡ s.z)
point_as_is {p} s h =
    let f = none_applies (λ C. One C p) h.number refl in
    let v = h.steps refl in
    (in_range p.x s.x v.0 (λ u. f.2 (inl u)), in_range p.y s.y v.1 (λ u. f.2 (inr (inl u))), in_range p.z s.z v.2 (λ u. f.2 (inr (inr u))))

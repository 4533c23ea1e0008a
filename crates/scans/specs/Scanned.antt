-- What scanning a float or a point may answer: "A float is taken exactly when its value times 64 is a whole number within ±65,536; minus zero is 0."
-- Otherwise "the lowest number that applies is given", and "every other value in the answer is zero" (document 01).
use Rattle.std.specs.Prelude.{ℕ, ◌≤◌, ◌<◌, min, ◌≡◌, Bool, cond, ◌⊎◌, eqb, ltb, ℤ, pos, Float, Result, Ok, Err}
use Rattle.std.specs.Float.{binary32}
use Rattle.std.specs.Float.Ieee.{of_bits}
use Rattle.limits.specs.Limits
use Rattle.limits.specs.Lowest.{Lowest}
use Rattle.limits.specs.Refusals.{number_of}
use Rattle.limits.specs.declared.Refusal.{Refusal}
use Rattle.scans.specs.Floats.{with_sign, InSteps, refusals}
use Rattle.scans.specs.declared.Point.{Point}
use Rattle.scans.specs.declared.Steps.{Steps}

-- what one float gives: 0 and its steps, or the number of the refusal and 0
pub record Scan : Type 0 where
  pub number : ℕ
  pub steps : ℤ

abbrev pub scan_of : Result ℤ Refusal → Scan
scan_of (Ok z) = record { number = Limits.done; steps = z }
scan_of (Err r) = record { number = number_of r; steps = pos 0 }

-- what a point gives: 0 and its steps, or the number of the refusal and zeros
pub record Scanned : Type 0 where
  pub number : ℕ
  pub x : ℤ
  pub y : ℤ
  pub z : ℤ

abbrev pub scanned_of : Result Steps Refusal → Scanned
scanned_of (Ok s) = record { number = Limits.done; x = s.x; y = s.y; z = s.z }
scanned_of (Err r) = record { number = number_of r; x = pos 0; y = pos 0; z = pos 0 }

-- what the float x may give
pub record ScannedAs (x : Float) (r : Scan) : Type 0 where
  pub number : Lowest (refusals (λ C. C x)) r.number
  pub steps : r.number ≡ Limits.done → InSteps x r.steps
  pub zero : (r.number ≡ Limits.done → ⊥) → r.steps ≡ pos 0

-- "a record of three 32-bit floats": C is so of one of them
abbrev pub One : (Float → Type 0) → Point → Type 0
One C p = C p.x ⊎ (C p.y ⊎ C p.z)

-- the point whose floats have these bit patterns
abbrev pub of_patterns : ℕ → ℕ → ℕ → Point
of_patterns x y z = record { x = of_bits binary32 x; y = of_bits binary32 y; z = of_bits binary32 z }

-- what the point p may give
pub record PointAs (p : Point) (r : Scanned) : Type 0 where
  pub number : Lowest (refusals (λ C. One C p)) r.number
  pub steps : r.number ≡ Limits.done → InSteps p.x r.x × InSteps p.y r.y × InSteps p.z r.z
  pub zero : (r.number ≡ Limits.done → ⊥) → (r.x ≡ pos 0) × (r.y ≡ pos 0) × (r.z ≡ pos 0)

-- the lower of two refusals, where 0 says that none applies
abbrev pub lower_of : ℕ → ℕ → ℕ
lower_of a b = cond (eqb a Limits.done) b (cond (eqb b Limits.done) a (min a b))

-- of two refusals the one with the lower number
abbrev pub lower_refusal : Refusal → Refusal → Refusal
lower_refusal r s = cond (ltb (number_of s) (number_of r)) s r

-- both values, or the lower of the refusals
abbrev pub both_of : {A B : Type 0} → Result A Refusal → Result B Refusal → Result (A × B) Refusal
both_of (Ok x) (Ok y) = Ok (x, y)
both_of (Ok x) (Err r) = Err r
both_of (Err r) (Ok y) = Err r
both_of (Err r) (Err s) = Err (lower_refusal r s)

-- the whole number of steps n, with the sign s, is taken or out of range
abbrev pub TakenAs : Bool → ℕ → Scan → Type 0
TakenAs s n r =
    (Limits.shape_reach < n × (r ≡ record { number = Limits.float_range; steps = pos 0 }))
    ⊎ (n ≤ Limits.shape_reach × (r ≡ record { number = Limits.done; steps = with_sign s n }))

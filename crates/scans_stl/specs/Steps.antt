-- A single step (document 02, W2): "A single step refuses with 21, then 22; a position at which no triangle starts answers that there is none; else the
-- lowest of 16 to 18 over its own triangle applies, or the triangle is handed out in steps." A position is the byte at which a triangle's 50 bytes start.
use Rattle.std.specs.Prelude.{ℕ, ◌+◌, ◌*◌, ◌<◌, ◌≡◌, Bool, true, false, List, ◌++◌, map, ℤ, pos, replicate, Option, Some, None, Result, Ok, Err}
use Rattle.limits.specs.Limits
use Rattle.limits.specs.Lowest.{Rule, Lowest}
use Rattle.limits.specs.Refusals.{number_of}
use Rattle.limits.specs.declared.Refusal.{Refusal}
use Rattle.limits.specs.Decides.{Decides}
use Rattle.scans.specs.Floats.{refusals}
use Rattle.scans_stl.specs.Stl.{first_at, triangle_bytes, triangle_count, triangle_at, AnyOf, in_steps, numbers_of, file_refusals}
use Rattle.scans_stl.specs.declared.Triangle.{Triangle}

-- a triangle of the file starts at the position
pub record TriangleStarts (file : List ℕ) (at : ℕ) : Type 0 where
  pub nth : ℕ
  pub below : nth < triangle_count file
  pub place : at ≡ first_at + triangle_bytes * nth

-- the order is the request's own: 21, 22, then the lowest of 16 to 18
abbrev pub step_refusals : List ℕ → ℕ → List Rule
step_refusals file at = file_refusals file ++ refusals (λ C. TriangleStarts file at × AnyOf C (triangle_at file at))

-- the three corners of a triangle, nine numbers in steps
abbrev pub in_numbers : List ℕ → ℕ → List ℤ
in_numbers file at = numbers_of (map in_steps (triangle_at file at))

-- what a step gives: 0, `found` and a triangle's corners in steps with the position behind it; 0 and nothing where no triangle starts;
-- or the number of the refusal and nothing
pub record Handed : Type 0 where
  pub number : ℕ
  pub found : Bool
  pub corners : List ℤ
  pub next : ℕ

abbrev pub handed_of : Result (Option Triangle) Refusal → Handed
handed_of (Ok (Some t)) = record { number = Limits.done; found = true; corners = t.corners; next = t.next }
handed_of (Ok None) = record { number = Limits.done; found = false; corners = replicate 9 (pos 0); next = 0 }
handed_of (Err r) = record { number = number_of r; found = false; corners = replicate 9 (pos 0); next = 0 }

-- the same of a triangle that is known to stand there
abbrev pub taken_of : Result Triangle Refusal → Handed
taken_of (Ok t) = handed_of (Ok (Some t))
taken_of (Err r) = handed_of (Err r)

-- a triangle handed out: its corners in steps, and the position behind it
abbrev pub handed_at : List ℕ → ℕ → Handed
handed_at file at = record { number = Limits.done; found = true; corners = in_numbers file at; next = at + triangle_bytes }

-- no triangle: "Every other value in the answer is zero" (document 01), and so it is where there is none
abbrev pub no_triangle : ℕ → Handed
no_triangle n = record { number = n; found = false; corners = replicate 9 (pos 0); next = 0 }

-- what a step at a position of a file may answer
pub record StepAs (file : List ℕ) (at : ℕ) (r : Handed) : Type 0 where
  pub number : Lowest (step_refusals file at) r.number
  pub started : r.number ≡ Limits.done → Decides r.found (TriangleStarts file at)
  pub handed : r.found ≡ true → r ≡ handed_at file at
  pub nothing : r.found ≡ false → r ≡ no_triangle r.number

-- what reading the triangle at a position may answer, wherever it stands
pub record TriangleAs (file : List ℕ) (at : ℕ) (r : Handed) : Type 0 where
  pub number : Lowest (refusals (λ C. AnyOf C (triangle_at file at))) r.number
  pub handed : r.number ≡ Limits.done → r ≡ handed_at file at
  pub nothing : (r.number ≡ Limits.done → ⊥) → r ≡ no_triangle r.number

-- Determinacy of the answers themselves: two results of which a contract allows what they say are one result (specs/StepLaws),
-- and a reader is left as one reader.
use Rattle.std.specs.Prelude.{ℕ, ◌≡◌, refl, List, Option, Some, None, Result, Ok, Err}
use Rattle.std.proofs.Common.{ap, arith}
use Rattle.limits.specs.declared.Refusal.{Refusal}
use Rattle.limits.proofs.RefusalLaws.{number_once, number_some}
use Rattle.scans_stl.specs.Steps.{Handed, handed_of, taken_of, StepAs, TriangleAs}
use Rattle.scans_stl.specs.StepLaws.{step_once, triangle_once, next_once}
use Rattle.scans_stl.specs.Reading.{NextAs}
use Rattle.scans_stl.specs.declared.Reader.{Reader}
use Rattle.scans_stl.specs.declared.Triangle.{Triangle}

-- a triangle is the only one with its corners and the position behind it
same_triangle : (t u : Triangle) → handed_of (Ok (Some t)) ≡ handed_of (Ok (Some u)) → t ≡ u
same_triangle t u e = λ i. record { corners = (e i).corners; next = (e i).next }

-- an answer is the only one with its number, and with what was found
taken_is : (r t : Result Triangle Refusal) → taken_of r ≡ taken_of t → r ≡ t
taken_is (Ok t) (Ok u) e = ap Ok (same_triangle t u e)
taken_is (Ok t) (Err r) e = absurd (omega (arith, number_some r, ap (λ (h : Handed). h.number) e))
taken_is (Err r) (Ok t) e = absurd (omega (arith, number_some r, ap (λ (h : Handed). h.number) e))
taken_is (Err q) (Err r) e = ap Err (number_once q r (ap (λ (h : Handed). h.number) e))

handed_is : (r t : Result (Option Triangle) Refusal) → handed_of r ≡ handed_of t → r ≡ t
handed_is (Ok (Some t)) (Ok (Some u)) e = ap (λ (t : Triangle). Ok (Some t)) (same_triangle t u e)
handed_is (Ok (Some t)) (Ok None) e = absurd (cc (ap (λ (h : Handed). h.found) e))
handed_is (Ok None) (Ok (Some u)) e = absurd (cc (ap (λ (h : Handed). h.found) e))
handed_is (Ok None) (Ok None) e = refl
handed_is (Ok (Some t)) (Err r) e = absurd (omega (arith, number_some r, ap (λ (h : Handed). h.number) e))
handed_is (Ok None) (Err r) e = absurd (omega (arith, number_some r, ap (λ (h : Handed). h.number) e))
handed_is (Err r) (Ok (Some t)) e = absurd (omega (arith, number_some r, ap (λ (h : Handed). h.number) e))
handed_is (Err r) (Ok None) e = absurd (omega (arith, number_some r, ap (λ (h : Handed). h.number) e))
handed_is (Err q) (Err r) e = ap Err (number_once q r (ap (λ (h : Handed). h.number) e))

pub step_result_once : {file : List ℕ} {at : ℕ} (r t : Result (Option Triangle) Refusal) → StepAs file at (handed_of r) → StepAs file at (handed_of t) → r ≡ t
step_result_once r t h k = handed_is r t (step_once h k)

pub triangle_result_once : {file : List ℕ} {at : ℕ} (r t : Result Triangle Refusal) → TriangleAs file at (taken_of r) → TriangleAs file at (taken_of t) → r ≡ t
triangle_result_once r t h k = taken_is r t (triangle_once h k)

-- two answers of a reader, and the readers that they leave
pub next_result_once : {before after last : Reader} (r t : Result (Option Triangle) Refusal) → NextAs before after (handed_of r) → NextAs before last (handed_of t) → (r ≡ t) × (after ≡ last)
next_result_once r t h k = let e = next_once h k in (handed_is r t e.0, e.1)

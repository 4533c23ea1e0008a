-- Determinacy of the answers themselves: two results of which the contract of `corners` allows what they say are one result, and they leave one room
-- (specs/WholeLaws).
use Rattle.std.specs.Prelude.{ℕ, ◌≡◌, List, ℤ, Result, Ok, Err}
use Rattle.std.proofs.Common.{ap, arith}
use Rattle.limits.specs.declared.Refusal.{Refusal}
use Rattle.limits.proofs.RefusalLaws.{number_once, number_some}
use Rattle.scans_stl_corners.specs.Kept.{ShapeRead, shape_of, ShapeReadAs}
use Rattle.scans_stl_corners.specs.WholeLaws.{shape_read_once}

-- an answer is the only one with its number and its count
shape_is : (r t : Result ℕ Refusal) → shape_of r ≡ shape_of t → r ≡ t
shape_is (Ok m) (Ok n) e = ap Ok (ap (λ (s : ShapeRead). s.count) e)
shape_is (Ok m) (Err t) e = absurd (omega (arith, number_some t, ap (λ (s : ShapeRead). s.number) e))
shape_is (Err r) (Ok n) e = absurd (omega (arith, number_some r, ap (λ (s : ShapeRead). s.number) e))
shape_is (Err r) (Err t) e = ap Err (number_once r t (ap (λ (s : ShapeRead). s.number) e))

pub shape_result_once : {file : List ℕ} {before after last : List ℤ} (r t : Result ℕ Refusal)
    → ShapeReadAs file before after (shape_of r) → ShapeReadAs file before last (shape_of t) → (r ≡ t) × (after ≡ last)
shape_result_once r t h k = let e = shape_read_once h k in (shape_is r t e.0, e.1)

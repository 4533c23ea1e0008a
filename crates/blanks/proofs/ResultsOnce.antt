-- Determinacy of the answers themselves: two results of which a contract allows what they say are one result, and they leave one room (specs/Once).
use Rattle.std.specs.Prelude.{ℕ, ◌≡◌, List, ℤ, Result, Ok, Err}
use Rattle.std.proofs.Common.{ap, arith}
use Rattle.limits.specs.declared.Refusal.{Refusal}
use Rattle.limits.proofs.RefusalLaws.{number_once, number_some}
use Rattle.scans.specs.declared.Point.{Point}
use Rattle.blanks.specs.Blanks.{Written, written_of, WrittenAs}
use Rattle.blanks.specs.Once.{written_once}

-- an answer is the only one with its number and its count
written_is : (r t : Result ℕ Refusal) → written_of r ≡ written_of t → r ≡ t
written_is (Ok m) (Ok n) e = ap Ok (ap (λ (w : Written). w.count) e)
written_is (Ok m) (Err t) e = absurd (omega (arith, number_some t, ap (λ (w : Written). w.number) e))
written_is (Err r) (Ok n) e = absurd (omega (arith, number_some r, ap (λ (w : Written). w.number) e))
written_is (Err r) (Err t) e = ap Err (number_once r t (ap (λ (w : Written). w.number) e))

pub written_result_once : {p : Point} {n : ℕ} {corners : ℤ → ℤ → ℤ → List ℤ} {before after last : List ℤ} (r t : Result ℕ Refusal)
    → WrittenAs p n corners before after (written_of r) → WrittenAs p n corners before last (written_of t) → (r ≡ t) × (after ≡ last)
written_result_once r t h k = let e = written_once h k in (written_is r t e.0, e.1)

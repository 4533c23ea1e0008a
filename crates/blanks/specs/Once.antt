-- Determinacy: any two answers that the contract of `corners` allows are equal, and so is the room that they leave.
-- The sizes in steps are not in the answer, but a float is only one number of steps.
use Rattle.std.specs.Prelude.{ℕ, ◌<◌, ◌≡◌, List, ◌∷◌, ◌++◌, ℤ, length, drop}
use Rattle.std.proofs.Common.{sym, ap, ◌∙◌, ⊎_elim}
use Rattle.limits.specs.Limits
use Rattle.limits.specs.Lowest.{◌when◌}
use Rattle.limits.proofs.LowestLaws.{lowest_once}
use Rattle.scans.specs.Once.{zero_or, steps_once}
use Rattle.scans.specs.declared.Point.{Point}
use Rattle.blanks.specs.Blanks.{size_refusals, Filled, Written, WrittenAs}

module _ {p : Point} {n : ℕ} {corners : ℤ → ℤ → ℤ → List ℤ} {before after last : List ℤ} where
  filled_once : {count more : ℕ} → Filled p n corners before after count → Filled p n corners before last more → (after ≡ last) × (count ≡ more)
  filled_once f g = (
    f.room ∙ ap (λ (l : List ℤ). l ++ drop n before)
        (λ i. corners (steps_once p.x f.wide g.wide i) (steps_once p.y f.deep g.deep i) (steps_once p.z f.high g.high i)) ∙ sym g.room,
    f.counted ∙ sym g.counted,
  )

  pub written_once : {r t : Written} → WrittenAs p n corners before after r → WrittenAs p n corners before last t → (r ≡ t) × (after ≡ last)
  written_once {r} {t} h k =
      let e : r.number ≡ t.number = lowest_once (Limits.short_room when (length before < n) ∷ size_refusals p) h.number k.number in
      let both : (after ≡ last) × (r.count ≡ t.count) = ⊎_elim
      (λ (z : r.number ≡ 0). filled_once (h.filled z) (k.filled (sym e ∙ z)))
      (λ (f : r.number ≡ 0 → ⊥).
      let a = h.kept f in
      let b = k.kept (λ z. f (e ∙ z)) in
      (a.0 ∙ sym b.0, a.1 ∙ sym b.1)) (zero_or r.number) in
      (λ i. record { number = e i; count = both.1 i }, both.0)

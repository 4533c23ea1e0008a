-- The answer of a whole file, drawn part by part: refused by 21 or 22, by one of its floats, or as what is kept is written or refused.
-- And that any two answers are equal, the room that they leave with them.
use Rattle.std.specs.Prelude.{ℕ, ◌≡◌, refl, List, ◌++◌, ℤ}
use Rattle.std.proofs.Common.{sym, ◌∙◌, ⊎_elim, arith}
use Rattle.limits.specs.Limits
use Rattle.limits.specs.Lowest.{Lowest}
use Rattle.limits.proofs.LowestLaws.{positive, lowest_first, lowest_then, lowest_once}
use Rattle.scans.specs.Floats.{refusals}
use Rattle.scans.specs.Once.{zero_or}
use Rattle.scans_stl.specs.Stl.{file_corners, AnyOf, file_refusals}
use Rattle.scans_stl.specs.StlLaws.{LowestOf}
use Rattle.scans_stl.specs.StepLaws.{file_positive}
use Rattle.scans_stl_corners.specs.Kept.{kept_of, kept_refusals, whole_refusals, ShapeRead, ShapeReadAs}
use Rattle.scans_stl_corners.specs.Holding.{FillsAs}

module _ {file : List ℕ} {before : List ℤ} where
  pub whole_refused : {n : ℕ} → (n ≡ Limits.done → ⊥) → Lowest (file_refusals file) n → ShapeReadAs file before before (record { number = n; count = 0 })
  whole_refused f h = record {
    number = lowest_first (file_refusals file) (refusals (λ C. AnyOf C (file_corners file)) ++ kept_refusals (kept_of file) before) h (positive f);
    filled = λ e. absurd (f e);
    stays = λ _. (refl, refl);
  }

  module _ (h : Lowest (file_refusals file) Limits.done) where
    pub float_refused : {n : ℕ} → (n ≡ Limits.done → ⊥) → LowestOf (file_corners file) n → ShapeReadAs file before before (record { number = n; count = 0 })
    float_refused {n} f k = record {
      number = lowest_then (file_refusals file) (refusals (λ C. AnyOf C (file_corners file)) ++ kept_refusals (kept_of file) before) n (file_positive file) h
          (lowest_first (refusals (λ C. AnyOf C (file_corners file))) (kept_refusals (kept_of file) before) k (positive f));
      filled = λ e. absurd (f e);
      stays = λ _. (refl, refl);
    }

    pub whole_fills : {after : List ℤ} {r : ShapeRead} → LowestOf (file_corners file) Limits.done → FillsAs (kept_of file) before after r → ShapeReadAs file before after r
    whole_fills {r = r} k g = record {
      number = lowest_then (file_refusals file) (refusals (λ C. AnyOf C (file_corners file)) ++ kept_refusals (kept_of file) before) r.number (file_positive file) h
          (lowest_then (refusals (λ C. AnyOf C (file_corners file))) (kept_refusals (kept_of file) before) r.number (omega arith, (omega arith, (omega arith, tt))) k g.number);
      filled = g.filled;
      stays = g.stays;
    }

-- ---- determinacy
pub shape_read_once : {file : List ℕ} {before after last : List ℤ} {r t : ShapeRead} → ShapeReadAs file before after r → ShapeReadAs file before last t → (r ≡ t) × (after ≡ last)
shape_read_once {file} {before} {after} {last} {r} {t} h k =
    let e : r.number ≡ t.number = lowest_once (whole_refusals file before) h.number k.number in
    let both : (after ≡ last) × (r.count ≡ t.count) = ⊎_elim
    (λ (z : r.number ≡ 0).
    let a = h.filled z in
    let b = k.filled (sym e ∙ z) in
    (a.room ∙ sym b.room, a.counted ∙ sym b.counted))
    (λ (f : r.number ≡ 0 → ⊥).
    let a = h.stays f in
    let b = k.stays (λ z. f (e ∙ z)) in
    (a.0 ∙ sym b.0, a.1 ∙ sym b.1)) (zero_or r.number) in
    (λ i. record { number = e i; count = both.1 i }, both.0)

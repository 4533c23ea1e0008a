-- Laws of a step: what a file that is not refused has, how a step's answer is drawn from a triangle's, and that any two answers are equal.
-- The definitions stand in Steps.
use Rattle.std.specs.Prelude.{ℕ, ◌+◌, ◌*◌, ◌≤◌, ◌<◌, ◌≡◌, refl, Bool, true, false, List, ◌⊎◌, T, length}
use Rattle.std.proofs.Common.{sym, ap, ◌∙◌, subst, inl, inr, ⊎_elim, arith}
use Rattle.ints.specs.Order.{lt-or-ge}
use Rattle.limits.specs.Limits
use Rattle.limits.specs.Lowest.{Lowest, Positive}
use Rattle.limits.proofs.LowestLaws.{positive, lowest_first, lowest_then, lowest_once}
use Rattle.limits.specs.DecidesLaws.{holds, fails, decides_once}
use Rattle.scans.specs.Floats.{refusals}
use Rattle.scans.specs.Lower.{same_floats}
use Rattle.scans.specs.Once.{zero_or}
use Rattle.scans_stl.specs.Stl.{first_at, triangle_bytes, triangle_count, triangle_at, AnyOf, file_refusals}
use Rattle.scans_stl.specs.Steps.{Handed, TriangleStarts, step_refusals, no_triangle, StepAs, TriangleAs}
use Rattle.scans_stl.specs.Reading.{NextAs}
use Rattle.scans_stl.specs.declared.Reader.{Reader}

equal : (m n : ℕ) → ((m ≡ n → ⊥) → ⊥) → m ≡ n
equal m n f = ⊎_elim (λ (l : m < n). absurd (f (λ e. omega arith))) (λ (l : n ≤ m). ⊎_elim (λ (k : n < m). absurd (f (λ e. omega arith))) (λ (k : m ≤ n). omega arith) (lt-or-ge n m)) (lt-or-ge m n)

-- ---- a file that is not refused
-- 21 and 22 are not 0
pub file_positive : (file : List ℕ) → Positive (file_refusals file)
file_positive file = (omega arith, (omega arith, tt))

pub whole_length : (file : List ℕ) → Lowest (file_refusals file) Limits.done → length file ≡ first_at + triangle_bytes * triangle_count file
whole_length file (inl p) = absurd (omega (arith, p.1))
whole_length file (inr (f, h)) = equal (length file) (first_at + triangle_bytes * triangle_count file) (λ u. f (inr u))

-- a triangle that starts lies within the file
pub starts_within : {file : List ℕ} {at : ℕ} → length file ≡ first_at + triangle_bytes * triangle_count file → TriangleStarts file at → at + triangle_bytes ≤ length file
starts_within e s = omega (arith, s.below, s.place)

-- ---- a step's answer
module _ {file : List ℕ} {at : ℕ} {r : Handed} where
  -- a triangle starts: the answer is what reading it gave
  pub step_reads : Lowest (file_refusals file) Limits.done → TriangleStarts file at → TriangleAs file at r → StepAs file at r
  step_reads h s t = record {
    number = lowest_then (file_refusals file) (refusals (λ C. TriangleStarts file at × AnyOf C (triangle_at file at))) _ (file_positive file) h
        (same_floats (λ C. AnyOf C (triangle_at file at)) (λ C. TriangleStarts file at × AnyOf C (triangle_at file at)) (λ C u. (s, u)) (λ C u. u.1) t.number);
    started = λ e. holds (ap (λ (r : Handed). r.found) (t.handed e)) s;
    handed = λ e. ⊎_elim t.handed (λ f. absurd (subst T (sym e ∙ ap (λ (r : Handed). r.found) (t.nothing f)) tt)) (zero_or r.number);
    nothing = λ e. ⊎_elim (λ z. absurd (subst T (sym (ap (λ (r : Handed). r.found) (t.handed z)) ∙ e) tt)) t.nothing (zero_or r.number);
  }

-- no triangle starts: there is none
pub step-none : {file : List ℕ} {at : ℕ} → Lowest (file_refusals file) Limits.done → (TriangleStarts file at → ⊥) → StepAs file at (no_triangle Limits.done)
step-none {file} {at} h f = record {
  number = lowest_then (file_refusals file) (refusals (λ C. TriangleStarts file at × AnyOf C (triangle_at file at))) _ (file_positive file) h
      (inr ((λ u. f u.0), inr ((λ u. f u.0), inr ((λ u. f u.0), refl))));
  started = λ e. fails refl f;
  handed = λ e. absurd (subst T (sym e) tt);
  nothing = λ e. refl;
}

-- the file is refused
pub step_refused : {file : List ℕ} {at n : ℕ} → (n ≡ Limits.done → ⊥) → Lowest (file_refusals file) n → StepAs file at (no_triangle n)
step_refused {file} {at} f h = record {
  number = lowest_first (file_refusals file) (refusals (λ C. TriangleStarts file at × AnyOf C (triangle_at file at))) h (positive f);
  started = λ e. absurd (f e);
  handed = λ e. absurd (subst T (sym e) tt);
  nothing = λ e. refl;
}

-- ---- determinacy
same_found : {file : List ℕ} {at : ℕ} {r t : Handed} → StepAs file at r → StepAs file at t → r.number ≡ t.number → r.found ≡ t.found
same_found {r = r} {t} h k n = ⊎_elim
    (λ (e : r.number ≡ 0). decides_once (h.started e) (k.started (sym n ∙ e)))
    (λ (f : r.number ≡ 0 → ⊥). not_found h f ∙ sym (not_found k (λ e. f (n ∙ e)))) (zero_or r.number)
  where
    not_found : {file : List ℕ} {at : ℕ} {r : Handed} → StepAs file at r → (r.number ≡ 0 → ⊥) → r.found ≡ false
    not_found {r = r} h f = by r.found refl
      where
        by : (b : Bool) → r.found ≡ b → r.found ≡ false
        by true e = absurd (f (ap (λ (r : Handed). r.number) (h.handed e)))
        by false e = e

pub step_once : {file : List ℕ} {at : ℕ} {r t : Handed} → StepAs file at r → StepAs file at t → r ≡ t
step_once {file} {at} {r} {t} h k = by r.found refl
  where
    n : r.number ≡ t.number
    n = lowest_once (step_refusals file at) h.number k.number

    b : r.found ≡ t.found
    b = same_found h k n

    by : (v : Bool) → r.found ≡ v → r ≡ t
    by true e = h.handed e ∙ sym (k.handed (sym b ∙ e))
    by false e = h.nothing e ∙ ap no_triangle n ∙ sym (k.nothing (sym b ∙ e))

pub triangle_once : {file : List ℕ} {at : ℕ} {r t : Handed} → TriangleAs file at r → TriangleAs file at t → r ≡ t
triangle_once {file} {at} {r} {t} h k =
    let n : r.number ≡ t.number = lowest_once (refusals (λ C. AnyOf C (triangle_at file at))) h.number k.number in
    ⊎_elim (λ (e : r.number ≡ 0). h.handed e ∙ sym (k.handed (sym n ∙ e)))
    (λ (f : r.number ≡ 0 → ⊥). h.nothing f ∙ ap no_triangle n ∙ sym (k.nothing (λ e. f (n ∙ e)))) (zero_or r.number)

-- two answers of a reader, and the readers that they leave
pub next_once : {before after last : Reader} {r t : Handed} → NextAs before after r → NextAs before last t → (r ≡ t) × (after ≡ last)
next_once {before} {after} {last} {r} {t} h k =
    let e : r ≡ t = step_once h.handed k.handed in
    let f : after.file ≡ last.file = h.file ∙ sym k.file in
    let m : after.at ≡ last.at = h.moved ∙ sym (subst (NextAs before last) (sym e) k).moved in
    (e, λ i. record { file = f i; at = m i })

-- ---- one triangle after another: the first starts at the first position, and behind each the next one starts, or the file ends
pub first_starts : {file : List ℕ} → 0 < triangle_count file → TriangleStarts file first_at
first_starts h = record { nth = 0; below = h; place = refl }

pub next_starts : {file : List ℕ} {at : ℕ} → length file ≡ first_at + triangle_bytes * triangle_count file → TriangleStarts file at
    → TriangleStarts file (at + triangle_bytes) ⊎ (at + triangle_bytes ≡ length file)
next_starts {file} {at} e s = ⊎_elim
    (λ (l : s.nth + 1 < triangle_count file). inl (record { nth = s.nth + 1; below = l; place = omega (arith, s.place) }))
    (λ (l : triangle_count file ≤ s.nth + 1). inr (omega (arith, s.below, s.place))) (lt-or-ge (s.nth + 1) (triangle_count file))

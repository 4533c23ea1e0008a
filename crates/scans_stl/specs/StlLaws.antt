-- Laws of corners: the lowest refusal of corners that are read one after the other, that what is taken is in steps what was read, and one triangle more.
-- The definitions stand in Stl.
use Rattle.std.specs.Prelude.{ℕ, zero, suc, ◌+◌, ◌*◌, ◌≡◌, refl, List, [], ◌∷◌, ◌++◌, ◌⊎◌, Float}
use Rattle.std.proofs.Common.{ap, ◌∙◌, inl, inr, ⊎_elim, arith}
use Rattle.limits.specs.Limits
use Rattle.limits.specs.Lowest.{Lowest}
use Rattle.scans.specs.Floats.{NotFinite, NotWhole, refusals}
use Rattle.scans.specs.Scanned.{One, Scanned, PointAs, lower_of}
use Rattle.scans.specs.Lower.{together, same_floats}
use Rattle.scans.specs.TakenWhen.{none_applies, steps_are, steps_of_lem}
use Rattle.scans.specs.declared.Point.{Point}
use Rattle.scans_stl.specs.Stl.{triangle_bytes, triangle_at, corners_from, AnyOf, in_steps, AllInSteps}

-- the lowest refusal of the floats of corners
abbrev pub LowestOf : List Point → ℕ → Type 0
LowestOf l n = Lowest (refusals (λ C. AnyOf C l)) n

-- of no corners none applies
pub none_of : LowestOf [] 0
none_of = inr ((λ u. u), inr ((λ u. u), inr ((λ u. u), refl)))

-- of one corner alone it is the corner's
pub one_of : (p : Point) {n : ℕ} → Lowest (refusals (λ C. One C p)) n → LowestOf (p ∷ []) n
one_of p h = same_floats (λ C. One C p) (λ C. AnyOf C (p ∷ [])) (λ C u. inl u) (λ C. ⊎_elim (λ u. u) (λ (u : ⊥). absurd u)) h

-- a corner, and then others
pub first_of : (p : Point) (l : List Point) {m n : ℕ} → Lowest (refusals (λ C. One C p)) m → LowestOf l n → LowestOf (p ∷ l) (lower_of m n)
first_of p l {m} {n} h k = together (λ C. One C p) (λ C. AnyOf C l) m n h k

-- corners, and then others
either : (C : Float → Type 0) (l k : List Point) → AnyOf C l ⊎ AnyOf C k → AnyOf C (l ++ k)
either C [] k (inl u) = absurd u
either C [] k (inr u) = u
either C (p ∷ l) k (inl (inl u)) = inl u
either C (p ∷ l) k (inl (inr u)) = inr (either C l k (inl u))
either C (p ∷ l) k (inr u) = inr (either C l k (inr u))

apart : (C : Float → Type 0) (l k : List Point) → AnyOf C (l ++ k) → AnyOf C l ⊎ AnyOf C k
apart C [] k u = inr u
apart C (p ∷ l) k (inl u) = inl (inl u)
apart C (p ∷ l) k (inr u) = ⊎_elim (λ v. inl (inr v)) (λ v. inr v) (apart C l k u)

pub both_of_lem : (l k : List Point) {m n : ℕ} → LowestOf l m → LowestOf k n → LowestOf (l ++ k) (lower_of m n)
both_of_lem l k {m} {n} h g =
    same_floats (λ C. AnyOf C l ⊎ AnyOf C k) (λ C. AnyOf C (l ++ k)) (λ C. either C l k) (λ C. apart C l k) (together (λ C. AnyOf C l) (λ C. AnyOf C k) m n h g)

-- a corner that is taken is in steps what it was read as
pub corner_taken : {p : Point} {r : Scanned} → PointAs p r → r.number ≡ Limits.done → in_steps p ≡ record { x = r.x; y = r.y; z = r.z }
corner_taken {p} {r} h e =
    let v = h.steps e in
    λ i. record { x = steps_are p.x r.x v.0 i; y = steps_are p.y r.y v.1 i; z = steps_are p.z r.z v.2 i }

-- one triangle more
pub corners_more : (file : List ℕ) (at n : ℕ) → corners_from file at (suc n) ≡ corners_from file at n ++ triangle_at file (at + triangle_bytes * n)
corners_more file at zero =
    let e : at ≡ at + triangle_bytes * 0 = omega arith in
    ap (triangle_at file) e
corners_more file at (suc n) =
    let e : at + triangle_bytes + triangle_bytes * n ≡ at + triangle_bytes * suc n = omega arith in
    ap (λ (l : List Point). triangle_at file at ++ l)
    (corners_more file (at + triangle_bytes) n ∙ ap (λ (k : ℕ). corners_from file (at + triangle_bytes) n ++ triangle_at file k) e)

-- corners of which no float is refused are in steps what `in_steps` says
pub all_in_steps : (l : List Point) → LowestOf l Limits.done → AllInSteps l
all_in_steps l h = let n = none_applies (λ C. AnyOf C l) h refl in each l n.0 n.1
  where
    each : (l : List Point) → (AnyOf NotFinite l → ⊥) → (AnyOf NotWhole l → ⊥) → AllInSteps l
    each [] f g = tt
    each (p ∷ l) f g = (
      (
        steps_of_lem p.x (λ u. f (inl (inl u))) (λ u. g (inl (inl u))),
        steps_of_lem p.y (λ u. f (inl (inr (inl u)))) (λ u. g (inl (inr (inl u)))),
        steps_of_lem p.z (λ u. f (inl (inr (inr u)))) (λ u. g (inl (inr (inr u)))),
      ),
      each l (λ u. f (inr u)) (λ u. g (inr u)),
    )

-- Why `Lowest` is the lowest number that applies: of a list whose numbers rise it is no greater than any that applies, and not 0 where one does.
-- And "only where it applies": of any list, a number that is not 0 is that of a refusal which applies.
use Rattle.std.specs.Prelude.{◌≡◌, List, [], ◌∷◌, ◌++◌, Bool, true, false, ◌&&◌, ℕ, ◌≤◌, ◌<◌, T, ltb}
use Rattle.std.proofs.Common.{sym, ◌∙◌, inl, inr, arith, ltb→lt}
use Rattle.limits.specs.Lowest.{Rule, Lowest, rises_above, Rising, Positive, Applies}

both : (a b : Bool) → T (a && b) → T a × T b
both true b t = (tt, t)
both false b t = absurd t

-- what applies in a list that rises above k is above k
above : (k : ℕ) (l : List Rule) {n : ℕ} → T (rises_above k l) → Applies l n → k < n
above k [] t a = absurd a
above k (r ∷ rest) t (inl h) = omega (arith, ltb→lt k r.number (both (ltb k r.number) _ t).0, h.1)
above k (r ∷ rest) t (inr a) =
    let s = both (ltb k r.number) _ t in
    omega (arith, ltb→lt k r.number s.0, above r.number rest s.1 a)

least : (k : ℕ) (l : List Rule) {m n : ℕ} → T (rises_above k l) → Lowest l m → Applies l n → (k < m) × (m ≤ n)
least k [] t h a = absurd a
least k (r ∷ rest) t (inl h) (inl a) = let s = both (ltb k r.number) _ t in (omega (arith, ltb→lt k r.number s.0, h.1), omega (arith, h.1, a.1))
least k (r ∷ rest) t (inl h) (inr a) =
    let s = both (ltb k r.number) _ t in
    (omega (arith, ltb→lt k r.number s.0, h.1), omega (arith, h.1, above r.number rest s.1 a))
least k (r ∷ rest) t (inr h) (inl a) = absurd (h.0 a.0)
least k (r ∷ rest) t (inr h) (inr a) =
    let s = both (ltb k r.number) _ t in
    let g = least r.number rest s.1 h.1 a in
    (omega (arith, ltb→lt k r.number s.0, g.0), g.1)

-- where a number of a rising list applies, the lowest is not 0, and no greater than that number
pub lowest_least : (l : List Rule) {m n : ℕ} → Rising l → Lowest l m → Applies l n → (0 < m) × (m ≤ n)
lowest_least l t h a = least 0 l t h a

-- "and only where it applies"
pub lowest_applies : (l : List Rule) {n : ℕ} → Lowest l n → 0 < n → Applies l n
lowest_applies [] h z = absurd (omega arith)
lowest_applies (r ∷ rest) (inl h) z = inl h
lowest_applies (r ∷ rest) (inr h) z = inr (lowest_applies rest h.1 z)

-- ---- a list in two parts: the first decides where it refuses, and else the rest does
-- a number that is not 0
pub positive : {n : ℕ} → (n ≡ 0 → ⊥) → 0 < n
positive f = omega (arith, f)

pub lowest_first : (l k : List Rule) {n : ℕ} → Lowest l n → 0 < n → Lowest (l ++ k) n
lowest_first [] k h z = absurd (omega arith)
lowest_first (r ∷ l) k (inl h) z = inl h
lowest_first (r ∷ l) k (inr h) z = inr (h.0, lowest_first l k h.1 z)

pub lowest_then : (l k : List Rule) (n : ℕ) → Positive l → Lowest l 0 → Lowest k n → Lowest (l ++ k) n
lowest_then [] k n p h m = m
lowest_then (r ∷ l) k n p (inl h) m = absurd (omega (arith, h.1, p.0))
lowest_then (r ∷ l) k n p (inr h) m = inr (h.0, lowest_then l k n p.1 h.1 m)

-- the lowest is one number
pub lowest_once : (l : List Rule) {m n : ℕ} → Lowest l m → Lowest l n → m ≡ n
lowest_once [] h k = h ∙ sym k
lowest_once (r ∷ rest) (inl h) (inl k) = h.1 ∙ sym k.1
lowest_once (r ∷ rest) (inl h) (inr k) = absurd (k.0 h.0)
lowest_once (r ∷ rest) (inr h) (inl k) = absurd (h.0 k.0)
lowest_once (r ∷ rest) (inr h) (inr k) = lowest_once rest h.1 k.1

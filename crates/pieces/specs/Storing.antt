-- Laws of a run of stores: what stands in the cells that it wrote, and in every other.
-- A shape is stored so, and so is a placement.
use Rattle.std.specs.Prelude.{◌≡◌, refl, List, [], ◌∷◌, ◌⊎◌, ℕ, zero, suc, ◌+◌, ◌≤◌, ◌<◌, length, get_or, set, ℤ, pos}
use Rattle.std.proofs.Common.{ap, ◌∙◌, inl, inr, arith, length-set, get_or-set_same, get_or-set_other}
use Rattle.std.proofs.lemmas.List.Edits.{sets}

pub sets_other : (vs l : List ℤ) (i k : ℕ) → (k < i) ⊎ (i + length vs ≤ k) → get_or (sets l i vs) k (pos 0) ≡ get_or l k (pos 0)
sets_other [] l i k h = refl
sets_other (v ∷ vs) l i k (inl h) = sets_other vs (set l i v) (suc i) k (inl (omega arith)) ∙ get_or-set_other l i k v (pos 0) (λ e. omega arith)
sets_other (v ∷ vs) l i k (inr h) = sets_other vs (set l i v) (suc i) k (inr (omega arith)) ∙ get_or-set_other l i k v (pos 0) (λ e. omega arith)

pub sets_at : (vs l : List ℤ) (i k : ℕ) → i + length vs ≤ length l → k < length vs → get_or (sets l i vs) (i + k) (pos 0) ≡ get_or vs k (pos 0)
sets_at [] l i k h g = absurd (omega arith)
sets_at (v ∷ vs) l i zero h g =
    let e : i + 0 ≡ i = omega arith in
    ap (λ n. get_or (sets (set l i v) (suc i) vs) n (pos 0)) e ∙ sets_other vs (set l i v) (suc i) i (inl (omega arith)) ∙ get_or-set_same l i v (pos 0) (omega arith)
sets_at (v ∷ vs) l i (suc k) h g =
    let e : i + suc k ≡ suc i + k = omega arith in
    ap (λ n. get_or (sets (set l i v) (suc i) vs) n (pos 0)) e ∙ sets_at vs (set l i v) (suc i) k (let n = length-set l i v in omega arith) (omega arith)

-- five stores one after the other
pub five_stored : (l : List ℤ) (i : ℕ) (a b c d e : ℤ) → set (set (set (set (set l i a) (i + 1) b) (i + 2) c) (i + 3) d) (i + 4) e ≡ sets l i (a ∷ b ∷ c ∷ d ∷ e ∷ [])
five_stored l i a b c d e =
    let p : i + 1 ≡ suc i = omega arith in
    let q : i + 2 ≡ suc (suc i) = omega arith in
    let r : i + 3 ≡ suc (suc (suc i)) = omega arith in
    let s : i + 4 ≡ suc (suc (suc (suc i))) = omega arith in
    rw (p, q, r, s)

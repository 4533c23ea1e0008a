-- Laws of an array that holds corners: how one corner more is kept, and that its numbers are those of the corners in their order.
-- The definitions stand in Holding.
use Rattle.std.specs.Prelude.{ℕ, zero, suc, ◌+◌, ◌*◌, ◌≤◌, ◌<◌, ◌≡◌, refl, Bool, true, false, ◌||◌, cond, List, [], ◌∷◌, ◌++◌, ℤ, pos, length, get_or, take, set}
use Rattle.std.proofs.Common.{sym, ap, ◌∙◌, arith, length-append, length-set, take-add, drop-cons, get_or-set_same, get_or-set_other}
use Rattle.limits.specs.Limits
use Rattle.scans_stl.specs.Stl.{Corner, numbers_of}
use Rattle.scans_stl_corners.specs.Kept.{same_corner, among, keep_one}
use Rattle.scans_stl_corners.specs.KeptLaws.{among_last}
use Rattle.scans_stl_corners.specs.Holding.{corner_of, corner_held, corners_held, with_corner, Holding}

pub holds_none : (a : List ℤ) → Holding a 0 []
holds_none a = record { counted = refl; held = λ l. refl }

-- what is kept never gets less
longer : (l : List Corner) (c : Corner) → length l ≤ length (keep_one l c)
longer l c = by (among c l)
  where
    by : (t : Bool) → length l ≤ length (cond t l (l ++ c ∷ []))
    by true = omega arith
    by false = simp length-append (omega arith)

module _ {a : List ℤ} {n : ℕ} {l : List Corner} (h : Holding a n l) where
  -- as long as the count is one that a shape may have, it is exact
  pub within : n ≤ Limits.corners → (length l ≡ n) × (corners_held a n ≡ l)
  within u =
      let e : length l ≡ n = omega (arith, h.counted) in
      (e, h.held (omega arith))

  -- one too many already
  pub keep_over : (c : Corner) → Limits.corners < n → Holding a n (keep_one l c)
  keep_over c u =
      let k = longer l c in
      record { counted = omega (arith, h.counted); held = λ v. absurd (omega (arith, h.counted)) }

  -- it is among them
  pub keep_had : (c : Corner) → n ≤ Limits.corners → among c (corners_held a n) ≡ true → Holding a n (keep_one l c)
  keep_had c u e =
      let w = within u in
      let f : keep_one l c ≡ l = ap (λ (t : Bool). cond t l (l ++ c ∷ [])) (ap (among c) (sym w.1) ∙ e) in
      rw f h

  module _ (c : Corner) (u : n ≤ Limits.corners) (e : among c (corners_held a n) ≡ false) where
    behind : keep_one l c ≡ l ++ c ∷ []
    behind = ap (λ (t : Bool). cond t l (l ++ c ∷ [])) (ap (among c) (sym (within u).1) ∙ e)

    counts : length (keep_one l c) ≡ n + 1
    counts = ap length behind ∙ length-append l (c ∷ []) ∙ ap (λ (k : ℕ). k + 1) (within u).0

    -- it is not, and there is no place for it
    pub keep_many : n ≡ Limits.corners → Holding a (n + 1) (keep_one l c)
    keep_many k = record { counted = omega (arith, counts); held = λ v. absurd (omega (arith, counts)) }

    -- it is not, and is put behind them
    pub keep_put : (b : List ℤ) → n < Limits.corners → corners_held b (n + 1) ≡ corners_held a n ++ c ∷ [] → Holding b (n + 1) (keep_one l c)
    keep_put b k f = record {
      counted = omega (arith, counts);
      held = λ v. f ∙ ap (λ (m : List Corner). m ++ c ∷ []) (within u).1 ∙ sym behind;
    }

-- ---- a corner put into an array
corners_same : (a b : List ℤ) (n : ℕ) → ((i : ℕ) → i < 3 * n → get_or a i (pos 0) ≡ get_or b i (pos 0)) → corners_held a n ≡ corners_held b n
corners_same a b zero h = refl
corners_same a b (suc n) h =
    let x = h (3 * n) (omega arith) in
    let y = h (3 * n + 1) (omega arith) in
    let z = h (3 * n + 2) (omega arith) in
    λ i. corners_same a b n (λ k l. h k (omega arith)) i ++ corner_of (x i) (y i) (z i) ∷ []

module _ (a : List ℤ) (n : ℕ) (x y z : ℤ) (h : 3 * n + 3 ≤ length a) where
  before : (i : ℕ) → i < 3 * n → get_or (with_corner a n x y z) i (pos 0) ≡ get_or a i (pos 0)
  before i l =
      get_or-set_other (set (set a (3 * n) x) (3 * n + 1) y) (3 * n + 2) i z (pos 0) (λ e. omega arith)
      ∙ get_or-set_other (set a (3 * n) x) (3 * n + 1) i y (pos 0) (λ e. omega arith)
      ∙ get_or-set_other a (3 * n) i x (pos 0) (λ e. omega arith)

  first : get_or (with_corner a n x y z) (3 * n) (pos 0) ≡ x
  first =
      get_or-set_other (set (set a (3 * n) x) (3 * n + 1) y) (3 * n + 2) (3 * n) z (pos 0) (λ e. omega arith)
      ∙ get_or-set_other (set a (3 * n) x) (3 * n + 1) (3 * n) y (pos 0) (λ e. omega arith)
      ∙ get_or-set_same a (3 * n) x (pos 0) (omega arith)

  second : get_or (with_corner a n x y z) (3 * n + 1) (pos 0) ≡ y
  second =
      get_or-set_other (set (set a (3 * n) x) (3 * n + 1) y) (3 * n + 2) (3 * n + 1) z (pos 0) (λ e. omega arith)
      ∙ get_or-set_same (set a (3 * n) x) (3 * n + 1) y (pos 0) (omega (arith, length-set a (3 * n) x))

  third : get_or (with_corner a n x y z) (3 * n + 2) (pos 0) ≡ z
  third =
      get_or-set_same (set (set a (3 * n) x) (3 * n + 1) y) (3 * n + 2) z (pos 0)
      (omega (arith, length-set a (3 * n) x, length-set (set a (3 * n) x) (3 * n + 1) y))

  pub put_behind : corners_held (with_corner a n x y z) (suc n) ≡ corners_held a n ++ corner_of x y z ∷ []
  put_behind = λ i. corners_same (with_corner a n x y z) a n before i ++ corner_of (first i) (second i) (third i) ∷ []

-- ---- a corner looked for from the last one on
pub among_none : (a : List ℤ) (n : ℕ) (c : Corner) → same_corner (corner_held a n) c ≡ false → among c (corners_held a (suc n)) ≡ among c (corners_held a n)
among_none a n c e = among_last c (corner_held a n) (corners_held a n) ∙ ap (λ (t : Bool). among c (corners_held a n) || t) e ∙ or-none (among c (corners_held a n))
  where
    or-none : (t : Bool) → t || false ≡ t
    or-none true = refl
    or-none false = refl

pub among_found : (a : List ℤ) (n : ℕ) (c : Corner) → same_corner (corner_held a n) c ≡ true → among c (corners_held a (suc n)) ≡ true
among_found a n c e = among_last c (corner_held a n) (corners_held a n) ∙ ap (λ (t : Bool). among c (corners_held a n) || t) e ∙ or-true (among c (corners_held a n))
  where
    or-true : (t : Bool) → t || true ≡ true
    or-true true = refl
    or-true false = refl

-- ---- the numbers of the corners held
numbers_last : (l : List Corner) (c : Corner) → numbers_of (l ++ c ∷ []) ≡ numbers_of l ++ (c.x ∷ c.y ∷ c.z ∷ [])
numbers_last [] c = refl
numbers_last (d ∷ l) c = ap (λ (m : List ℤ). d.x ∷ d.y ∷ d.z ∷ m) (numbers_last l c)

three_more : (a : List ℤ) (k : ℕ) → k + 3 ≤ length a
    → take (k + 3) a ≡ take k a ++ (get_or a k (pos 0) ∷ get_or a (k + 1) (pos 0) ∷ get_or a (k + 2) (pos 0) ∷ [])
three_more a k h =
    let y : suc k ≡ k + 1 = omega arith in
    let z : suc (suc k) ≡ k + 2 = omega arith in
    take-add k 3 a
    ∙ ap (λ (l : List ℤ). take k a ++ take 3 l)
    (drop-cons a k (pos 0) (omega arith)
    ∙ ap (λ (l : List ℤ). get_or a k (pos 0) ∷ l)
    (drop-cons a (suc k) (pos 0) (omega arith) ∙ ap (λ (l : List ℤ). get_or a (suc k) (pos 0) ∷ l) (drop-cons a (suc (suc k)) (pos 0) (omega arith))))
    ∙ (λ i. take k a ++ (get_or a k (pos 0) ∷ get_or a (y i) (pos 0) ∷ get_or a (z i) (pos 0) ∷ []))

pub numbers_held : (a : List ℤ) (n : ℕ) → 3 * n ≤ length a → numbers_of (corners_held a n) ≡ take (3 * n) a
numbers_held a zero h = refl
numbers_held a (suc n) h =
    let e : 3 * n + 3 ≡ 3 * suc n = omega arith in
    numbers_last (corners_held a n) (corner_held a n)
    ∙ ap (λ (l : List ℤ). l ++ (get_or a (3 * n) (pos 0) ∷ get_or a (3 * n + 1) (pos 0) ∷ get_or a (3 * n + 2) (pos 0) ∷ [])) (numbers_held a n (omega arith))
    ∙ sym (three_more a (3 * n) (omega arith)) ∙ ap (λ (k : ℕ). take k a) e

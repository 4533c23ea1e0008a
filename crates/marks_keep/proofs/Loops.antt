-- What one round of each loop does to its list.
-- On plain lists and numbers; the proofs of the functions hand the facts over.
use Rattle.std.proofs.Common.{◌≡◌, ap, sym, ◌∙◌, subst, List, Bool, cond, ℕ, zero, suc, ◌+◌, ◌-◌, ◌≤◌, ◌<◌, arith, length, get_or, set, lt-ltb, get_or-set_same}
use Rattle.limits.specs.Limits
use Rattle.marks.specs.Keys.{no_key, key_of}
use Rattle.marks_keep.specs.Slide.{without}
use Rattle.marks_keep.specs.SlideLaws.{down_step, up_step}

-- a gap goes down by one cell
pub down_more : (i : ℕ) (xs ys : List ℕ) → 0 < i → i < length xs → without i xs ≡ ys → without (i - 1) (set xs (i - 1 + 1) (get_or xs (i - 1) 0)) ≡ ys
down_more zero xs ys h l e = absurd (omega arith)
down_more (suc i) xs ys h l e =
    let k : suc i - 1 ≡ i = omega arith in
    let n : i + 1 ≡ suc i = omega arith in
    ap (λ (z : ℕ). without z (set xs (z + 1) (get_or xs z 0))) k ∙ ap (λ (z : ℕ). without i (set xs z (get_or xs i 0))) n ∙ down_step i xs l ∙ e

-- a gap goes up by one cell
pub up_more : (i : ℕ) (xs ys : List ℕ) → 0 < i → i < length xs → without (i - 1) xs ≡ ys → without (i + 1 - 1) (set xs (i - 1) (get_or xs i 0)) ≡ ys
up_more zero xs ys h l e = absurd (omega arith)
up_more (suc i) xs ys h l e =
    let k : suc i - 1 ≡ i = omega arith in
    let n : suc i + 1 - 1 ≡ suc i = omega arith in
    ap (λ (z : ℕ). without z (set xs (suc i - 1) (get_or xs (suc i) 0))) n ∙ ap (λ (z : ℕ). without (suc i) (set xs z (get_or xs (suc i) 0))) k ∙ up_step i xs l
    ∙ sym (ap (λ (z : ℕ). without z xs) k) ∙ e

-- the key that was passed last
pub passed_is : (e : ℕ → ℕ) (k q i v : ℕ) (xs : List ℕ) → 0 < i → i < length xs → e v ≤ k → suc q ≡ i + 1 - 1 → e (get_or (set xs (i - 1) v) q 0) ≤ k
passed_is e k q i v xs s l h y =
    let p : i - 1 ≡ q = omega arith in
    let m : i - 1 < length xs = omega arith in
    subst (λ (z : ℕ). e (get_or (set xs (i - 1) v) z 0) ≤ k) p (subst (λ (z : ℕ). e z ≤ k) (sym (get_or-set_same xs (i - 1) v 0 m)) h)

-- the key that was stored
pub stored_key : (keys : List ℕ) (c key : ℕ) → c < length keys → c < Limits.axis_marks → key ≡ key_of (set keys c key) c
stored_key keys c key l m =
    sym (ap (λ (b : Bool). cond b (get_or (set keys c key) c 0) no_key) (lt-ltb c Limits.axis_marks m) ∙ get_or-set_same keys c key 0 l)

-- Lists whose keys rise: putting a number in by its key, and that such a list is told by its members.
-- The keys are any function e.
use Rattle.std.specs.Prelude.{◌≡◌, Bool, ◌&&◌, eqb, leb, ltb, get_or, replicate}
use Rattle.std.proofs.Math.Path.{refl, ap, subst}
use Rattle.std.proofs.Common.{sym, ◌∙◌, le-leb, lt-ltb, le-ltb, leb-true}
use Rattle.std.proofs.Math.Logic.{inl, inr}
use mathlib.Core.List.{List, [], ◌∷◌, ◌++◌}
use Rattle.std.proofs.Math.Bool.{true, cond}
use Prim.Native.Nat.{ℕ, zero, suc, ◌+◌, ◌≤◌, ◌<◌}
use native.Mathlib.Omega.{arith}
use Rattle.std.proofs.Math.ListN.{length}
use Rattle.ints.specs.Counts.{one_if, count_of, hit, hit_self, and-true, count-pos}
use Rattle.ints.specs.Order.{lt-or-ge}

-- the keys rise from k on
unfoldable pub rises : (ℕ → ℕ) → ℕ → List ℕ → Bool
rises e k [] = true
rises e k (x ∷ xs) = leb k (e x) && rises e (e x) xs

-- v goes in before the first whose key is not smaller
unfoldable pub into : (ℕ → ℕ) → ℕ → List ℕ → List ℕ
into e v [] = v ∷ []
into e v (x ∷ xs) = cond (ltb (e x) (e v)) (x ∷ into e v xs) (v ∷ x ∷ xs)

module _ (e : ℕ → ℕ) where
  pub up_head : (k x : ℕ) (xs : List ℕ) → rises e k (x ∷ xs) ≡ true → (k ≤ e x) × (rises e (e x) xs ≡ true)
  unfolding rises
  up_head k x xs h = let p = and-true (leb k (e x)) (rises e (e x) xs) h in (leb-true k (e x) p.0, p.1)

  pub up_make : (k x : ℕ) (xs : List ℕ) → k ≤ e x → rises e (e x) xs ≡ true → rises e k (x ∷ xs) ≡ true
  unfolding rises
  up_make k x xs h r = ap (λ (b : Bool). b && rises e (e x) xs) (le-leb k (e x) h) ∙ r

  pub up_none : (k : ℕ) → rises e k [] ≡ true
  unfolding rises
  up_none k = refl

  pub up_less : (j k : ℕ) (xs : List ℕ) → j ≤ k → rises e k xs ≡ true → rises e j xs ≡ true
  up_less j k [] h r = up_none j
  up_less j k (x ∷ xs) h r = let p = up_head k x xs r in up_make j x xs (omega arith) p.1

  -- what stands in the list has a key of k or more
  pub up_has : (k v : ℕ) (xs : List ℕ) → rises e k xs ≡ true → 1 ≤ count_of v xs → k ≤ e v
  unfolding count_of
  up_has k v [] r h = omega arith
  up_has k v (x ∷ xs) r h =
      let p = up_head k x xs r in
      elim (hit x v) [ inl y ↦ subst (λ (z : ℕ). k ≤ e z) y.0 p.0 | inr n ↦ omega (arith, up_has (e x) v xs p.1 (omega arith)) ]

  up_first : (k x v : ℕ) (xs : List ℕ) → rises e k (x ∷ xs) ≡ true → 1 ≤ count_of v (x ∷ xs) → e x ≤ e v
  up_first k x v xs r h = up_has (e x) v (x ∷ xs) (up_make (e x) x xs (omega arith) (up_head k x xs r).1) h

  -- the keys of two cells
  pub up_at : (k : ℕ) (xs : List ℕ) (i j : ℕ) → rises e k xs ≡ true → i < j → j < length xs → e (get_or xs i 0) ≤ e (get_or xs j 0)
  up_at k [] i j r l m = absurd (omega arith)
  up_at k (x ∷ xs) zero zero r l m = absurd (omega arith)
  up_at k (x ∷ xs) zero (suc j) r l m = up_has (e x) (get_or xs j 0) xs (up_head k x xs r).1 (count-pos xs j (omega arith))
  up_at k (x ∷ xs) (suc i) zero r l m = absurd (omega arith)
  up_at k (x ∷ xs) (suc i) (suc j) r l m = up_at (e x) xs i j (up_head k x xs r).1 (omega arith) (omega arith)

  pub up_from : (k : ℕ) (xs : List ℕ) → ((i : ℕ) → i < length xs → k ≤ e (get_or xs i 0)) → ((i j : ℕ) → i < j → j < length xs → e (get_or xs i 0) ≤ e (get_or xs j 0)) → rises e k xs ≡ true
  up_from k [] h u = up_none k
  up_from k (x ∷ xs) h u = up_make k x xs (h zero (omega arith)) (up_from (e x) xs (λ i l. u zero (suc i) (omega arith) (omega arith)) (λ i j l m. u (suc i) (suc j) (omega arith) (omega arith)))

  -- two lists that rise and have the same members are one
  pub same : (xs ys : List ℕ) (k j : ℕ) → rises e k xs ≡ true → rises e j ys ≡ true → ((v : ℕ) → count_of v xs ≡ count_of v ys)
      → ((a b : ℕ) → 1 ≤ count_of a xs → 1 ≤ count_of b xs → e a ≡ e b → a ≡ b) → xs ≡ ys
  unfolding count_of
  same [] [] k j r s c i = refl
  same [] (y ∷ ys) k j r s c i = absurd (omega (arith, c y, hit_self y))
  same (x ∷ xs) [] k j r s c i = absurd (omega (arith, c x, hit_self x))
  same (x ∷ xs) (y ∷ ys) k j r s c i =
      let xx = hit_self x in
      let yy = hit_self y in
      let y_in : 1 ≤ count_of y (x ∷ xs) = omega (arith, c y) in
      let x_in : 1 ≤ count_of x (y ∷ ys) = omega (arith, c x) in
      let le = up_first k x y xs r y_in in
      let ge = up_first j y x ys s x_in in
      let eq : x ≡ y = i x y (omega arith) y_in (omega arith) in
      ap (λ (z : ℕ). z ∷ xs) eq
      ∙ ap (λ (l : List ℕ). y ∷ l) (same xs ys (e x) (e y) (up_head k x xs r).1 (up_head j y ys s).1
      (λ v. omega (arith, c v, ap (λ (z : ℕ). one_if (eqb z v)) eq))
      (λ a b p q. i a b (omega arith) (omega arith)))

  -- only the members' keys matter
  pub up_same : (f : ℕ → ℕ) (k : ℕ) (xs : List ℕ) → ((v : ℕ) → 1 ≤ count_of v xs → e v ≡ f v) → rises e k xs ≡ true → rises f k xs ≡ true
  unfolding rises count_of
  up_same f k [] h r = refl
  up_same f k (x ∷ xs) h r =
      let p = up_head k x xs r in
      let q : e x ≡ f x = h x (omega (arith, hit_self x)) in
      let t : rises f (e x) xs ≡ true = up_same f (e x) xs (λ v m. h v (omega arith)) p.1 in
      ap (λ (b : Bool). b && rises f (f x) xs) (le-leb k (f x) (omega arith)) ∙ ap (λ (z : ℕ). rises f z xs) (sym q) ∙ t

  -- putting one in
  into_past : (v x : ℕ) (xs : List ℕ) → e x < e v → into e v (x ∷ xs) ≡ x ∷ into e v xs
  unfolding into
  into_past v x xs l = ap (λ (b : Bool). cond b (x ∷ into e v xs) (v ∷ x ∷ xs)) (lt-ltb (e x) (e v) l)

  into_here : (v x : ℕ) (xs : List ℕ) → e v ≤ e x → into e v (x ∷ xs) ≡ v ∷ x ∷ xs
  unfolding into
  into_here v x xs l = ap (λ (b : Bool). cond b (x ∷ into e v xs) (v ∷ x ∷ xs)) (le-ltb (e x) (e v) l)

  pub into_up : (k v : ℕ) (xs : List ℕ) → rises e k xs ≡ true → k ≤ e v → rises e k (into e v xs) ≡ true
  into_up k v [] r h = unfold into in up_make k v [] h (up_none (e v))
  into_up k v (x ∷ xs) r h =
      let p = up_head k x xs r in
      elim (lt-or-ge (e x) (e v)) [
        | inl l ↦ ap (rises e k) (into_past v x xs l) ∙ up_make k x (into e v xs) p.0 (into_up (e x) v xs p.1 (omega arith))
        | inr l ↦ ap (rises e k) (into_here v x xs l) ∙ up_make k v (x ∷ xs) h (up_make (e v) x xs l p.1)
      ]

  pub into_count : (q v : ℕ) (xs : List ℕ) → count_of q (into e v xs) ≡ one_if (eqb v q) + count_of q xs
  unfolding count_of
  into_count q v [] = unfold into in refl
  into_count q v (x ∷ xs) =
      elim (lt-or-ge (e x) (e v)) [
        | inl l ↦ omega (arith, ap (count_of q) (into_past v x xs l), into_count q v xs)
        | inr l ↦ ap (count_of q) (into_here v x xs l)
      ]

  pub into_long : (v : ℕ) (xs : List ℕ) → length (into e v xs) ≡ suc (length xs)
  into_long v [] = unfold into in refl
  into_long v (x ∷ xs) =
      elim (lt-or-ge (e x) (e v)) [
        | inl l ↦ ap length (into_past v x xs l) ∙ ap suc (into_long v xs)
        | inr l ↦ ap length (into_here v x xs l)
      ]

  -- filling up with a number whose key none exceeds
  pub fill_up_lem : (k w n : ℕ) (xs : List ℕ) → ((v : ℕ) → e v ≤ e w) → k ≤ e w → rises e k xs ≡ true → rises e k (xs ++ replicate n w) ≡ true
  fill_up_lem k w zero [] top h r = up_none k
  fill_up_lem k w (suc n) [] top h r = up_make k w (replicate n w) h (fill_up_lem (e w) w n [] top (omega arith) (up_none (e w)))
  fill_up_lem k w n (x ∷ xs) top h r = let p = up_head k x xs r in up_make k x (xs ++ replicate n w) p.0 (fill_up_lem (e x) w n xs top (top x) p.1)

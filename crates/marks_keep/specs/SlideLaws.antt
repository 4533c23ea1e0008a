-- Laws of the slide: a gap that is carried leaves the other cells as they are, and what is put into it where its key belongs leaves the part sorted.
-- On plain lists and numbers; the definitions stand in Slide.
use Rattle.std.specs.Prelude.{◌≡◌, refl, ◌⊎◌, Bool, false, cond, eqb, ltb, length, get_or, set}
use Rattle.std.proofs.Common.{ap, sym, ◌∙◌, subst, inl, inr, arith, lt-ltb, length-set, get_or-set_same, get_or-set_other}
use mathlib.Core.List.{List, [], ◌∷◌}
use Rattle.std.proofs.Math.Bool.{true}
use Prim.Native.Nat.{ℕ, zero, suc, ◌+◌, ◌≤◌, ◌<◌}
use Rattle.limits.specs.Limits
use Rattle.ints.specs.Counts.{one_if, count_of, hit, find}
use Rattle.ints.specs.Order.{lt-or-ge}
use Rattle.marks.specs.declared.MarkKeys.{MarkKeys}
use Rattle.marks.specs.Marks.{low_mark, high_mark}
use Rattle.marks.specs.Keys.{no_key, mark_in, key_of}
use Rattle.marks.specs.Rising.{rises, up_head, up_make, up_none, up_less, up_same}
use Rattle.marks.specs.Sorted.{Fine, Sorted, keyed, keyed_low, top_key, room, standing, own_standing, other_standing}
use Rattle.marks.proofs.Order.{fine, keys_are}
use Rattle.marks.proofs.Cells.{in_place, sorted}
use Rattle.marks.specs.Promises.{Reordered}
use Rattle.marks_keep.specs.Slide.{without, Found, CarriedDown, CarriedUp, Slid}

-- ---- a gap is carried by one cell
pub down_step : (i : ℕ) (xs : List ℕ) → suc i < length xs → without i (set xs (suc i) (get_or xs i 0)) ≡ without (suc i) xs
unfolding without
down_step i [] l = absurd (omega arith)
down_step i (x ∷ []) l = absurd (omega arith)
down_step zero (x ∷ y ∷ ys) l = refl
down_step (suc i) (x ∷ y ∷ ys) l = ap (λ (r : List ℕ). x ∷ r) (down_step i (y ∷ ys) (omega arith))

pub up_step : (i : ℕ) (xs : List ℕ) → suc i < length xs → without (suc i) (set xs i (get_or xs (suc i) 0)) ≡ without i xs
unfolding without
up_step i [] l = absurd (omega arith)
up_step i (x ∷ []) l = absurd (omega arith)
up_step zero (x ∷ y ∷ ys) l = refl
up_step (suc i) (x ∷ y ∷ ys) l = ap (λ (r : List ℕ). x ∷ r) (up_step i (y ∷ ys) (omega arith))

-- ---- what stands there
without_set : (i v : ℕ) (xs : List ℕ) → without i (set xs i v) ≡ without i xs
unfolding without
without_set i v [] = refl
without_set zero v (x ∷ xs) = refl
without_set (suc i) v (x ∷ xs) = ap (λ (r : List ℕ). x ∷ r) (without_set i v xs)

without_count : (q i : ℕ) (xs : List ℕ) → i < length xs → count_of q xs ≡ one_if (eqb (get_or xs i 0) q) + count_of q (without i xs)
unfolding without count_of
without_count q i [] l = absurd (omega arith)
without_count q zero (x ∷ xs) l = refl
without_count q (suc i) (x ∷ xs) l = omega (arith, without_count q i xs (omega arith))

set_count : (q i v : ℕ) (xs : List ℕ) → i < length xs → count_of q (set xs i v) ≡ one_if (eqb v q) + count_of q (without i xs)
set_count q i v xs l =
    without_count q i (set xs i v) (omega (arith, length-set xs i v))
    ∙ ap (λ (z : ℕ). one_if (eqb z q) + count_of q (without i (set xs i v))) (get_or-set_same xs i v 0 l)
    ∙ ap (λ (r : List ℕ). one_if (eqb v q) + count_of q r) (without_set i v xs)

-- ---- and that it rises
module _ (e : ℕ → ℕ) where
  without_up : (k i : ℕ) (xs : List ℕ) → rises e k xs ≡ true → rises e k (without i xs) ≡ true
  unfolding without
  without_up k i [] r = r
  without_up k zero (x ∷ xs) r = let p = up_head e k x xs r in up_less e k (e x) xs p.0 p.1
  without_up k (suc i) (x ∷ xs) r = let p = up_head e k x xs r in up_make e k x (without i xs) p.0 (without_up (e x) i xs p.1)

  set_up : (k v i : ℕ) (xs : List ℕ) → i < length xs → rises e k (without i xs) ≡ true → (i ≡ 0 → k ≤ e v) → ((q : ℕ) → suc q ≡ i → e (get_or xs q 0) ≤ e v)
      → (suc i < length xs → e v ≤ e (get_or xs (suc i) 0)) → rises e k (set xs i v) ≡ true
  unfolding without
  set_up k v i [] l r z b a = absurd (omega arith)
  set_up k v zero (x ∷ xs) l r z b a = up_make e k v xs (z refl) (from xs r a)
    where
      from : (xs : List ℕ) → rises e k xs ≡ true → (1 < suc (length xs) → e v ≤ e (get_or xs 0 0)) → rises e (e v) xs ≡ true
      from [] r a = up_none e (e v)
      from (y ∷ ys) r a = up_make e (e v) y ys (a (omega arith)) (up_head e k y ys r).1
  set_up k v (suc i) (x ∷ xs) l r z b a =
      let p = up_head e k x (without i xs) r in
      up_make e k x (set xs i v) p.0
      (set_up (e x) v i xs (omega arith) p.1 (λ y. b zero (ap suc (sym y))) (λ q y. b (suc q) (ap suc y)) (λ y. a (omega arith)))

-- ---- the cell that is found
found_holds : (v i : ℕ) (xs : List ℕ) → Found v xs i → 1 ≤ count_of v xs → get_or xs i 0 ≡ v
found_holds v i xs h n =
    let g = find v xs n in
    elim (lt-or-ge g.0 i) [
      | inl b ↦ absurd (h.before g.0 b g.2)
      | inr b ↦
          elim (lt-or-ge i g.0) [
            | inl a ↦ h.there (omega (arith, g.1))
            | inr a ↦ let y : i ≡ g.0 = omega arith in ap (λ (z : ℕ). get_or xs z 0) y ∙ g.2
          ]
    ]

-- ---- a mark whose key is new
module _ (c : ℕ) (low : c < Limits.axis_marks) where
  module _ (e : ℕ → ℕ) (xs : List ℕ) (i : ℕ) (f : Fine e) (s : Sorted e (keyed e) xs) (h : Found (standing (keyed e c) c) xs i) where
    -- what is looked for stands somewhere
    stands : (b : Bool) → keyed e c ≡ b → 1 ≤ count_of (standing b c) xs
    stands true k = omega (arith, s.once c (λ p. omega arith), ap one_if k)
    stands false k = room e (keyed e) xs s (keyed_low e f) c low k

    holds : get_or xs i 0 ≡ standing (keyed e c) c
    holds = found_holds (standing (keyed e c) c) i xs h (stands (keyed e c) refl)

    -- a gap there that is carried to where the new key belongs, and filled
    module _ (e' : ℕ → ℕ) (f' : Fine e') (agree : (q : ℕ) → (q ≡ c → ⊥) → e q ≡ e' q) (p : List ℕ) (j : ℕ) (long : length p ≡ length xs) (inside : j < length p)
        (rest : without j p ≡ without i xs) (below : (q : ℕ) → suc q ≡ j → e' (get_or p q 0) ≤ e' c) (above : suc j < length p → e' c ≤ e' (get_or p (suc j) 0)) where
      abbrev put : ℕ
      put = standing (keyed e' c) c

      key_same : e' put ≡ e' c
      key_same = by (keyed e' c) refl
        where
          by : (b : Bool) → keyed e' c ≡ b → e' (standing b c) ≡ e' c
          by true k = refl
          by false k = elim (lt-or-ge (e' c) no_key) [ inl l ↦ absurd (clash (sym (lt-ltb (e' c) no_key l) ∙ k)) | inr l ↦ omega (arith, f'.most c, top_key e' f') ]
            where
              clash : true ≡ false → ⊥
              clash p = let z : ◌≡◌ {A = ℕ} 0 1 = sym (ap one_if p) in omega arith

      was : (q : ℕ) → count_of q xs ≡ one_if (eqb (standing (keyed e c) c) q) + count_of q (without i xs)
      was q = without_count q i xs h.inside ∙ ap (λ (z : ℕ). one_if (eqb z q) + count_of q (without i xs)) holds

      is : (q : ℕ) → count_of q (set p j put) ≡ one_if (eqb put q) + count_of q (without i xs)
      is q = set_count q j put p inside ∙ ap (λ (r : List ℕ). one_if (eqb put q) + count_of q r) rest

      none : count_of c (without i xs) ≡ 0
      none = omega (arith, was c, s.once c (λ p. omega arith), own_standing c low (keyed e c))

      counts : (q : ℕ) → (q ≡ Limits.no_mark → ⊥) → count_of q (set p j put) ≡ one_if (keyed e' q)
      counts q n =
          elim (hit q c) [
            | inl y ↦ subst (λ (z : ℕ). count_of z (set p j put) ≡ one_if (keyed e' z)) (sym y.0) (omega (arith, is c, none, own_standing c low (keyed e' c)))
            | inr y ↦
                omega (
                  arith,
                  is q,
                  was q,
                  s.once q n,
                  other_standing c (keyed e c) q y.0 n,
                  other_standing c (keyed e' c) q y.0 n,
                  ap (λ (k : ℕ). one_if (ltb k no_key)) (agree q y.0),
                )
          ]

      rest_up : rises e' 0 (without j p) ≡ true
      rest_up =
          ap (rises e' 0) rest
          ∙ up_same e e' 0 (without i xs) (λ v m. agree v (λ k. omega (arith, none, ap (λ (z : ℕ). count_of z (without i xs)) k))) (without_up e 0 i xs s.rising)

      pub slid_sorted : Sorted e' (keyed e') (set p j put)
      slid_sorted = record {
        long = length-set p j put ∙ long ∙ s.long;
        once = counts;
        rising = set_up e' 0 put j p inside rest_up (λ _. omega arith) (λ q y. omega (arith, below q y, key_same)) (λ l. omega (arith, above l, key_same));
      }

set_keys : (keys : List ℕ) (m v q : ℕ) → (q ≡ m → ⊥) → key_of keys q ≡ key_of (set keys m v) q
set_keys keys m v q n = ap (λ (k : ℕ). cond (ltb q Limits.axis_marks) k no_key) (sym (get_or-set_other keys m q v 0 n))

-- a mark found, carried down and up, and put there
pub slides : (keys keys' : List ℕ) (c key was is sought held i d j : ℕ) (xs down up : List ℕ) → c < Limits.axis_marks → keys' ≡ set keys c key → was ≡ key_of keys c → is ≡ key_of keys' c
    → sought ≡ standing (ltb was no_key) c → Found sought xs i → CarriedDown (key_of keys') is i xs down d → CarriedUp (key_of keys') is d down up j → length up ≡ length xs
    → held ≡ standing (ltb is no_key) c → Slid c key keys keys' xs (set up j held)
slides keys keys' c key was is sought held i d j xs down up low put ew ei es h hd hu long eh = record {
  put = put;
  stays = λ f f' s.
      subst (λ (z : ℕ). Sorted (key_of keys') (keyed (key_of keys')) (set up j z)) (sym (eh ∙ ap (λ (z : ℕ). standing (ltb z no_key) c) ei))
      (slid_sorted c low (key_of keys) xs i f s (subst (λ (z : ℕ). Found z xs i) (es ∙ ap (λ (z : ℕ). standing (ltb z no_key) c) ew) h) (key_of keys') f'
      (λ q n. set_keys keys c key q n ∙ ap (λ (l : List ℕ). key_of l q) (sym put)) up j long hu.inside (hu.rest ∙ hd.rest)
      (λ q y. omega (arith, hu.below hd.below q y, ei)) (λ l. omega (arith, hu.above l, ei)));
}

-- ---- the two marks of a place, one after the other
-- keys each of which is an old one or a new one
mixed : (e e' e'' : ℕ → ℕ) → Fine e → Fine e'' → ((q : ℕ) → (e' q ≡ e q) ⊎ (e' q ≡ e'' q)) → Fine e'
mixed e e' e'' f f'' h = record {
  most = λ q. elim (h q) [ inl y ↦ omega (arith, f.most q) | inr y ↦ omega (arith, f''.most q) ];
  far = λ q l. elim (h q) [ inl y ↦ y ∙ f.far q l | inr y ↦ y ∙ f''.far q l ];
  own = λ q l. elim (h q) [ inl y ↦ ap mark_in y ∙ f.own q (omega arith) | inr y ↦ ap mark_in y ∙ f''.own q (omega arith) ];
}

pub both_slide : (place : ℕ) (k : MarkKeys) (keys first keys' before between after : List ℕ) → Slid (high_mark place) k.high keys first before between
    → Slid (low_mark place) k.low first keys' between after → Reordered place k keys keys' before after
both_slide place k keys first keys' before between after high low = record {
  put = low.put ∙ ap (λ (l : List ℕ). set l (low_mark place) k.low) high.put;
  stays = λ old new ko kn p.
      let f : Fine (key_of keys) = subst Fine (sym (keys_are old keys ko)) (fine old ko.ranged) in
      let f'' : Fine (key_of keys') = subst Fine (sym (keys_are new keys' kn)) (fine new kn.ranged) in
      let f' : Fine (key_of first) = mixed (key_of keys) (key_of first) (key_of keys') f f'' either in
      let s = subst (λ (e : ℕ → ℕ). Sorted e (keyed e) before) (sym (keys_are old keys ko)) (sorted old ko.ranged before p) in
      in_place new kn.ranged after (subst (λ (e : ℕ → ℕ). Sorted e (keyed e) after) (keys_are new keys' kn) (low.stays f' f'' (high.stays f f' s)));
}
  where
    either : (q : ℕ) → (key_of first q ≡ key_of keys q) ⊎ (key_of first q ≡ key_of keys' q)
    either q =
        elim (hit q (high_mark place)) [
          | inl y ↦ inr (set_keys first (low_mark place) k.low q (λ p. omega (arith, y.0)) ∙ ap (λ (l : List ℕ). key_of l q) (sym low.put))
          | inr n ↦ inl (sym (set_keys keys (high_mark place) k.high q n.0 ∙ ap (λ (l : List ℕ). key_of l q) (sym high.put)))
        ]

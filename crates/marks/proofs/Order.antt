-- The key decides document 01's order: of two marks the earlier has the smaller key, and a key names its mark.
-- So an axis's keys are fine, and a list of keys that is the axis's can stand for it.
use Rattle.std.specs.Prelude.{◌≡◌, refl, List, Bool, true, false, cond, ◌&&◌, ℕ, suc, ◌+◌, ◌-◌, ◌*◌, ◌/◌, ◌%◌, ◌≤◌, ◌<◌, T, ℤ, pos, negsuc, nat_abs, ◌+ℤ◌, get_or, ◌≤ℤ◌, ◌<ℤ◌}
use Rattle.std.proofs.Math.Path.{ap, sym}
use Rattle.std.proofs.Common.{◌∙◌, subst, inl, inr, arith, lt-ltb, le-ltb, ltb-true, ltb→lt}
use Rattle.std.proofs.Math.Dec.{ltb}
use Rattle.std.specs.Int.Signed.{lt_z, non_neg, ≤ℤ_refl, clash_ℤ}
use Rattle.limits.specs.Limits
use Rattle.ints.specs.Bounds.{Within, nat_abs_add}
use Rattle.ints.specs.Order.{subℕ-ge, trichotomy, lt→≤ℤ, lt-or-ge}
use Rattle.marks.specs.Marks.{Axis, mark_place, side_of, mark_value, is_mark, earlier, Ranged}
use Rattle.marks.specs.Keys.{no_key, raised, key_for, mark_in, key_at, Keyed, key_of}
use Rattle.ints.specs.Counts.{and-true}
use Rattle.marks.specs.Sorted.{Fine, keyed}

-- tests of values
lt_z_is : {v w : ℤ} → v <ℤ w → lt_z v w ≡ true
lt_z_is {v} {w} l = yes (lt_z v w) l.lt
  where
    yes : (b : Bool) → T b → b ≡ true
    yes true t = refl
    yes false t = absurd t

lt_z_not : {v w : ℤ} → w ≤ℤ v → lt_z v w ≡ false
lt_z_not {v} {w} l = no (lt_z v w) refl
  where
    no : (b : Bool) → lt_z v w ≡ b → b ≡ false
    no true h = clash_ℤ (record { lt = subst T (sym h) tt }) l
    no false h = refl

-- a raised value
raised_below : (n : ℕ) → suc n ≤ Limits.placed_reach → raised (negsuc n) ≡ Limits.placed_reach - suc n
raised_below n h = ap nat_abs (subℕ-ge Limits.placed_reach (suc n) h)

raised_lt : (y z : ℤ) → Within Limits.placed_reach y → Within Limits.placed_reach z → y <ℤ z → raised y < raised z
raised_lt (pos a) (pos b) hy hz l = omega (arith, ltb→lt a b l.lt)
raised_lt (pos a) (negsuc b) hy hz l = absurd l.lt
raised_lt (negsuc a) (pos b) hy hz l = omega (arith, raised_below a hy.abs, hy.abs)
raised_lt (negsuc a) (negsuc b) hy hz l = omega (arith, raised_below a hy.abs, raised_below b hz.abs, hy.abs, hz.abs, ltb→lt b a l.lt)

pub raised_most : {z : ℤ} → Within Limits.placed_reach z → raised z ≤ 2 * Limits.placed_reach
raised_most {z} h = omega (arith, nat_abs_add z (pos Limits.placed_reach), h.abs)

pub raised_sign : (z : ℤ) → Within Limits.placed_reach z → T (non_neg (z +ℤ pos Limits.placed_reach))
raised_sign (pos n) h = tt
raised_sign (negsuc n) h = subst (λ (z : ℤ). T (non_neg z)) (sym (subℕ-ge Limits.placed_reach (suc n) h.abs)) tt

-- the keys of marks
pub key_small : {v : ℤ} (m : ℕ) → Within Limits.placed_reach v → m < Limits.axis_marks → key_for v m < no_key
key_small m h l = omega (arith, raised_most h)

-- x * places + p tells p, and so do two sides of it
split : (x y p q : ℕ) → p < Limits.places → q < Limits.places → x * Limits.places + p ≡ y * Limits.places + q → (x ≡ y) × (p ≡ q)
split x y p q l m k =
    elim (lt-or-ge x y) [
      | inl a ↦ absurd (omega arith)
      | inr a ↦ elim (lt-or-ge y x) [ inl b ↦ absurd (omega arith) | inr b ↦ let e : x ≡ y = omega arith in (e, omega arith) ]
    ]

side : (x y p q : ℕ) → p ≤ 1 → q ≤ 1 → x * 2 + p ≡ y * 2 + q → p ≡ q
side x y p q l m k =
    elim (lt-or-ge x y) [
      | inl a ↦ absurd (omega arith)
      | inr a ↦ elim (lt-or-ge y x) [ inl b ↦ absurd (omega arith) | inr b ↦ omega arith ]
    ]

key_own : (v : ℤ) (m : ℕ) → m < Limits.axis_marks → mark_in (key_for v m) ≡ m
key_own v m l =
    let k = key_for v m in
    let e = split (raised v * 2 + side_of m) (k / Limits.places) (mark_place m) (k % Limits.places) (omega arith) (omega arith) (omega arith) in
    let s = side (raised v) (k / Limits.places / 2) (side_of m) (k / Limits.places % 2) (omega arith) (omega arith) (omega (arith, e.0)) in
    omega (arith, e.1, s)

-- value, then low before high, then smaller place: the smaller key
decides : (v w : ℤ) (m n : ℕ) → Within Limits.placed_reach v → Within Limits.placed_reach w → m < Limits.axis_marks → n < Limits.axis_marks
    → cond (lt_z v w) true (cond (lt_z w v) false (cond (ltb (side_of m) (side_of n)) true (cond (ltb (side_of n) (side_of m)) false (ltb (mark_place m) (mark_place n))))) ≡ ltb (key_for v m) (key_for w n)
decides v w m n hv hw lm ln =
    elim (trichotomy v w) [
      | inl l ↦ simp (lt_z_is l) (sym (lt-ltb (key_for v m) (key_for w n) (omega (arith, raised_lt v w hv hw l))))
      | inr (inr l) ↦ simp (lt_z_not (lt→≤ℤ l), lt_z_is l) (sym (le-ltb (key_for v m) (key_for w n) (omega (arith, raised_lt w v hw hv l))))
      | inr (inl e) ↦
          let r : raised v ≡ raised w = ap raised e in
          ap (λ (b : Bool). cond b true (cond (lt_z w v) false (cond (ltb (side_of m) (side_of n)) true (cond (ltb (side_of n) (side_of m)) false (ltb (mark_place m) (mark_place n))))))
          (lt_z_not (subst (λ (z : ℤ). z ≤ℤ v) e (≤ℤ_refl v)))
          ∙ ap (λ (b : Bool). cond b false (cond (ltb (side_of m) (side_of n)) true (cond (ltb (side_of n) (side_of m)) false (ltb (mark_place m) (mark_place n)))))
          (lt_z_not (subst (λ (z : ℤ). v ≤ℤ z) e (≤ℤ_refl v)))
          ∙ tie r
    ]
  where
    tie : raised v ≡ raised w → cond (ltb (side_of m) (side_of n)) true (cond (ltb (side_of n) (side_of m)) false (ltb (mark_place m) (mark_place n))) ≡ ltb (key_for v m) (key_for w n)
    tie r =
        elim (lt-or-ge (side_of m) (side_of n)) [
          | inl l ↦ simp (lt-ltb (side_of m) (side_of n) l) (sym (lt-ltb (key_for v m) (key_for w n) (omega arith)))
          | inr l ↦
              elim (lt-or-ge (side_of n) (side_of m)) [
                | inl k ↦ simp (le-ltb (side_of m) (side_of n) l, lt-ltb (side_of n) (side_of m) k) (sym (le-ltb (key_for v m) (key_for w n) (omega arith)))
                | inr k ↦
                    ap (λ (b : Bool). cond b true (cond (ltb (side_of n) (side_of m)) false (ltb (mark_place m) (mark_place n)))) (le-ltb (side_of m) (side_of n) l)
                    ∙ ap (λ (b : Bool). cond b false (ltb (mark_place m) (mark_place n))) (le-ltb (side_of n) (side_of m) k)
                    ∙ elim (lt-or-ge (mark_place m) (mark_place n)) [
                      | inl p ↦ lt-ltb (mark_place m) (mark_place n) p ∙ sym (lt-ltb (key_for v m) (key_for w n) (omega arith))
                      | inr p ↦ le-ltb (mark_place m) (mark_place n) p ∙ sym (le-ltb (key_for v m) (key_for w n) (omega arith))
                    ]
              ]
        ]

-- an axis's keys
pub mark_low : (a : Axis) (m : ℕ) → is_mark a m ≡ true → (m < Limits.axis_marks) × (a.taken (mark_place m) ≡ true)
mark_low a m h = let p = and-true (ltb m Limits.axis_marks) (a.taken (mark_place m)) h in (ltb-true m Limits.axis_marks p.0, p.1)

pub no-mark : (a : Axis) (m : ℕ) → Limits.axis_marks ≤ m → is_mark a m ≡ false
no-mark a m h = ap (λ (b : Bool). b && a.taken (mark_place m)) (le-ltb m Limits.axis_marks h)

pub at_mark : (a : Axis) (m : ℕ) → is_mark a m ≡ true → key_at a m ≡ key_for (mark_value a m) m
unfolding key_at
at_mark a m h = ap (λ (b : Bool). cond b (key_for (mark_value a m) m) no_key) h

pub at_none : (a : Axis) (m : ℕ) → is_mark a m ≡ false → key_at a m ≡ no_key
unfolding key_at
at_none a m h = ap (λ (b : Bool). cond b (key_for (mark_value a m) m) no_key) h

module _ (a : Axis) (r : Ranged a) where
  pub small_at : (m : ℕ) → is_mark a m ≡ true → key_at a m < no_key
  small_at m h = omega (arith, at_mark a m h, key_small m (r m h) (mark_low a m h).0)

  pub keyed_is : (m : ℕ) → keyed (key_at a) m ≡ is_mark a m
  keyed_is m = each (is_mark a m) refl
    where
      each : (b : Bool) → is_mark a m ≡ b → keyed (key_at a) m ≡ is_mark a m
      each true h = lt-ltb (key_at a m) no_key (small_at m h) ∙ sym h
      each false h = le-ltb (key_at a m) no_key (omega (arith, at_none a m h)) ∙ sym h

  marked : (m : ℕ) → key_at a m < no_key → is_mark a m ≡ true
  marked m h = sym (keyed_is m) ∙ lt-ltb (key_at a m) no_key h

  pub fine : Fine (key_at a)
  fine = record { most = most; far = λ q l. at_none a q (no-mark a q l); own = own }
    where
      most : (q : ℕ) → key_at a q ≤ no_key
      most q = each (is_mark a q) refl
        where
          each : (b : Bool) → is_mark a q ≡ b → key_at a q ≤ no_key
          each true h = omega (arith, small_at q h)
          each false h = omega (arith, at_none a q h)

      own : (m : ℕ) → key_at a m < no_key → mark_in (key_at a m) ≡ m
      own m l = let h = marked m l in ap mark_in (at_mark a m h) ∙ key_own (mark_value a m) m (mark_low a m h).0

  -- of two marks the earlier has the smaller key
  pub key_decides : (m n : ℕ) → is_mark a m ≡ true → is_mark a n ≡ true → earlier a m n ≡ ltb (key_at a m) (key_at a n)
  unfolding earlier
  key_decides m n hm hn =
      decides (mark_value a m) (mark_value a n) m n (r m hm) (r n hn) (mark_low a m hm).0 (mark_low a n hn).0
      ∙ sym (ap (λ (k : ℕ). ltb k (key_at a n)) (at_mark a m hm) ∙ ap (λ (k : ℕ). ltb (key_for (mark_value a m) m) k) (at_mark a n hn))

-- a list of keys that is the axis's
pub keys_are : (a : Axis) (keys : List ℕ) → Keyed a keys → key_of keys ≡ key_at a
keys_are a keys k = λ i q. each q i
  where
    each : (q : ℕ) → key_of keys q ≡ key_at a q
    each q =
        elim (lt-or-ge q Limits.axis_marks) [
          | inl l ↦ ap (λ (b : Bool). cond b (get_or keys q 0) no_key) (lt-ltb q Limits.axis_marks l) ∙ k.is q l
          | inr l ↦ ap (λ (b : Bool). cond b (get_or keys q 0) no_key) (le-ltb q Limits.axis_marks l) ∙ sym (at_none a q (no-mark a q l))
        ]

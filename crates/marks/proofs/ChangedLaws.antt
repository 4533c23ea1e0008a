-- Laws of the move's count, worked out of keys: it is the true count, and no larger than its limit. The definitions stand in specs/Changed.
use Rattle.std.specs.Prelude.{◌≡◌, refl, List, Bool, false, ◌&&◌, not, ℕ, zero, suc, ◌+◌, ◌-◌, ◌*◌, ◌≤◌, ◌<◌, ltb, get_or}
use Rattle.std.proofs.Math.Path.{ap}
use Rattle.std.proofs.Common.{sym, ◌∙◌, inl, inr, arith, eq-eqb, ne_eqb, lt-ltb}
use Rattle.std.proofs.Math.Bool.{true, cond, xor}
use Rattle.limits.specs.Limits
use Rattle.marks.specs.Marks.{Axis, Axes, axis_of, mark_place, low_mark, high_mark, is_mark, earlier, crossed, is_other, changed, changed_marks, OthersStayOn}
use Rattle.ints.specs.Counts.{one_if, sum_to, hit, and-false, one_if≤, sum_none, sum_more, sum_same, sum_four}
use Rattle.marks.specs.declared.MarkKeys.{MarkKeys}
use Rattle.marks.specs.Keys.{key_at, Keyed, keys_at}
use Rattle.marks.proofs.Order.{mark_low, at_none, small_at, key_decides}
use Rattle.marks.specs.Changed.{crossed_by, crossed_with, not_of, crossed_at, changed_keys}

pub crossed≤ : (was is : MarkKeys) (before after : ℕ) → crossed_by was is before after ≤ 2
crossed≤ was is before after = omega (arith, one_if≤ (xor (ltb was.low before) (ltb is.low after)), one_if≤ (xor (ltb was.high before) (ltb is.high after)))

both : (c : Bool) (n : ℕ) → n ≤ 2 → cond c n 0 ≤ 2
both true n l = l
both false n l = omega arith

-- a sum in which the own two marks count 0 is the sum below them and the sum above them
from_on : (from n : ℕ) (f g : ℕ → ℕ) → ((q : ℕ) → from ≤ q → f q ≡ g q) → from ≤ n → sum_to n f + sum_to from g ≡ sum_to n g + sum_to from f
unfolding sum_to
from_on from zero f g h l = let e : from ≡ 0 = omega arith in omega (arith, ap (λ (z : ℕ). sum_to z f) e ∙ sum_none f, ap (λ (z : ℕ). sum_to z g) e ∙ sum_none g)
from_on from (suc n) f g h l =
    elim (hit from (suc n)) [
      | inl y ↦ omega (arith, ap (λ (z : ℕ). sum_to z f) y.0, ap (λ (z : ℕ). sum_to z g) y.0)
      | inr m ↦ let k : from ≤ n = under from n l m.0 in omega (arith, h n k, from_on from n f g h k)
    ]
  where
    under : (a b : ℕ) → a ≤ suc b → (a ≡ suc b → ⊥) → a ≤ b
    under a b l n = omega arith

module _ (f : ℕ → ℕ) (place : ℕ) (l : place < Limits.places) where
  abbrev others : ℕ → ℕ
  others q = cond (not_of place q) (f q) 0

  other_counts : (q : ℕ) → (mark_place q ≡ place → ⊥) → f q ≡ others q
  other_counts q n = sym (ap (λ (b : Bool). cond (not b) (f q) 0) (ne_eqb (mark_place q) place n))

  own_counts : (q : ℕ) → mark_place q ≡ place → others q ≡ 0
  own_counts q e = ap (λ (b : Bool). cond (not b) (f q) 0) (eq-eqb (mark_place q) place e)

  two_sums : (below above : ℕ) → below + sum_to 0 f ≡ sum_to (low_mark place) f → above + sum_to (low_mark place + 2) f ≡ sum_to Limits.axis_marks f → below + above ≡ sum_to Limits.axis_marks others
  two_sums below above hb ha =
      let p = sum_same (low_mark place) f others (λ q b. other_counts q (λ e. omega arith)) in
      let n : low_mark place + 2 ≡ high_mark place + 1 = omega arith in
      omega (
        arith,
        hb,
        ha,
        p,
        sum_none f,
        own_counts (low_mark place) (omega arith),
        own_counts (high_mark place) (omega arith),
        sum_more (low_mark place) others,
        ap (λ (z : ℕ). sum_to z others) n ∙ sum_more (high_mark place) others,
        from_on (low_mark place + 2) Limits.axis_marks f others (λ q b. other_counts q (λ e. omega arith)) (omega arith),
      )

pub in_two : (old new : List ℕ) (place : ℕ) → place < Limits.places → (was is : MarkKeys) → was ≡ keys_at old place → is ≡ keys_at new place → (below above : ℕ)
    → below + sum_to 0 (crossed_with old new was is) ≡ sum_to (low_mark place) (crossed_with old new was is)
    → above + sum_to (low_mark place + 2) (crossed_with old new was is) ≡ sum_to Limits.axis_marks (crossed_with old new was is) → below + above ≡ changed_keys old new place
unfolding changed_keys
in_two old new place l was is ew ei below above hb ha =
    two_sums (crossed_with old new was is) place l below above hb ha
    ∙ ap (λ (w : MarkKeys). sum_to Limits.axis_marks (others (crossed_with old new w is) place l)) ew
    ∙ ap (λ (w : MarkKeys). sum_to Limits.axis_marks (others (crossed_with old new (keys_at old place) w) place l)) ei

-- of a sum in which the own two marks count 0 and every other at most 2
four : (f : ℕ → ℕ) (place : ℕ) → place < Limits.places → ((q : ℕ) → mark_place q ≡ place → f q ≡ 0) → ((q : ℕ) → f q ≤ 2) → sum_to Limits.axis_marks f ≤ 4 * (Limits.places - 1)
four f place l own each =
    omega (
      arith,
      sum_four Limits.axis_marks (low_mark place) (high_mark place) f (omega arith) (omega arith) (λ k. omega arith) (own (low_mark place) (omega arith)) (own (high_mark place) (omega arith))
          (λ q _. each q),
    )

pub changed_keys≤ : (old new : List ℕ) (place : ℕ) → place < Limits.places → changed_keys old new place ≤ 4 * (Limits.places - 1)
unfolding changed_keys
changed_keys≤ old new place l =
    let f = crossed_with old new (keys_at old place) (keys_at new place) in
    four (others f place l) place l (own_counts f place l) (λ q. both (not_of place q) (f q) (crossed≤ (keys_at old place) (keys_at new place) (get_or old q 0) (get_or new q 0)))

-- at most 508 an axis, 1,524 in all
pub changed≤ : (old new : Axis) (place : ℕ) → place < Limits.places → changed old new place ≤ 4 * (Limits.places - 1)
unfolding changed
changed≤ old new place l = four (λ other. cond (is_other old place other) (crossed old new (low_mark place) other + crossed old new (high_mark place) other) 0) place l own each
  where
    own : (q : ℕ) → mark_place q ≡ place → cond (is_other old place q) (crossed old new (low_mark place) q + crossed old new (high_mark place) q) 0 ≡ 0
    own q e =
        ap (λ (b : Bool). cond (is_mark old q && not b) (crossed old new (low_mark place) q + crossed old new (high_mark place) q) 0) (eq-eqb (mark_place q) place e)
        ∙ ap (λ (b : Bool). cond b (crossed old new (low_mark place) q + crossed old new (high_mark place) q) 0) (and-false (is_mark old q))

    each : (q : ℕ) → cond (is_other old place q) (crossed old new (low_mark place) q + crossed old new (high_mark place) q) 0 ≤ 2
    each q =
        both (is_other old place q) (crossed old new (low_mark place) q + crossed old new (high_mark place) q)
        (omega (arith, one_if≤ (xor (earlier old (low_mark place) q) (earlier new (low_mark place) q)), one_if≤ (xor (earlier old (high_mark place) q) (earlier new (high_mark place) q))))

pub changed_marks≤ : (old new : Axes) (place : ℕ) → place < Limits.places → changed_marks old new place ≤ Limits.move_most
changed_marks≤ old new place l = omega (arith, changed≤ (axis_of old 0) (axis_of new 0) place l, changed≤ (axis_of old 1) (axis_of new 1) place l, changed≤ (axis_of old 2) (axis_of new 2) place l)

-- the keys of the axis before and after the move give the true count
module _ (old new : Axis) (ko kn : List ℕ) (place : ℕ) (l : place < Limits.places) (o : Keyed old ko) (n : Keyed new kn)
    (stay : OthersStayOn place old new) (was : old.taken place ≡ true) (is : new.taken place ≡ true) where
  mine : (a : Axis) → a.taken place ≡ true → (m : ℕ) → m < Limits.axis_marks → mark_place m ≡ place → is_mark a m ≡ true
  mine a h m b e = ap (λ (c : Bool). c && a.taken (mark_place m)) (lt-ltb m Limits.axis_marks b) ∙ ap a.taken e ∙ h

  order_is : (a : Axis) (k : List ℕ) → Keyed a k → (m q : ℕ) → is_mark a m ≡ true → is_mark a q ≡ true → ltb (get_or k m 0) (get_or k q 0) ≡ earlier a m q
  order_is a k h m q hm hq =
      ap (λ (z : ℕ). ltb z (get_or k q 0)) (h.is m (mark_low a m hm).0) ∙ ap (λ (z : ℕ). ltb (key_at a m) z) (h.is q (mark_low a q hq).0) ∙ sym (key_decides a h.ranged m q hm hq)

  -- a mark comes before all that have no key
  first-is : (a : Axis) (k : List ℕ) → Keyed a k → (m q : ℕ) → is_mark a m ≡ true → q < Limits.axis_marks → is_mark a q ≡ false → ltb (get_or k m 0) (get_or k q 0) ≡ true
  first-is a k h m q hm b hq = lt-ltb (get_or k m 0) (get_or k q 0) (omega (arith, h.is m (mark_low a m hm).0, small_at a h.ranged m hm, h.is q b, at_none a q hq))

  abbrev pair_at : ℕ → ℕ → ℕ
  pair_at m q = one_if (xor (ltb (get_or ko m 0) (get_or ko q 0)) (ltb (get_or kn m 0) (get_or kn q 0)))

  module _ (m q : ℕ) (b : m < Limits.axis_marks) (e : mark_place m ≡ place) where
    pair : is_mark old q ≡ true → is_mark new q ≡ true → pair_at m q ≡ crossed old new m q
    pair ho hn =
        ap (λ (c : Bool). one_if (xor c (ltb (get_or kn m 0) (get_or kn q 0)))) (order_is old ko o m q (mine old was m b e) ho)
        ∙ ap (λ (c : Bool). one_if (xor (earlier old m q) c)) (order_is new kn n m q (mine new is m b e) hn)

    no_pair_lem : q < Limits.axis_marks → is_mark old q ≡ false → is_mark new q ≡ false → pair_at m q ≡ 0
    unfolding xor
    no_pair_lem k ho hn =
        ap (λ (c : Bool). one_if (xor c (ltb (get_or kn m 0) (get_or kn q 0)))) (first-is old ko o m q (mine old was m b e) k ho)
        ∙ ap (λ (c : Bool). one_if (xor true c)) (first-is new kn n m q (mine new is m b e) k hn)

  each : (q : ℕ) → q < Limits.axis_marks → crossed_at ko kn place q ≡ cond (is_other old place q) (crossed old new (low_mark place) q + crossed old new (high_mark place) q) 0
  each q b =
      elim (hit (mark_place q) place) [
        | inl y ↦
            own_counts (crossed_with ko kn (keys_at ko place) (keys_at kn place)) place l q y.0
            ∙ sym (ap (λ (c : Bool). cond (is_mark old q && not c) (crossed old new (low_mark place) q + crossed old new (high_mark place) q) 0) (eq-eqb (mark_place q) place y.0)
            ∙ ap (λ (c : Bool). cond c (crossed old new (low_mark place) q + crossed old new (high_mark place) q) 0) (and-false (is_mark old q)))
        | inr m ↦
            sym (other_counts (crossed_with ko kn (keys_at ko place) (keys_at kn place)) place l q m.0)
            ∙ other m.0 (is_mark old q) refl
            ∙ sym (ap (λ (c : Bool). cond (is_mark old q && not c) (crossed old new (low_mark place) q + crossed old new (high_mark place) q) 0) (ne_eqb (mark_place q) place m.0))
      ]
    where
      other : (mark_place q ≡ place → ⊥) → (c : Bool) → is_mark old q ≡ c
          → pair_at (low_mark place) q + pair_at (high_mark place) q ≡ cond (is_mark old q && true) (crossed old new (low_mark place) q + crossed old new (high_mark place) q) 0
      other away c hc = by c hc (ap (λ (t : Bool). ltb q Limits.axis_marks && t) (sym (stay.taken (mark_place q) (omega arith) away)) ∙ hc)
        where
          by : (c : Bool) → is_mark old q ≡ c → is_mark new q ≡ c
              → pair_at (low_mark place) q + pair_at (high_mark place) q ≡ cond (is_mark old q && true) (crossed old new (low_mark place) q + crossed old new (high_mark place) q) 0
          by true ho hn =
              ap (λ (z : ℕ). z + pair_at (high_mark place) q) (pair (low_mark place) q (omega arith) (omega arith) ho hn)
              ∙ ap (λ (z : ℕ). crossed old new (low_mark place) q + z) (pair (high_mark place) q (omega arith) (omega arith) ho hn)
              ∙ sym (ap (λ (c : Bool). cond (c && true) (crossed old new (low_mark place) q + crossed old new (high_mark place) q) 0) ho)
          by false ho hn =
              omega (arith, no_pair_lem (low_mark place) q (omega arith) (omega arith) b ho hn, no_pair_lem (high_mark place) q (omega arith) (omega arith) b ho hn)
              ∙ sym (ap (λ (c : Bool). cond (c && true) (crossed old new (low_mark place) q + crossed old new (high_mark place) q) 0) ho)

  pub true_count : changed_keys ko kn place ≡ changed old new place
  unfolding changed_keys changed
  true_count = sum_same Limits.axis_marks (crossed_at ko kn place) (λ other. cond (is_other old place other) (crossed old new (low_mark place) other + crossed old new (high_mark place) other) 0) each

-- Two keys tell whether a high mark's value plus the gap is below a low mark's (`key_below`), and so whether boxes are apart.
-- A step of the value is `key_step` of the key; where value plus gap and value are alike the low mark's key is the smaller one.
use Rattle.std.specs.Prelude.{◌≡◌, refl, Bool, true, false, cond, ◌&&◌, List, [], ◌∷◌, ◌⊎◌, ℕ, zero, suc, ◌+◌, ◌*◌, ◌/◌, ◌%◌, ◌<◌, ltb, ℤ, pos, ◌+ℤ◌, ◌-ℤ◌, get_or, ◌<ℤ◌}
use Rattle.std.proofs.Common.{sym, ap, ap₂, ◌∙◌, subst, inl, inr, arith, lt-ltb, eq-eqb, ne_eqb, ltb-true, ltb-false}
use Rattle.std.specs.Int.Signed.{pos-nat_abs}
use Rattle.ints.specs.Bounds.{Within}
use Rattle.ints.proofs.OrderLaws.{lt_comb, pos_of_lt, pos_lt, lt_pos}
use Rattle.ints.proofs.Quote.{sides, by_ring}
use Rattle.limits.specs.Limits
use Rattle.limits.specs.Decides.{Decides}
use Rattle.limits.specs.DecidesLaws.{holds, decides_is}
use Rattle.marks.specs.Marks.{Axis, axis_of, low_mark, high_mark, mark_place, mark_value, is_mark}
use Rattle.marks.specs.Keys.{raised, key_for, Keyed}
use Rattle.marks.proofs.Order.{raised_sign, at_mark}
use Rattle.pieces.specs.Pieces.{Store, Taken, axes_of}
use Rattle.pieces.specs.Store.{taken_is}
use Rattle.pieces.specs.Boxes.{ApartOn, Apart}
use Rattle.pieces_box.specs.Apart.{key_step, ApartOnBy, ApartBy}

-- ---- values counted from the least
raised_is : {v : ℤ} → Within Limits.placed_reach v → v +ℤ pos Limits.placed_reach ≡ pos (raised v)
raised_is {v} h = sym (pos-nat_abs (v +ℤ pos Limits.placed_reach) (raised_sign v h))

-- the difference of two values is that of the raised ones
between : (u v r g : ℤ) → v -ℤ (u +ℤ g) ≡ (v +ℤ r) -ℤ ((u +ℤ r) +ℤ g)
between u v r g = by_ring (u ∷ v ∷ r ∷ g ∷ []) (search sides depth 9) refl

module _ (g : ℕ) {u v : ℤ} (hu : Within Limits.placed_reach u) (hv : Within Limits.placed_reach v) where
  apart_by_lem : v -ℤ (u +ℤ pos g) ≡ pos (raised v) -ℤ pos (raised u + g)
  apart_by_lem = between u v (pos Limits.placed_reach) (pos g) ∙ ap₂ (λ (y x : ℤ). y -ℤ (x +ℤ pos g)) (raised_is hv) (raised_is hu)

  raised_below : (u +ℤ pos g) <ℤ v → raised u + g < raised v
  raised_below l = lt_pos (lt_comb (pos_of_lt l) (sym apart_by_lem))

  raised_back : raised u + g < raised v → (u +ℤ pos g) <ℤ v
  raised_back l = lt_comb (pos_of_lt (pos_lt l)) apart_by_lem

-- ---- the keys of two marks
module _ (a : Axis) {keys : List ℕ} (k : Keyed a keys) where
  is_mark_lem : (m p : ℕ) → m < Limits.axis_marks → mark_place m ≡ p → a.taken p ≡ true → is_mark a m ≡ true
  is_mark_lem m p h e t = ap (λ (b : Bool). b && a.taken (mark_place m)) (lt-ltb m Limits.axis_marks h) ∙ ap a.taken e ∙ t

  low_value : (p : ℕ) → mark_value a (low_mark p) ≡ a.low p
  low_value p =
      let e : (2 * p) / 2 ≡ p = omega arith in
      ap (λ (b : Bool). cond b (a.low (mark_place (low_mark p))) (a.high (mark_place (low_mark p)))) (eq-eqb ((2 * p) % 2) 0 (omega arith)) ∙ ap a.low e

  high_value : (p : ℕ) → mark_value a (high_mark p) ≡ a.high p
  high_value p =
      let e : (2 * p + 1) / 2 ≡ p = omega arith in
      ap (λ (b : Bool). cond b (a.low (mark_place (high_mark p))) (a.high (mark_place (high_mark p)))) (ne_eqb ((2 * p + 1) % 2) 0 (λ z. omega arith)) ∙ ap a.high e

  -- what the keys of a high mark and of a low one are
  key_high : (p : ℕ) → p < Limits.places → a.taken p ≡ true → get_or keys (high_mark p) 0 ≡ key_for (a.high p) (high_mark p)
  key_high p h t =
      k.is (high_mark p) (omega arith) ∙ at_mark a (high_mark p) (is_mark_lem (high_mark p) p (omega arith) (omega arith) t) ∙ ap (λ (v : ℤ). key_for v (high_mark p)) (high_value p)

  key_low : (p : ℕ) → p < Limits.places → a.taken p ≡ true → get_or keys (low_mark p) 0 ≡ key_for (a.low p) (low_mark p)
  key_low p h t = k.is (low_mark p) (omega arith) ∙ at_mark a (low_mark p) (is_mark_lem (low_mark p) p (omega arith) (omega arith) t) ∙ ap (λ (v : ℤ). key_for v (low_mark p)) (low_value p)

  near_high : (p : ℕ) → p < Limits.places → a.taken p ≡ true → Within Limits.placed_reach (a.high p)
  near_high p h t = subst (Within Limits.placed_reach) (high_value p) (k.ranged (high_mark p) (is_mark_lem (high_mark p) p (omega arith) (omega arith) t))

  near_low : (p : ℕ) → p < Limits.places → a.taken p ≡ true → Within Limits.placed_reach (a.low p)
  near_low p h t = subst (Within Limits.placed_reach) (low_value p) (k.ranged (low_mark p) (is_mark_lem (low_mark p) p (omega arith) (omega arith) t))

  -- a high mark's key, grown by g steps, is below a low mark's exactly where the value plus g is below the other value
  pub key_below : (g p q : ℕ) → p < Limits.places → q < Limits.places → a.taken p ≡ true → a.taken q ≡ true
      → Decides (ltb (get_or keys (high_mark p) 0 + key_step * g) (get_or keys (low_mark q) 0)) ((a.high p +ℤ pos g) <ℤ a.low q)
  key_below g p q hp hq tp tq =
      let eh = key_high p hp tp in
      let el = key_low q hq tq in
      record {
        yes = λ t.
            let n = ltb-true (get_or keys (high_mark p) 0 + key_step * g) (get_or keys (low_mark q) 0) t in
            raised_back g (near_high p hp tp) (near_low q hq tq) (omega arith);
        no = λ t l.
            let n = ltb-false (get_or keys (high_mark p) 0 + key_step * g) (get_or keys (low_mark q) 0) t in
            let r = raised_below g (near_high p hp tp) (near_low q hq tq) l in
            omega arith;
      }

-- ---- the test on one axis, the keys of high marks shifted by the gap
shifted : (keys : List ℕ) (i j : ℕ) {m n : ℕ} → m ≡ n → ltb (get_or keys i 0 + m) (get_or keys j 0) ≡ ltb (get_or keys i 0 + n) (get_or keys j 0)
shifted keys i j e = ap (λ (n : ℕ). ltb (get_or keys i 0 + n) (get_or keys j 0)) e

module _ {g shift : ℕ} {keys : List ℕ} {p q : ℕ} (hp : p < Limits.places) (hq : q < Limits.places) (es : shift ≡ key_step * g) where
  pub apart_first : ltb (get_or keys (high_mark p) 0 + shift) (get_or keys (low_mark q) 0) ≡ true → ApartOnBy g keys p q true
  apart_first e = record { decides = λ a k tp tq. holds refl (inl ((key_below a k g p q hp hq tp tq).yes (sym (shifted keys (high_mark p) (low_mark q) es) ∙ e))) }

  pub apart_second : {r : Bool} → ltb (get_or keys (high_mark p) 0 + shift) (get_or keys (low_mark q) 0) ≡ false
      → r ≡ ltb (get_or keys (high_mark q) 0 + shift) (get_or keys (low_mark p) 0) → ApartOnBy g keys p q r
  apart_second {r} e s = record {
    decides = λ a k tp tq.
        let f = (key_below a k g p q hp hq tp tq).no (sym (shifted keys (high_mark p) (low_mark q) es) ∙ e) in
        let d = decides_is (s ∙ shifted keys (high_mark q) (low_mark p) es) (key_below a k g q p hq hp tq tp) in
        record { yes = λ t. inr (d.yes t); no = λ t. neither f (d.no t) };
  }
    where
      neither : {P Q : Type 0} → (P → ⊥) → (Q → ⊥) → P ⊎ Q → ⊥
      neither f h (inl x) = f x
      neither f h (inr y) = h y

-- ---- and on the three
on : (d : Store) (axis : ℕ) {g p q : ℕ} {keys : List ℕ} {r : Bool} → Keyed (axis_of (axes_of d) axis) keys → Taken d.places p → Taken d.places q → ApartOnBy g keys p q r
    → Decides r (ApartOn g d p q axis)
on d axis {g} {p} {q} k tp tq h = h.decides (axis_of (axes_of d) axis) k (taken_is d p tp) (taken_is d q tq)

module _ {g : ℕ} {x y z : List ℕ} {p q : ℕ} where
  pub apart_x : ApartOnBy g x p q true → ApartBy g x y z p q true
  apart_x h = record { decides = λ d k tp tq. holds refl (0, omega arith, (on d 0 k.on_x_lem tp tq h).yes refl) }

  pub apart_y : ApartOnBy g y p q true → ApartBy g x y z p q true
  apart_y h = record { decides = λ d k tp tq. holds refl (1, omega arith, (on d 1 k.on_y_lem tp tq h).yes refl) }

  pub apart_z : {r : Bool} → ApartOnBy g x p q false → ApartOnBy g y p q false → ApartOnBy g z p q r → ApartBy g x y z p q r
  apart_z {r} hx hy hz = record {
    decides = λ d k tp tq.
        let s = on d 2 k.on_z_lem tp tq hz in
        record { yes = λ t. (2, omega arith, s.yes t); no = λ t. none d ((on d 0 k.on_x_lem tp tq hx).no refl) ((on d 1 k.on_y_lem tp tq hy).no refl) (s.no t) };
  }
    where
      none : (d : Store) → (ApartOn g d p q 0 → ⊥) → (ApartOn g d p q 1 → ⊥) → (ApartOn g d p q 2 → ⊥) → Apart g d p q → ⊥
      none d f g h (zero, l, s) = f s
      none d f g h (suc zero, l, s) = g s
      none d f g h (suc (suc zero), l, s) = h s
      none d f g h (suc (suc (suc n)), l, s) = absurd (omega arith)

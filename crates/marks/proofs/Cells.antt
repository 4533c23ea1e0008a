-- A part in place, cell by cell, is a part that is sorted by its axis's keys; so two parts in place are one.
-- And there is a part in place for all places and values.
use Rattle.std.specs.Prelude.{◌≡◌, refl, ◌⊎◌, List, Bool, true, false, ◌&&◌, ℕ, ◌≤◌, ◌<◌, ltb, length, get_or, replicate}
use Rattle.std.proofs.Common.{ap, sym, ◌∙◌, inl, inr, arith, lt-ltb, ltb-true}
use Rattle.std.proofs.lemmas.Bool.{false≢true}
use Rattle.std.proofs.lemmas.List.{length-replicate}
use Rattle.limits.specs.Limits
use Rattle.marks.specs.Marks.{Axis, mark_place, is_mark, earlier, InPlace, Ranged}
use Rattle.ints.specs.Counts.{one_if, count_of, hit, and-false, one_if≤, count-pos, count_fill, find, find_two, twice}
use Rattle.ints.specs.Order.{lt-or-ge}
use Rattle.marks.specs.Keys.{key_at}
use Rattle.marks.specs.Rising.{up_at, up_from, up_none, fill_up_lem}
use Rattle.marks.specs.Sorted.{Sorted, own_key, keyed, top_key, member, only, in_order, sorted_is}
use Rattle.marks.proofs.Order.{mark_low, small_at, keyed_is, fine, key_decides}

module _ (a : Axis) (r : Ranged a) (xs : List ℕ) where
  abbrev e : ℕ → ℕ
  e = key_at a

  mark_of : (m : ℕ) → keyed (key_at a) m ≡ true → is_mark a m ≡ true
  mark_of m h = sym (keyed_is a r m) ∙ h

  not_end : (m : ℕ) → is_mark a m ≡ true → m ≡ Limits.no_mark → ⊥
  not_end m h k = omega (arith, (mark_low a m h).0)

  strict : (x y : ℕ) → x ≤ y → (x ≡ y → ⊥) → x < y
  strict x y l n = omega arith

  pub in_place : Sorted (key_at a) (keyed (key_at a)) xs → InPlace a xs
  in_place s = record { long = s.long; each = each; all = all; order = order }
    where
      stands : (i : ℕ) → i < Limits.axis_marks → (get_or xs i 0 ≡ Limits.no_mark → ⊥) → is_mark a (get_or xs i 0) ≡ true
      stands i l n = mark_of (get_or xs i 0) (member (key_at a) (keyed (key_at a)) xs s (get_or xs i 0) n (count-pos xs i (omega (arith, s.long))))

      each : (i : ℕ) → i < Limits.axis_marks → (get_or xs i 0 ≡ Limits.no_mark) ⊎ (is_mark a (get_or xs i 0) ≡ true)
      each i l = elim (hit (get_or xs i 0) Limits.no_mark) [ inl y ↦ inl y.0 | inr n ↦ inr (stands i l n.0) ]

      all : (m : ℕ) → is_mark a m ≡ true → (i : ℕ) × (i < Limits.axis_marks) × (get_or xs i 0 ≡ m)
      all m h =
          let f = find m xs (omega (arith, s.once m (not_end m h), ap one_if (keyed_is a r m ∙ h))) in
          (f.0, omega (arith, f.1, s.long), f.2)

      order : (i j : ℕ) → i < j → j < Limits.axis_marks → (get_or xs j 0 ≡ Limits.no_mark → ⊥) → (get_or xs i 0 ≡ Limits.no_mark → ⊥) × (earlier a (get_or xs i 0) (get_or xs j 0) ≡ true)
      order i j l m n =
          let mj = stands j m n in
          let up = up_at (key_at a) 0 xs i j s.rising l (omega (arith, m, s.long)) in
          let ni : get_or xs i 0 ≡ Limits.no_mark → ⊥ = λ k. omega (arith, up, small_at a r (get_or xs j 0) mj, ap (key_at a) k, top_key (key_at a) (fine a r)) in
          let mi = stands i (omega arith) ni in
          let lt = strict (key_at a (get_or xs i 0)) (key_at a (get_or xs j 0)) up
          (λ k. omega (
            arith,
            twice xs i j l (omega (arith, m, s.long)) (own_key (key_at a) (fine a r) (get_or xs i 0) (get_or xs j 0) (small_at a r (get_or xs i 0) mi) k),
            s.once (get_or xs j 0) n,
            one_if≤
                (keyed (key_at a) (get_or xs j 0)),
          )) in
          (ni, key_decides a r (get_or xs i 0) (get_or xs j 0) mi mj ∙ lt-ltb (key_at a (get_or xs i 0)) (key_at a (get_or xs j 0)) lt)

  pub sorted : InPlace a xs → Sorted (key_at a) (keyed (key_at a)) xs
  sorted p = record { long = p.long; once = λ q n. once q n (is_mark a q) refl; rising = up_from (key_at a) 0 xs (λ i l. omega arith) above }
    where
      stands : (i : ℕ) → i < Limits.axis_marks → (get_or xs i 0 ≡ Limits.no_mark → ⊥) → is_mark a (get_or xs i 0) ≡ true
      stands i l n = elim (p.each i l) [ inl h ↦ absurd (n h) | inr h ↦ h ]

      climbs : (i j : ℕ) → i < j → j < Limits.axis_marks → (get_or xs j 0 ≡ Limits.no_mark → ⊥) → key_at a (get_or xs i 0) < key_at a (get_or xs j 0)
      climbs i j l m n =
          let o = p.order i j l m n in
          ltb-true (key_at a (get_or xs i 0)) (key_at a (get_or xs j 0)) (sym (key_decides a r (get_or xs i 0) (get_or xs j 0) (stands i (omega arith) o.0) (stands j m n)) ∙ o.1)

      few : (q : ℕ) → (q ≡ Limits.no_mark → ⊥) → count_of q xs ≤ 1
      few q n =
          elim (lt-or-ge 1 (count_of q xs)) [
            | inl l ↦
                let f = find_two q xs l in
                absurd (omega (arith, climbs f.0 f.1 f.2 (omega (arith, f.3, p.long)) (λ k. n (sym f.5 ∙ k)), ap (key_at a) (f.4 ∙ sym f.5)))
            | inr l ↦ l
          ]

      once : (q : ℕ) → (q ≡ Limits.no_mark → ⊥) → (b : Bool) → is_mark a q ≡ b → count_of q xs ≡ one_if (keyed (key_at a) q)
      once q n true h =
          let f = p.all q h in
          omega (arith, few q n, ap one_if (keyed_is a r q ∙ h), ap (λ (z : ℕ). count_of z xs) f.2, count-pos xs f.0 (omega (arith, f.1, p.long)))
      once q n false h =
          elim (lt-or-ge 0 (count_of q xs)) [
            | inl l ↦
                let f = find q xs l in
                absurd (false≢true (sym h ∙ ap (is_mark a) (sym f.2) ∙ stands f.0 (omega (arith, f.1, p.long)) (λ k. n (sym f.2 ∙ k))))
            | inr l ↦ omega (arith, l, ap one_if (keyed_is a r q ∙ h))
          ]

      above : (i j : ℕ) → i < j → j < length xs → key_at a (get_or xs i 0) ≤ key_at a (get_or xs j 0)
      above i j l m =
          elim (hit (get_or xs j 0) Limits.no_mark) [
            | inl y ↦ omega (arith, (fine a r).most (get_or xs i 0), ap (key_at a) y.0, top_key (key_at a) (fine a r))
            | inr n ↦ omega (arith, climbs i j l (omega (arith, m, p.long)) n.0)
          ]

-- two parts in place for the same places and values are one
pub one_part : (a : Axis) → Ranged a → (xs ys : List ℕ) → InPlace a xs → InPlace a ys → xs ≡ ys
one_part a r xs ys p q = only (key_at a) xs ys (fine a r) (sorted a r xs p) (sorted a r ys q)

-- no place is taken
pub none_in_place : (a : Axis) → ((place : ℕ) → a.taken place ≡ false) → InPlace a (replicate Limits.axis_marks Limits.no_mark)
none_in_place a h = in_place a (λ m k. absurd (false≢true (sym (none m) ∙ k))) (replicate Limits.axis_marks Limits.no_mark) record {
  long = length-replicate {A = ℕ} Limits.axis_marks Limits.no_mark;
  once = λ q n. count_fill q Limits.no_mark Limits.axis_marks n ∙ sym (ap one_if (keyed_is a ranged q ∙ none q));
  rising = fill_up_lem (key_at a) 0 Limits.no_mark Limits.axis_marks List.[] (λ v. omega (arith, (fine a ranged).most v, top_key (key_at a) (fine a ranged))) (omega arith) (up_none (key_at a) 0);
}
  where
    none : (m : ℕ) → is_mark a m ≡ false
    none m = ap (λ (b : Bool). ltb m Limits.axis_marks && b) (h (mark_place m)) ∙ and-false (ltb m Limits.axis_marks)

    ranged : Ranged a
    ranged m k = absurd (false≢true (sym (none m) ∙ k))

-- there is a part in place
pub there_in_place : (a : Axis) → Ranged a → InPlace a (in_order (key_at a) Limits.axis_marks)
there_in_place a r = in_place a r (in_order (key_at a) Limits.axis_marks) (sorted_is (key_at a) (fine a r))

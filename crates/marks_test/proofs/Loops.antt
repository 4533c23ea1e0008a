-- What one round of the loop finds in its list and what is found when it ends; what the two chains answer.
-- On plain lists and numbers; the proofs of the functions hand the facts over.
use Rattle.std.proofs.Common.{◌≡◌, refl, ap, sym, ◌∙◌, List, Bool, true, false, cond, ◌&&◌, ℕ, zero, suc, ◌+◌, ◌≤◌, ◌<◌, leb, ltb, length, get_or, take, drop, arith, add-one, le-leb, lt-ltb, le-ltb, take_all, count_by, drop-cons}
use Rattle.std.proofs.Math.Seq.{drop-length}
use Rattle.std.proofs.lemmas.Bool.{lt-leb}
use Rattle.std.proofs.lemmas.List.Sums.{count_by_more_yes, count_by_more_no}
use Rattle.limits.specs.Limits
use Rattle.ints.specs.Counts.{one_if, sum_to}
use Rattle.marks.specs.Keys.{no_key, key_of}
use Rattle.marks.specs.Sorted.{keyed}
use Rattle.marks_test.specs.Tested.{climbs, marks_in}

-- climbing keys
module _ (e : ℕ → ℕ) (k i a : ℕ) (xs : List ℕ) (h : i < length xs) (is : a ≡ e (get_or xs i 0)) where
  head : climbs e k (drop i xs) ≡ ((leb k (e (get_or xs i 0)) && ltb (e (get_or xs i 0)) no_key) && climbs e (suc (e (get_or xs i 0))) (drop (suc i) xs))
  unfolding climbs
  head = ap (climbs e k) (drop-cons xs i 0 h)

  pub too_low : a < k → climbs e k (drop i xs) ≡ false
  too_low l = head ∙ ap (λ (b : Bool). (b && ltb (e (get_or xs i 0)) no_key) && climbs e (suc (e (get_or xs i 0))) (drop (suc i) xs)) (lt-leb k (e (get_or xs i 0)) (omega arith))

  pub no_key_lem : k ≤ a → no_key ≤ a → climbs e k (drop i xs) ≡ false
  no_key_lem l n =
      head ∙ ap (λ (b : Bool). (b && ltb (e (get_or xs i 0)) no_key) && climbs e (suc (e (get_or xs i 0))) (drop (suc i) xs)) (le-leb k (e (get_or xs i 0)) (omega arith))
      ∙ ap (λ (b : Bool). b && climbs e (suc (e (get_or xs i 0))) (drop (suc i) xs)) (le-ltb (e (get_or xs i 0)) no_key (omega arith))

  pub climbs_more : k ≤ a → a < no_key → climbs e (a + 1) (drop (i + 1) xs) ≡ climbs e k (drop i xs)
  climbs_more l n =
      let m : a + 1 ≡ suc (e (get_or xs i 0)) = add-one a ∙ ap suc is in
      ap (λ (z : ℕ). climbs e z (drop (i + 1) xs)) m ∙ ap (λ (z : ℕ). climbs e (suc (e (get_or xs i 0))) (drop z xs)) (add-one i)
      ∙ sym (head ∙ ap (λ (b : Bool). (b && ltb (e (get_or xs i 0)) no_key) && climbs e (suc (e (get_or xs i 0))) (drop (suc i) xs)) (le-leb k (e (get_or xs i 0)) (omega arith))
      ∙ ap (λ (b : Bool). b && climbs e (suc (e (get_or xs i 0))) (drop (suc i) xs)) (lt-ltb (e (get_or xs i 0)) no_key (omega arith)))

pub climbs_done : (e : ℕ → ℕ) (k i : ℕ) (xs : List ℕ) → length xs ≤ i → i ≤ length xs → climbs e k (drop i xs) ≡ true
unfolding climbs
climbs_done e k i xs h l = let p : i ≡ length xs = omega arith in ap (λ (z : ℕ). climbs e k (drop z xs)) p ∙ ap (climbs e k) (drop-length xs)

-- the keys that are below no_key are those of the marks
module _ (keys : List ℕ) (long : length keys ≡ Limits.axis_marks) where
  abbrev has_key : ℕ → Bool
  has_key key = ltb key no_key

  abbrev one_at : ℕ → ℕ
  one_at q = one_if (keyed (key_of keys) q)

  one_is : (n : ℕ) → n < Limits.axis_marks → one_at n ≡ one_if (has_key (get_or keys n 0))
  one_is n l = ap (λ (b : Bool). one_if (has_key (cond b (get_or keys n 0) no_key))) (lt-ltb n Limits.axis_marks l)

  counted_to : (n : ℕ) → n ≤ Limits.axis_marks → count_by has_key (take n keys) ≡ sum_to n one_at
  unfolding sum_to
  counted_to zero l = refl
  counted_to (suc n) l = by (has_key (get_or keys n 0)) refl (counted_to n (omega arith))
    where
      by : (b : Bool) → has_key (get_or keys n 0) ≡ b → count_by has_key (take n keys) ≡ sum_to n one_at → count_by has_key (take (suc n) keys) ≡ sum_to (suc n) one_at
      by true e h = omega (arith, ap (λ (z : ℕ). count_by has_key (take z keys)) (add-one n), count_by_more_yes has_key keys n 0 (omega arith) e, h, one_is n (omega arith), ap one_if e)
      by false e h = omega (arith, ap (λ (z : ℕ). count_by has_key (take z keys)) (add-one n), count_by_more_no has_key keys n 0 (omega arith) e, h, one_is n (omega arith), ap one_if e)

  pub counted_is : count_by has_key keys ≡ marks_in (key_of keys)
  unfolding marks_in
  counted_is = ap (count_by has_key) (sym (take_all Limits.axis_marks keys (omega arith))) ∙ counted_to Limits.axis_marks (omega arith)

-- What stands behind the point, for each of the 64 numbers of steps below a millimetre: one test, worked out over all of them.
-- The rules that the test stands for are `PartIs`; `part_is_lem` has them of each number.
use Rattle.std.specs.Prelude.{ℕ, zero, suc, ◌≤◌, ◌<◌, ◌+◌, ◌-◌, ◌*◌, ◌%◌, ◌^◌, ◌≡◌, refl, Bool, true, false, ◌&&◌, ◌||◌, not, List, [], ◌∷◌, T, eqb, leb, length, take, set}
use Rattle.std.proofs.Common.{sym, ap, ◌∙◌, subst, ⊎_elim, arith, leb→le, eqb→eq, T_not}
use Rattle.std.proofs.Math.Dec.{eqb-suc-zero}
use Rattle.std.specs.Float.Ieee.Fits.{and_l, and_r}
use Rattle.std.specs.Int.Count.{count_trailing_zeros}
use Rattle.io.specs.Digits.{last_digits}
use Rattle.ints.specs.Order.{lt-or-ge}
use Rattle.limits.specs.Limits
use Rattle.text_digits.specs.Decimal.{Digits, number}
use Rattle.off_number.specs.OffNumber.{millionth}
use Rattle.off_number.specs.Shortest.{step_millionths, part_of, pointed}
use Rattle.off_number.specs.PartLaws.{decimals_of, PartIs}

-- a test that holds of each number below n
all_to : ℕ → (ℕ → Bool) → Bool
all_to zero test = true
all_to (suc n) test = test n && all_to n test

all-at : (n : ℕ) (test : ℕ → Bool) → T (all_to n test) → (k : ℕ) → k < n → T (test k)
unfolding all_to
all-at zero test t k h = absurd (omega arith)
all-at (suc n) test t k h = ⊎_elim
    (λ (l : k < n). all-at n test (and_r (test n) (all_to n test) t) k l)
    (λ (l : n ≤ k). let e : n ≡ k = omega arith in subst (λ (m : ℕ). T (test m)) e (and_l (test n) (all_to n test) t))
    (lt-or-ge k n)

digits_test : List ℕ → Bool
digits_test [] = true
digits_test (d ∷ ds) = leb 48 d && leb d 57 && digits_test ds

digits_tested : (ds : List ℕ) → T (digits_test ds) → Digits ds
unfolding digits_test
digits_tested [] t = tt
digits_tested (d ∷ ds) t =
    let l = and_l (leb 48 d && leb d 57) (digits_test ds) t in
    (record { low = leb→le 48 d (and_l (leb 48 d) (leb d 57) l); high = leb→le d 57 (and_r (leb 48 d) (leb d 57) l) }, digits_tested ds (and_r (leb 48 d && leb d 57) (digits_test ds) t))

same_test : List ℕ → List ℕ → Bool
same_test [] [] = true
same_test [] (e ∷ es) = false
same_test (d ∷ ds) [] = false
same_test (d ∷ ds) (e ∷ es) = eqb d e && same_test ds es

same_tested : (ds es : List ℕ) → T (same_test ds es) → ds ≡ es
unfolding same_test
same_tested [] [] t = refl
same_tested [] (e ∷ es) t = absurd t
same_tested (d ∷ ds) [] t = absurd t
same_tested (d ∷ ds) (e ∷ es) t =
    let h = eqb→eq d e (and_l (eqb d e) (same_test ds es) t) in
    let k = same_tested ds es (and_r (eqb d e) (same_test ds es) t) in
    cc

abbrev needed_test : ℕ → Bool
needed_test r = eqb (length (part_of r)) 0 || not (eqb (r * step_millionths % 10 ^ (Limits.off_digits + 1 - length (part_of r))) 0)

abbrev found_test : ℕ → Bool
found_test r = eqb r 0 || same_test (take (1 + decimals_of r) (set (last_digits 10 7 (millionth + r * step_millionths)) 0 46)) (46 ∷ part_of r)

abbrev value_test : ℕ → Bool
value_test r = eqb (number (part_of r) * 10 ^ (Limits.off_digits - length (part_of r))) (r * step_millionths)

abbrev part_test : ℕ → Bool
part_test r = digits_test (part_of r) && (leb (length (part_of r)) Limits.off_digits && (value_test r && (needed_test r && found_test r)))

tested : T (all_to Limits.steps part_test)
unfolding number part_of all_to digits_test same_test
tested = tt

or_r : (n : ℕ) (b : Bool) → 1 ≤ n → T (eqb n 0 || b) → T b
or_r zero b h t = absurd (omega arith)
or_r (suc n) b h t = subst (λ (e : Bool). T (e || b)) (eqb-suc-zero n) t

pub part_is_lem : (r : ℕ) → r < Limits.steps → PartIs r
part_is_lem r h =
    let a = all-at Limits.steps part_test tested r h in
    let b = and_r (digits_test (part_of r)) _ a in
    let c = and_r (leb (length (part_of r)) Limits.off_digits) _ b in
    let d = and_r (value_test r) _ c in
    record {
      ds = digits_tested (part_of r) (and_l (digits_test (part_of r)) _ a);
      few = leb→le (length (part_of r)) Limits.off_digits (and_l (leb (length (part_of r)) Limits.off_digits) _ b);
      value = eqb→eq _ (r * step_millionths) (and_l (value_test r) _ c);
      needed = λ some e.
          let n = r * step_millionths % 10 ^ (Limits.off_digits + 1 - length (part_of r)) in
          T_not (eqb n 0) (or_r (length (part_of r)) (not (eqb n 0)) some (and_l (needed_test r) (found_test r) d)) (subst (λ (m : ℕ). T (eqb m 0)) (sym e) tt);
      found = λ some. same_tested _ (46 ∷ part_of r) (or_r r _ some (and_r (needed_test r) (found_test r) d));
    }

-- nothing stands behind the point of no steps, and something behind that of some
pub part_none : part_of 0 ≡ []
unfolding part_of
part_none = refl

pub part_some : (r : ℕ) → r < Limits.steps → 1 ≤ r → pointed (part_of r) ≡ 46 ∷ part_of r
unfolding number
part_some r h some = go (part_of r) refl
  where
    go : (p : List ℕ) → part_of r ≡ p → pointed p ≡ 46 ∷ p
    go [] e = absurd (omega (arith, sym (part_is_lem r h).value ∙ ap (λ (l : List ℕ). number l * 10 ^ (Limits.off_digits - length l)) e))
    go (d ∷ ds) e = refl

-- how many digits stand behind the point is found by the lowest bit that is set
decimals_test : ℕ → Bool
decimals_test r = eqb r 0 || eqb (Limits.off_digits - count_trailing_zeros 32 r) (decimals_of r)

decimals_tested : T (all_to Limits.steps decimals_test)
unfolding all_to decimals_test count_trailing_zeros
decimals_tested = tt

pub decimals_found : (r : ℕ) → r < Limits.steps → 1 ≤ r → Limits.off_digits - count_trailing_zeros 32 r ≡ decimals_of r
unfolding decimals_test
decimals_found r h some = eqb→eq _ _ (or_r r _ some (all-at Limits.steps decimals_test decimals_tested r h))

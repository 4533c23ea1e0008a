-- Laws of the shortest decimal: it is exact (`decimal_steps`: reading it gives the steps back), no text of the form with its value is shorter (`shortest`),
-- and it has at most twelve bytes where a corner has it.
use Rattle.std.specs.Prelude.{ℕ, suc, ◌≤◌, ◌<◌, ◌+◌, ◌-◌, ◌*◌, ◌/◌, ◌%◌, ◌^◌, ◌≡◌, refl, Bool, true, false, List, [], ◌∷◌, ℤ, pos, negsuc, nat_abs, length}
use Rattle.std.proofs.Common.{sym, ap, ◌∙◌, subst, ⊎_elim, mul_assoc, arith, length-append, pow-add}
use Rattle.std.proofs.Math.Nat.{mul-mod_left}
use Rattle.ints.specs.Bounds.{nat_abs_neg}
use Rattle.ints.specs.Order.{lt-or-ge}
use Rattle.limits.specs.Limits
use Rattle.scans.specs.Floats.{with_sign}
use Rattle.text_digits.specs.Decimal.{number, Follows}
use Rattle.text_put.specs.Print.{digits_of, signed}
use Rattle.text_put.specs.PrintLaws.{digits_written, digits_some, written_number, digits_fewest, digits_most}
use Rattle.off_number.specs.OffNumber
use Rattle.off_number.specs.OffNumber.{Point, Exact, InSteps, millionth}
use Rattle.off_number.specs.Reading.{Plain}
use Rattle.off_number.proofs.ReadingLaws.{part_below, with_sign_lem, without_sign}
use Rattle.off_number.specs.Shortest.{step_millionths, part_of, pointed, plain_of, decimal_of}
use Rattle.off_number.proofs.PartLaws.{part_is_lem}
use Rattle.off_number.specs.ShortestLaws.{PlainOf}

-- ---- the value
pointed_follows : (part : List ℕ) → Follows Point (pointed part) part
pointed_follows [] = refl
pointed_follows (d ∷ ds) = (refl, refl, omega arith)

pub plain_steps : (n : ℕ) → Plain (plain_of n) (n * step_millionths)
plain_steps n =
    let q = n / Limits.steps in
    let p = part_is_lem (n % Limits.steps) (omega arith) in
    let w = written_number (digits_written q) in
    record {
      whole = digits_of q;
      part = part_of (n % Limits.steps);
      decimal = record {
        whole_digits = w.0;
        whole_some = digits_some q;
        rest = pointed (part_of (n % Limits.steps));
        split = refl;
        follows = pointed_follows (part_of (n % Limits.steps));
        part_digits = p.ds;
      };
      few = p.few;
      value = omega (arith, w.1, p.value);
    }

pub decimal_steps : (z : ℤ) → InSteps (decimal_of z) z
decimal_steps (pos n) = record {
  minus = false;
  millionths = n * step_millionths;
  is = with_sign_lem false refl (plain_steps n);
  steps = n;
  exact = omega arith;
  value = refl;
}
decimal_steps (negsuc n) = record {
  minus = true;
  millionths = suc n * step_millionths;
  is = with_sign_lem true refl (plain_steps (suc n));
  steps = suc n;
  exact = omega arith;
  value = refl;
}

-- ---- no shorter text
-- fewer digits behind the point do not hold the part
part_fewest : (r : ℕ) → r < Limits.steps → (part : List ℕ) → number part * 10 ^ (Limits.off_digits - length part) ≡ r * step_millionths → length (part_of r) ≤ length part
part_fewest r h part v = ⊎_elim
    (λ (l : length part < length (part_of r)).
    let p = part_is_lem r h in
    let j = length (part_of r) - 1 - length part in
    let k = Limits.off_digits + 1 - length (part_of r) in
    let n : Limits.off_digits - length part ≡ j + k = omega (arith, p.few) in
    let e : r * step_millionths ≡ number part * 10 ^ j * 10 ^ k =
    sym v ∙ ap (λ (m : ℕ). number part * 10 ^ m) n ∙ ap (λ (m : ℕ). number part * m) (pow-add 10 j k) ∙ sym (mul_assoc (number part) (10 ^ j) (10 ^ k)) in
    absurd (p.needed (omega arith) (ap (λ (m : ℕ). m % 10 ^ k) e ∙ mul-mod_left (number part * 10 ^ j) (10 ^ k))))
    (λ (l : length (part_of r) ≤ length part). l) (lt-or-ge (length part) (length (part_of r)))

-- nor does a shorter part with its point
pointed_fewest : (own rest part : List ℕ) → Follows Point rest part → length own ≤ length part → length (pointed own) ≤ length rest
pointed_fewest [] rest part f l = omega arith
pointed_fewest (d ∷ ds) [] part f l = absurd (omega (arith, ap length f))
pointed_fewest (d ∷ ds) (c ∷ rest) part f l = omega (arith, ap length f.1)

pub plain_of_lem : {text : List ℕ} {m : ℕ} (s : ℕ) (p : Plain text m) → Exact m s → PlainOf s p
plain_of_lem {text} {m} s p x =
    let v = number p.part * 10 ^ (Limits.off_digits - length p.part) in
    let b : v < millionth = part_below p.part p.decimal.part_digits p.few in
    let w : number p.whole ≡ s / Limits.steps = omega (arith, p.value) in
    let e : v ≡ s % Limits.steps * step_millionths = omega (arith, p.value) in
    record {
      whole_is = w;
      part_is = e;
      whole_fewest = subst (λ (n : ℕ). length (digits_of n) ≤ length p.whole) w (digits_fewest p.whole p.decimal.whole_digits p.decimal.whole_some);
      rest_fewest = pointed_fewest (part_of (s % Limits.steps)) p.decimal.rest p.part p.decimal.follows (part_fewest (s % Limits.steps) (omega arith) p.part e);
    }

pub plain_shortest : {text : List ℕ} {m : ℕ} (s : ℕ) → Plain text m → Exact m s → length (plain_of s) ≤ length text
plain_shortest {text} {m} s p x =
    let o = plain_of_lem s p x in
    let n = length-append (digits_of (s / Limits.steps)) (pointed (part_of (s % Limits.steps))) in
    omega (arith, o.whole_fewest, o.rest_fewest, ap length p.decimal.split, length-append p.whole p.decimal.rest, n)

sign_one : (z : ℤ) (text : List ℕ) → length (signed z text) ≤ suc (length text)
sign_one (pos n) text = omega arith
sign_one (negsuc n) text = omega arith

sign_size : (b : Bool) (s : ℕ) → nat_abs (with_sign b s) ≡ s
sign_size false s = refl
sign_size true s = nat_abs_neg (pos s)

-- the steps are those of the number without its sign
pub steps_size : {text : List ℕ} {z : ℤ} (x : InSteps text z) → nat_abs z ≡ x.steps
steps_size x = ap nat_abs x.value ∙ sign_size x.minus x.steps

pub shortest : (z : ℤ) (text : List ℕ) → InSteps text z → length (decimal_of z) ≤ length text
shortest z text x = by x.minus x.is.number.sign x.value
  where
    n : nat_abs z ≡ x.steps
    n = steps_size x

    l : length (plain_of (nat_abs z)) ≤ length x.is.number.digits
    l = subst (λ (k : ℕ). length (plain_of k) ≤ length x.is.number.digits) (sym n) (plain_shortest x.steps (without_sign x.is) x.exact)

    by : (b : Bool) → text ≡ OffNumber.signed b x.is.number.digits → z ≡ with_sign b x.steps → length (decimal_of z) ≤ length text
    by true e v = omega (arith, l, ap length e, sign_one z (plain_of (nat_abs z)))
    by false e v = subst (λ (y : ℤ). length (decimal_of y) ≤ length text) (sym v) (omega (arith, ap (λ (k : ℕ). length (plain_of k)) n, l, ap length e))

-- ---- how long it may be
pointed_length : (part : List ℕ) → length (pointed part) ≤ suc (length part)
pointed_length [] = omega arith
pointed_length (d ∷ ds) = omega arith

pub decimal_most : (z : ℤ) → nat_abs z ≤ Limits.shape_reach → length (decimal_of z) ≤ 12
decimal_most z h =
    let n = nat_abs z in
    let p = part_is_lem (n % Limits.steps) (omega arith) in
    let l = length-append (digits_of (n / Limits.steps)) (pointed (part_of (n % Limits.steps))) in
    let w = digits_most 4 (n / Limits.steps) (omega arith) (omega arith) in
    omega (arith, sign_one z (plain_of n), l, w, p.few, pointed_length (part_of (n % Limits.steps)))

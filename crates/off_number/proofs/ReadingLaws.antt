-- What is read of a number from left to right is the answer that OffNumber asks for: each return of the helpers is one law.
-- The definitions stand in Reading.
use Rattle.std.specs.Prelude.{ℕ, ◌≤◌, ◌<◌, ◌+◌, ◌-◌, ◌*◌, ◌^◌, min, ◌≡◌, ◌≢◌, refl, Bool, true, false, List, [], ◌∷◌, ◌++◌, pos, neg_ℤ, length, get_or, drop}
use Rattle.std.proofs.Common.{sym, ap, ap₂, ◌∙◌, subst, inl, inr, add-one, mul-lt-mul_of_pos_right, arith, length-drop, pow-add, drop-cons}
use Rattle.std.proofs.Math.Nat.{one-le-pow}
use Rattle.std.proofs.Math.Seq.{drop-length}
use Rattle.limits.specs.Limits
use Rattle.limits.specs.Lowest.{Lowest, ◌when◌}
use Rattle.scans.specs.Floats.{with_sign}
use Rattle.text_digits.specs.Decimal.{Digits, number, Follows, value_in, cut}
use Rattle.text_digits.specs.DecimalLaws.{leading, leading_digits, leading_split, leading_le, leading_all, digits_leading, whole_leading, rest_follows, decimal_once, number_below, number_few}
use Rattle.off_number.specs.OffNumber.{Point, signed, millionth, Millionths, Inexact, Beyond, NumberReadAs}
use Rattle.off_number.specs.OffNumberLaws.{apart, no_minus}
use Rattle.off_number.specs.Reading.{Plain, InexactAt, BeyondAt, Counted, no_number, PlainAs, bad, judged, BegunTo, Pointed}

pub plain_once : {text : List ℕ} {m n : ℕ} → Plain text m → Plain text n → m ≡ n
plain_once a b =
    let e = decimal_once Point apart a.decimal b.decimal in
    a.value ∙ ap₂ (value_in Limits.off_digits) e.0 e.1 ∙ sym b.value

-- ---- a text with no sign
pub no_digits : (text : List ℕ) → length (leading text) ≡ 0 → PlainAs text no_number
no_digits text z = bad (λ m p. omega (arith, p.decimal.whole_some, ap length (whole_leading Point apart p.decimal))) refl

-- what any number follows its whole digits by
plain_follows : {text : List ℕ} {m : ℕ} (rest : List ℕ) → drop (length (leading text)) text ≡ rest → (p : Plain text m) → Follows Point rest p.part
plain_follows rest e p = subst (λ (l : List ℕ). Follows Point l p.part) e (rest_follows Point apart p.decimal)

plain_by : (text rest part : List ℕ) → 1 ≤ length (leading text) → drop (length (leading text)) text ≡ rest → Follows Point rest part → Digits part → length part ≤ Limits.off_digits
    → Plain text (value_in Limits.off_digits (leading text) part)
plain_by text rest part some e f ds few = record {
  whole = leading text;
  part = part;
  decimal = record {
    whole_digits = leading_digits text;
    whole_some = some;
    rest = rest;
    split = leading_split text ∙ ap (λ (l : List ℕ). leading text ++ l) e;
    follows = f;
    part_digits = ds;
  };
  few = few;
  value = refl;
}

-- the part is less than a millimetre
pub part_below : (part : List ℕ) → Digits part → length part ≤ Limits.off_digits → number part * 10 ^ (Limits.off_digits - length part) < millionth
part_below part ds few =
    let k = Limits.off_digits - length part in
    let n : length part + k ≡ Limits.off_digits = omega arith in
    let e : 10 ^ length part * 10 ^ k ≡ millionth = sym (pow-add 10 (length part) k) ∙ ap (λ (n : ℕ). 10 ^ n) n in
    subst (λ (n : ℕ). number part * 10 ^ k < n) e (mul-lt-mul_of_pos_right (number_below part ds) (one-le-pow k 10 (omega arith)))

-- nothing follows
pub whole_ends : {text : List ℕ} {at whole : ℕ} → BegunTo text at whole → at ≡ length text → Plain text (number (leading text) * millionth + 0)
unfolding number
whole_ends {text} {at} b e =
    plain_by text [] [] b.begun.some (ap (λ (n : ℕ). drop n text) (sym b.place ∙ e) ∙ drop-length text) refl tt (omega arith)

rest_at : {text : List ℕ} {at whole : ℕ} → BegunTo text at whole → at < length text → drop (length (leading text)) text ≡ get_or text at 0 ∷ drop (at + 1) text
rest_at {text} {at} b h = ap (λ (n : ℕ). drop n text) (sym b.place) ∙ rw add-one (drop-cons text at 0 h)

-- something else than a point follows
pub other_follows : {text : List ℕ} {at whole : ℕ} → BegunTo text at whole → at < length text → (get_or text at 0 ≡ 46 → ⊥) → PlainAs text no_number
other_follows b h f = bad (λ m p. f (plain_follows _ (rest_at b h) p).0) refl

pub point_follows : {text : List ℕ} {at whole : ℕ} → BegunTo text at whole → at < length text → get_or text at 0 ≡ 46 → Pointed text (at + 1) whole
point_follows {text} {at} b h e = record {
  begun = b.begun;
  within = omega arith;
  point = rest_at b h ∙ ap (λ (c : ℕ). c ∷ drop (at + 1) text) e;
}

module _ {text : List ℕ} {at whole : ℕ} (p : Pointed text at whole) where
  pub part_bad : (Digits (drop at text) → 1 ≤ length (drop at text) → length (drop at text) ≤ Limits.off_digits → ⊥) → PlainAs text no_number
  part_bad f = bad
      (λ m q.
      let g = plain_follows _ p.point q in
      part_is_lem g.1 q.decimal.part_digits g.2 q.few)
      refl
    where
      part_is_lem : {part : List ℕ} → drop at text ≡ part → Digits part → 1 ≤ length part → length part ≤ Limits.off_digits → ⊥
      part_is_lem e ds some few = f (subst Digits (sym e) ds) (omega (arith, ap length e)) (omega (arith, ap length e))

  pub part_good : Digits (drop at text) → 1 ≤ length (drop at text) → length (drop at text) ≤ Limits.off_digits
      → Plain text (number (leading text) * millionth + number (drop at text) * 10 ^ (Limits.off_digits - length (drop at text)))
  part_good ds some few = plain_by text (46 ∷ drop at text) (drop at text) p.begun.some p.point (refl, refl, some) ds few

  -- k digits stand behind the point: not all that does, or none, or too many
  pub part_refused : {k : ℕ} → k ≡ length (leading (drop at text)) → (length text - at ≤ k → 1 ≤ k → k ≤ Limits.off_digits → ⊥) → PlainAs text no_number
  part_refused e f = part_bad (λ ds some few.
      let n = e ∙ ap length (digits_leading (drop at text) ds) in
      f (omega (arith, n, length-drop at text)) (omega (arith, n)) (omega (arith, n)))

  -- or all that does, and few: v is what they name, and w what the last of them is worth
  module _ {k v w : ℕ} (e : k ≡ length (leading (drop at text))) (named : v ≡ min (number (leading (drop at text))) cut) (worth : w ≡ 10 ^ (Limits.off_digits - k)) (all : length text - at ≤ k)
      (some : k ≢ 0) (few : k ≤ Limits.off_digits) where
    digits_all : leading (drop at text) ≡ drop at text
    digits_all = leading_all (drop at text) (omega (arith, e, length-drop at text))

    digits_are : Digits (drop at text)
    digits_are = subst Digits digits_all (leading_digits (drop at text))

    long : k ≡ length (drop at text)
    long = e ∙ ap length digits_all

    part_is : v * w ≡ number (drop at text) * 10 ^ (Limits.off_digits - length (drop at text))
    part_is =
        let n : v ≡ number (drop at text) = omega (arith, named, ap number digits_all, number_few Limits.off_digits (drop at text) digits_are (omega (arith, long))) in
        ap₂ (λ (x y : ℕ). x * y) n (worth ∙ ap (λ (m : ℕ). 10 ^ (Limits.off_digits - m)) long)

    pub taken_below : v * w < millionth
    taken_below = subst (λ (n : ℕ). n < millionth) (sym part_is) (part_below (drop at text) digits_are (omega (arith, long)))

    pub part_taken : Plain text (number (leading text) * millionth + v * w)
    part_taken =
        subst (λ (n : ℕ). Plain text (number (leading text) * millionth + n)) (sym part_is) (part_good digits_are (omega (arith, long, some)) (omega (arith, long)))

-- few steps
pub plain_most : {text : List ℕ} {c : Counted} → PlainAs text c → c.steps ≤ Limits.shape_reach
plain_most (bad f e) = omega (arith, ap (λ (c : Counted). c.steps) e)
plain_most (judged m p j) = j.most

-- ---- the sign
no_sign : (b : Bool) → with_sign b 0 ≡ pos 0
no_sign true = refl
no_sign false = refl

pub with_sign_lem : (b : Bool) {text digits : List ℕ} {m : ℕ} → text ≡ signed b digits → Plain digits m → Millionths text b m
with_sign_lem b {digits = digits} e p = record {
  whole = p.whole;
  part = p.part;
  number = record { digits = digits; sign = e; decimal = p.decimal; few = omega (arith, p.few) };
  value = p.value;
}

pub without_sign : {text : List ℕ} {b : Bool} {m : ℕ} → (x : Millionths text b m) → Plain x.number.digits m
without_sign x = record { whole = x.whole; part = x.part; decimal = x.number.decimal; few = x.number.few; value = x.value }

module _ (b : Bool) {text digits : List ℕ} (is : text ≡ signed b digits) (one : (a : Bool) (m : ℕ) → Millionths text a m → (a ≡ b) × Plain digits m) where
  signed_answers : (c : Counted) → PlainAs digits c → NumberReadAs text (record { number = c.number; steps = with_sign b c.steps })
  signed_answers c (bad f e) =
      let n : c.number ≡ Limits.bad_text = ap (λ (c : Counted). c.number) e in
      record {
        number = inl (λ s. f s.1 (one s.0 s.1 s.2).1, n);
        steps = λ z. absurd (omega arith);
        zeros = λ z. ap (λ (c : Counted). with_sign b c.steps) e ∙ no_sign b;
      }
  signed_answers c (judged m p j) = record {
    number = inr ((λ f. f (b, m, with_sign_lem b is p)), by j.number);
    steps = λ z. record { minus = b; millionths = m; is = with_sign_lem b is p; steps = c.steps; exact = j.steps z; value = refl };
    zeros = λ f. ap (with_sign b) (j.zeros f) ∙ no_sign b;
  }
    where
      same : (a : Bool) (n : ℕ) → Millionths text a n → n ≡ m
      same a n x = plain_once (one a n x).1 p

      by : Lowest (Limits.not_whole when InexactAt m ∷ Limits.float_range when BeyondAt m ∷ []) c.number
          → Lowest (Limits.not_whole when Inexact text ∷ Limits.float_range when Beyond text ∷ []) c.number
      by (inl h) = inl ((b, m, with_sign_lem b is p, h.0), h.1)
      by (inr (f, inl h)) = inr ((λ s. f (subst InexactAt (same s.0 s.1 s.2) s.3)), inl ((b, m, with_sign_lem b is p, h.0), h.1))
      by (inr (f, inr (g, h))) = inr ((λ s. f (subst InexactAt (same s.0 s.1 s.2) s.3)), inr ((λ s. g (subst BeyondAt (same s.0 s.1 s.2) s.3)), h))

pub minus_answers : {text digits : List ℕ} (c : Counted) → text ≡ 45 ∷ digits → PlainAs digits c → NumberReadAs text (record { number = c.number; steps = neg_ℤ (pos c.steps) })
minus_answers {text} {digits} c e p = signed_answers true e one c p
  where
    one : (a : Bool) (m : ℕ) → Millionths text a m → (a ≡ true) × Plain digits m
    one true m x =
        let d : x.number.digits ≡ digits = cc in
        (refl, subst (λ (l : List ℕ). Plain l m) d (without_sign x))
    one false m x = absurd (no_minus x.number.decimal (sym x.number.sign ∙ e))

pub plain_answers : {text : List ℕ} (c : Counted) → ((digits : List ℕ) → text ≡ 45 ∷ digits → ⊥) → PlainAs text c → NumberReadAs text (record { number = c.number; steps = pos c.steps })
plain_answers {text} c f p = signed_answers false refl one c p
  where
    one : (a : Bool) (m : ℕ) → Millionths text a m → (a ≡ false) × Plain text m
    one true m x = absurd (f x.number.digits x.number.sign)
    one false m x = (refl, subst (λ (l : List ℕ). Plain l m) (sym x.number.sign) (without_sign x))

-- the empty word
pub empty_bad : (text : List ℕ) → length text ≡ 0 → NumberReadAs text (record { number = Limits.bad_text; steps = pos 0 })
empty_bad text z = plain_answers no_number (λ digits e. omega (arith, ap length e)) (no_digits text (omega (arith, leading_le text)))

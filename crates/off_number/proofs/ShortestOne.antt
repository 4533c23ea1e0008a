-- "the shortest exact decimal" is one text: any text of the form that has the steps, and is no longer than `decimal_of`, is `decimal_of`.
-- So the definition says no more than the request's words do.
use Rattle.std.specs.Prelude.{ℕ, zero, suc, ◌≤◌, ◌<◌, ◌+◌, ◌-◌, ◌*◌, ◌/◌, ◌%◌, ◌^◌, ◌≡◌, refl, Bool, true, false, List, [], ◌∷◌, ◌++◌, ℤ, length}
use Rattle.std.proofs.Common.{sym, ap, ap₂, ◌∙◌, ⊎_elim, mul-le-mul_right, add-mul, arith, length-append}
use Rattle.std.proofs.Math.Nat.{eq_of_mul-eq-mul_right, one-le-pow}
use Rattle.ints.specs.Order.{lt-or-ge}
use Rattle.limits.specs.Limits
use Rattle.scans.specs.Floats.{with_sign}
use Rattle.text_digits.specs.Decimal.{Digits, number, Follows}
use Rattle.text_digits.specs.DecimalLaws.{number_below}
use Rattle.text_put.specs.Print.{digits_of}
use Rattle.text_put.specs.PrintLaws.{digits_written, written_number}
use Rattle.off_number.specs.OffNumber.{Point, signed, Exact, InSteps}
use Rattle.off_number.specs.Reading.{Plain}
use Rattle.off_number.proofs.ReadingLaws.{without_sign}
use Rattle.off_number.specs.Shortest.{part_of, pointed, plain_of, decimal_of}
use Rattle.off_number.proofs.PartLaws.{part_is_lem}
use Rattle.off_number.proofs.ShortestLaws.{plain_of_lem, plain_shortest}

-- ---- as many digits that name the same number are the same digits
parts : (a b p x y : ℕ) → x < p → y < p → a * p + x ≡ b * p + y → (a ≡ b) × (x ≡ y)
parts a b p x y hx hy e = ⊎_elim
    (λ (l : a < b). absurd (omega (arith, mul-le-mul_right {m = a + 1} {n = b} p (omega arith), add-mul a 1 p)))
    (λ (l : b ≤ a). ⊎_elim
    (λ (k : b < a). absurd (omega (arith, mul-le-mul_right {m = b + 1} {n = a} p (omega arith), add-mul b 1 p)))
    (λ (k : a ≤ b). let q : a ≡ b = omega arith in (q, omega (arith, ap (λ (n : ℕ). n * p) q))) (lt-or-ge b a)) (lt-or-ge a b)

digits_same : (s t : List ℕ) → Digits s → Digits t → length s ≡ length t → number s ≡ number t → s ≡ t
unfolding number
digits_same [] [] h k l e = refl
digits_same [] (c ∷ t) h k l e = absurd (omega arith)
digits_same (d ∷ s) [] h k l e = absurd (omega arith)
digits_same (d ∷ s) (c ∷ t) h k l e =
    let n : length s ≡ length t = omega arith in
    let p : 10 ^ length t ≡ 10 ^ length s = ap (λ (m : ℕ). 10 ^ m) (sym n) in
    let q = parts (d - 48) (c - 48) (10 ^ length s) (number s) (number t) (number_below s h.1) (omega (arith, number_below t k.1, p)) (e ∙ ap (λ (m : ℕ). (c - 48) * m + number t) p) in
    let first : d ≡ c = omega (arith, q.0, h.0.low, k.0.low) in
    ap₂ (λ (x : ℕ) (l : List ℕ). x ∷ l) first (digits_same s t h.1 k.1 n q.1)

-- ---- the part with its point
rest_one : (own rest part : List ℕ) → Digits own → Digits part → Follows Point rest part → length rest ≡ length (pointed own)
    → number part * 10 ^ (Limits.off_digits - length part) ≡ number own * 10 ^ (Limits.off_digits - length own) → rest ≡ pointed own
rest_one [] [] part h k f l e = refl
rest_one [] (c ∷ rest) part h k f l e = absurd (omega arith)
rest_one (d ∷ own) [] part h k f l e = absurd (omega arith)
rest_one (d ∷ own) (c ∷ rest) part h k f l e =
    let n : length part ≡ length (d ∷ own) = omega (arith, ap length f.1) in
    let w = Limits.off_digits - length (d ∷ own) in
    let v : number part * 10 ^ w ≡ number (d ∷ own) * 10 ^ w = ap (λ (m : ℕ). number part * 10 ^ (Limits.off_digits - m)) (sym n) ∙ e in
    let same : number part ≡ number (d ∷ own) = eq_of_mul-eq-mul_right (10 ^ w) (one-le-pow w 10 (omega arith)) (number part) (number (d ∷ own)) v in
    ap₂ (λ (x : ℕ) (l : List ℕ). x ∷ l) f.0 (f.1 ∙ digits_same part (d ∷ own) k h n same)

plain_one : {text : List ℕ} {m : ℕ} (s : ℕ) → Plain text m → Exact m s → length text ≤ length (plain_of s) → text ≡ plain_of s
plain_one {text} {m} s p x l =
    let o = plain_of_lem s p x in
    let q = s / Limits.steps in
    let own = part_of (s % Limits.steps) in
    let i = part_is_lem (s % Limits.steps) (omega arith) in
    let w = written_number (digits_written q) in
    let a = length-append p.whole p.decimal.rest in
    let b = length-append (digits_of q) (pointed own) in
    let t = ap length p.decimal.split in
    let whole : p.whole ≡ digits_of q = digits_same p.whole (digits_of q) p.decimal.whole_digits w.0 (omega (arith, o.whole_fewest, o.rest_fewest)) (o.whole_is ∙ sym w.1) in
    let rest : p.decimal.rest ≡ pointed own =
    rest_one own p.decimal.rest p.part i.ds p.decimal.part_digits p.decimal.follows (omega (arith, o.whole_fewest, o.rest_fewest)) (o.part_is ∙ sym i.value) in
    p.decimal.split ∙ ap₂ (λ (u v : List ℕ). u ++ v) whole rest

pub shortest_one : (z : ℤ) (text : List ℕ) → InSteps text z → length text ≤ length (decimal_of z) → text ≡ decimal_of z
shortest_one z text x l = by x.minus x.steps refl x.is.number.sign x.value
  where
    p : Plain x.is.number.digits x.millionths
    p = without_sign x.is

    by : (b : Bool) (s : ℕ) → x.steps ≡ s → text ≡ signed b x.is.number.digits → z ≡ with_sign b x.steps → text ≡ decimal_of z
    by false s es e v =
        let d : decimal_of z ≡ plain_of x.steps = ap decimal_of v in
        e ∙ plain_one x.steps p x.exact (omega (arith, ap length e, ap length d)) ∙ sym d
    by true zero es e v =
        let d : decimal_of z ≡ plain_of x.steps = ap decimal_of (v ∙ ap (with_sign true) es) ∙ ap plain_of (sym es) in
        absurd (omega (arith, ap length e, ap length d, plain_shortest x.steps p x.exact))
    by true (suc s) es e v =
        let d : decimal_of z ≡ 45 ∷ plain_of x.steps = ap decimal_of (v ∙ ap (with_sign true) es) ∙ ap (λ (n : ℕ). 45 ∷ plain_of n) (sym es) in
        e ∙ ap (λ (u : List ℕ). 45 ∷ u) (plain_one x.steps p x.exact (omega (arith, ap length e, ap length d))) ∙ sym d

-- Numbers of a text judged one after the other: none, one more, and that the empty word is none.
-- The definitions stand in Corners and Passes.
use Rattle.std.specs.Prelude.{ℕ, zero, suc, ◌+◌, ◌<◌, ◌≡◌, refl, Bool, true, false, List, [], ◌∷◌, ℤ, length}
use Rattle.std.proofs.Common.{ap, ap₂, subst, inl, inr, arith, length-append}
use Rattle.std.proofs.Math.Decide.{dec_lt}
use Rattle.limits.specs.Limits
use Rattle.limits.specs.Lowest.{Rule, Lowest, ◌when◌}
use Rattle.scans.specs.Lower.{lower_left, lower_none}
use Rattle.scans.specs.Scanned.{lower_of}
use Rattle.off_number.specs.OffNumber.{IsNumber, NumberAs, Inexact, Beyond, InSteps, word_refusals, NumberRead, NumberReadAs}
use Rattle.off_text.specs.Off.{word_at, AnyWord}
use Rattle.off_text.specs.FaceLaws.{each_more}
use Rattle.off_read.specs.Passes.{number_refusals, Taken, NumbersJudged}

-- ---- the empty word
empty_as : (minus : Bool) {whole part : List ℕ} → NumberAs [] minus whole part → ⊥
empty_as true h = omega (arith, ap length h.sign)
empty_as false {whole} h = omega (arith, h.decimal.whole_some, ap length h.sign, ap length h.decimal.split, length-append whole h.decimal.rest)

pub empty_number : IsNumber [] → ⊥
empty_number h = empty_as h.0 h.2.number

-- ---- one of some words
module _ (P : List ℕ → Type 0) (n : ℕ) (words : List (List ℕ)) where
  any_before : AnyWord P n words → AnyWord P (n + 1) words
  any_before h = (h.0, omega (arith, h.1), h.2)

  any_last : P (word_at words n) → AnyWord P (n + 1) words
  any_last p = (n, omega arith, p)

  any_neither : (AnyWord P n words → ⊥) → (P (word_at words n) → ⊥) → AnyWord P (n + 1) words → ⊥
  any_neither f g h = go (dec_lt h.0 n)
    where
      go : Dec (h.0 < n) → ⊥
      go (yes l) = f (h.0, l, h.2)
      go (no l) = let e : h.0 ≡ n = omega (arith, h.1) in g (subst (λ (k : ℕ). P (word_at words k)) e h.2)

-- ---- one word that is a number, by its answer
abbrev one_refusals : List ℕ → List Rule
one_refusals word = Limits.not_whole when Inexact word ∷ Limits.float_range when Beyond word ∷ []

record WordJudged (word : List ℕ) (k : ℕ) : Type 0 where
  is_number : IsNumber word
  lowest : Lowest (one_refusals word) k

word_judged : {word : List ℕ} {k : ℕ} → Lowest (word_refusals word) k → (k ≡ Limits.bad_text → ⊥) → (z : ℤ) → (k ≡ Limits.done → InSteps word z) → WordJudged word k
word_judged (inl a) f z t = absurd (f a.1)
word_judged (inr (a, inl b)) f z t = record { is_number = (b.0.0, b.0.1, b.0.2); lowest = inl b }
word_judged (inr (a, inr (b, inl c))) f z t = record { is_number = (c.0.0, c.0.1, c.0.2); lowest = inr (b, inl c) }
word_judged (inr (a, inr (b, inr c))) f z t = let s = t c.1 in record { is_number = (s.minus, s.millionths, s.is); lowest = inr (b, inr c) }

-- 26 is no number
pub bad_word : (word : List ℕ) {k : ℕ} → Lowest (word_refusals word) k → k ≡ Limits.bad_text → IsNumber word → ⊥
bad_word word (inl a) e = a.0
bad_word word (inr (a, inl b)) e = absurd (omega (arith, b.1, e))
bad_word word (inr (a, inr (b, inl c))) e = absurd (omega (arith, c.1, e))
bad_word word (inr (a, inr (b, inr c))) e = absurd (omega (arith, c.1, e))

-- ---- the lower of what was found and of one word more
lowest_more : (n : ℕ) (words : List (List ℕ)) {m k : ℕ} → Lowest (number_refusals n words) m → Lowest (one_refusals (word_at words n)) k → Lowest (number_refusals (n + 1) words) (lower_of m k)
lowest_more n words (inl a) (inl b) = inl (any_before Inexact n words a.0, ap₂ lower_of a.1 b.1)
lowest_more n words (inl a) (inr (b, inl c)) = inl (any_before Inexact n words a.0, ap₂ lower_of a.1 c.1)
lowest_more n words (inl a) (inr (b, inr c)) = inl (any_before Inexact n words a.0, ap₂ lower_of a.1 c.1)
lowest_more n words (inr (a, inl b)) (inl c) = inl (any_last Inexact n words c.0, ap₂ lower_of b.1 c.1)
lowest_more n words (inr (a, inl b)) (inr (c, inl d)) = inr (any_neither Inexact n words a c, inl (any_before Beyond n words b.0, ap₂ lower_of b.1 d.1))
lowest_more n words (inr (a, inl b)) (inr (c, inr d)) = inr (any_neither Inexact n words a c, inl (any_before Beyond n words b.0, ap₂ lower_of b.1 d.1))
lowest_more n words (inr (a, inr b)) (inl c) = inl (any_last Inexact n words c.0, ap₂ lower_of b.1 c.1)
lowest_more n words (inr (a, inr b)) (inr (c, inl d)) = inr (any_neither Inexact n words a c, inl (any_last Beyond n words d.0, ap₂ lower_of b.1 d.1))
lowest_more n words (inr (a, inr b)) (inr (c, inr d)) =
    inr (any_neither Inexact n words a c, inr (any_neither Beyond n words b.0 d.0, ap₂ lower_of b.1 d.1))

-- one that is done lowers nothing
pub lower_done : (k : ℕ) → lower_of k Limits.done ≡ k
lower_done zero = refl
lower_done (suc k) = lower_left (suc k) Limits.done (omega arith) (inl refl)

-- ---- the numbers judged
none_any : (P : List ℕ → Type 0) (words : List (List ℕ)) → AnyWord P 0 words → ⊥
none_any P words h = omega (arith, h.1)

pub judged_none : (words : List (List ℕ)) → NumbersJudged 0 words Limits.done
judged_none words = record {
  numbers = λ k l. absurd (omega arith);
  lowest = inr (none_any Inexact words, inr (none_any Beyond words, refl));
  taken = λ _ k l. absurd (omega arith);
}

pub judged_more : (n : ℕ) (words : List (List ℕ)) {k : ℕ} {r : NumberRead} → NumbersJudged n words k → NumberReadAs (word_at words n) r → (r.number ≡ Limits.bad_text → ⊥)
    → NumbersJudged (n + 1) words (lower_of k r.number)
judged_more n words {k} {r} h a f =
    let w = word_judged a.number f r.steps a.steps in
    record {
      numbers = each_more IsNumber n words h.numbers w.is_number;
      lowest = lowest_more n words h.lowest w.lowest;
      taken = λ e.
          let z = lower_none k r.number e in
          each_more Taken n words (h.taken z.0) (subst (Lowest (word_refusals (word_at words n))) z.1 a.number);
    }

-- what is judged is not 26
pub judged_not_bad : (n : ℕ) (words : List (List ℕ)) {k : ℕ} → Lowest (number_refusals n words) k → k ≡ Limits.bad_text → ⊥
judged_not_bad n words (inl a) e = omega (arith, a.1, e)
judged_not_bad n words (inr (a, inl b)) e = omega (arith, b.1, e)
judged_not_bad n words (inr (a, inr b)) e = omega (arith, b.1, e)

-- Laws of numbers as words: a word names one number at most, so two answers that are allowed for one word are equal (`reads_once`).
-- And the digits, read first, with the sign after them, are the answer that Numbers promises.
use Rattle.std.specs.Prelude.{ℕ, ◌<◌, ◌≡◌, List, ◌∷◌, ℤ, Option, Some, None, SomeIff, Result, Ok, Err, length}
use Rattle.std.proofs.Common.{sym, ◌∙◌, arith}
use Rattle.std.proofs.Math.Path.{ap, subst}
use Rattle.std.specs.Int.{w32}
use Rattle.std.specs.Int.RustNames.{FitsSigned}
use Rattle.std.specs.Result.{OkIff, result_ok}
use Rattle.ints.specs.Bounds.{in_fits, fits_in}
use Rattle.text_digits.specs.Decimal.{Digits, number}
use Rattle.text_digits.specs.DecimalLaws.{number_few}
use Rattle.text_number.specs.Numbers.{Figures, Spells, plain, minus, Fits, Reads}

-- the minus is no digit
signed : {word figures : List ℕ} → Figures word → word ≡ 45 ∷ figures → ⊥
signed f e = let d = (subst Digits e f.digits).0.low in omega arith

-- the empty word names nothing
pub empty_bad : {word : List ℕ} → length word ≡ 0 → Reads word None
empty_bad h v (plain f e) b = omega (arith, f.some)
empty_bad h v (minus ds p f e) b = omega (arith, ap length p)

pub spells_once : {word : List ℕ} {v w : ℤ} → Spells word v → Spells word w → v ≡ w
spells_once (plain f e) (plain g h) = e ∙ sym h
spells_once (plain f e) (minus ds p g h) = absurd (signed f p)
spells_once (minus ds p f e) (plain g h) = absurd (signed g p)
spells_once (minus ds p f e) (minus es q g h) = e ∙ (cc) ∙ sym h

pub reads_once : (word : List ℕ) (q r : Option ℤ) → Reads word q → Reads word r → q ≡ r
reads_once word (Some v) (Some w) a b = ap Some (spells_once a.0 b.0)
reads_once word (Some v) None a b = absurd (b v a.0 a.1)
reads_once word None (Some w) a b = absurd (a w b.0 b.1)
reads_once word None None a b = cc

-- ---- the number that a word spells, as it is read
-- its magnitude fits 64 bits
pub figures_below : {word : List ℕ} → Figures word → number word < 10000000000
figures_below {word} f = number_few 10 word f.digits f.few

-- the number itself, where it fits, in whatever spelling it stands
pub fitted : {word : List ℕ} {v w : ℤ} (o : Option ℤ) → Spells word v → w ≡ v → SomeIff o (FitsSigned w32 w) w → Reads word o
fitted {word} (Some x) s e k = (subst (Spells word) (sym (k.1 ∙ e)) s, subst Fits (sym k.1) (in_fits w32 _ k.0))
fitted None s e n = λ x t f. n (subst (FitsSigned w32) (spells_once t s ∙ sym e) (fits_in w32 x 2147483648 2147483647 f (omega arith) (omega arith)))

-- what the conversion to 32 bits makes of it, which may stand in another spelling
pub converted : {E : Type 0} {word : List ℕ} {v w : ℤ} (r : Result ℤ E) {o : Option ℤ} → Spells word v → w ≡ v → OkIff r (FitsSigned w32 w) w → o ≡ result_ok r → Reads word o
converted {E} {word} {v} {w} r {o} s e k eo = subst (Reads word) (sym eo) (go r (subst (λ (x : ℤ). OkIff r (FitsSigned w32 x) x) e k))
  where
    go : (r : Result ℤ E) → OkIff r (FitsSigned w32 v) v → Reads word (result_ok r)
    go (Ok x) h = (subst (Spells word) (sym h.1) s, subst Fits (sym h.1) (in_fits w32 v h.0))
    go (Err d) n = λ x t f. n (subst (FitsSigned w32) (spells_once t s) (fits_in w32 x 2147483648 2147483647 f (omega arith) (omega arith)))

-- no digits behind a minus, or none and no minus, are no number
pub no_minus : {word figures : List ℕ} → word ≡ 45 ∷ figures → (Figures figures → ⊥) → Reads word None
no_minus p n v (plain f e) t = signed f p
no_minus {figures = figures} p n v (minus ds q f e) t = let same : ds ≡ figures = cc in n (subst Figures same f)

pub no_plain : {word : List ℕ} → ((rest : List ℕ) → word ≡ 45 ∷ rest → ⊥) → (Figures word → ⊥) → Reads word None
no_plain p n v (plain f e) t = n f
no_plain p n v (minus ds q f e) t = p ds q

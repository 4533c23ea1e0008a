-- Laws of decimal numbers: the digits that a text starts with, and that a text is a decimal number in one way at most.
-- No separator is a digit, so the digits that a text starts with are the whole digits of the number that it is.
use Rattle.std.specs.Prelude.{ℕ, suc, ◌≤◌, ◌<◌, ◌+◌, ◌-◌, ◌*◌, ◌^◌, min, ◌≡◌, refl, List, [], ◌∷◌, ◌++◌, length, drop}
use Rattle.std.proofs.Common.{sym, ap, ◌∙◌, subst, append-nil, pow-suc, mul-le-mul_right, mul_assoc, add-mul, zero-mul, arith, length-append, drop_of_length-le}
use Rattle.std.proofs.Math.Logic.{ite, if_pos, if_neg}
use Rattle.std.proofs.Math.Decide.{dec_le}
use Rattle.std.proofs.Math.Nat.{pow-succ', pow-le-pow_right}
use Rattle.std.proofs.Math.Seq.{drop-append_seam}
use Rattle.text_digits.specs.Decimal.{Digit, Digits, number, Follows, Decimal, value_in}

-- ---- what can be decided
unfoldable pub both : {A B : Type 0} → Dec A → Dec B → Dec (A × B)
both (yes a) (yes b) = yes (a, b)
both (yes a) (no b) = no (λ h. b h.1)
both (no a) (yes b) = no (λ h. a h.0)
both (no a) (no b) = no (λ h. a h.0)

unfoldable pub digit? : (b : ℕ) → Dec (Digit b)
unfolding dec_le
digit? b = go (dec_le 48 b) (dec_le b 57)
  where
    go : Dec (48 ≤ b) → Dec (b ≤ 57) → Dec (Digit b)
    go (yes l) (yes h) = yes (record { low = l; high = h })
    go (yes l) (no h) = no (λ d. h d.high)
    go (no l) (yes h) = no (λ d. l d.low)
    go (no l) (no h) = no (λ d. l d.low)

unfoldable pub digits? : (ds : List ℕ) → Dec (Digits ds)
unfolding both digit?
digits? [] = yes tt
digits? (d ∷ ds) = both (digit? d) (digits? ds)

-- ---- the digits at the start of a text
unfoldable pub leading : List ℕ → List ℕ
unfolding digit?
leading [] = []
leading (b ∷ s) = ite (digit? b) (b ∷ leading s) []

pub leading_more : (b : ℕ) (s : List ℕ) → Digit b → leading (b ∷ s) ≡ b ∷ leading s
unfolding leading
leading_more b s d = if_pos (digit? b) d _ _

pub leading_stop : (b : ℕ) (s : List ℕ) → (Digit b → ⊥) → leading (b ∷ s) ≡ []
unfolding leading
leading_stop b s n = if_neg (digit? b) n _ _

pub leading_digits : (s : List ℕ) → Digits (leading s)
unfolding leading
leading_digits [] = tt
leading_digits (b ∷ s) = go (digit? b) (leading_digits s)
  where
    go : (d : Dec (Digit b)) → Digits (leading s) → Digits (ite d (b ∷ leading s) [])
    go (yes d) h = (d, h)
    go (no n) h = tt

pub leading_split : (s : List ℕ) → s ≡ leading s ++ drop (length (leading s)) s
unfolding leading
leading_split [] = refl
leading_split (b ∷ s) = go (digit? b) (leading_split s)
  where
    go : (d : Dec (Digit b)) → s ≡ leading s ++ drop (length (leading s)) s
        → b ∷ s ≡ ite d (b ∷ leading s) [] ++ drop (length (ite d (b ∷ leading s) [])) (b ∷ s)
    go (yes d) h = ap (λ (l : List ℕ). b ∷ l) h
    go (no n) h = refl

-- nothing, or a byte that is no digit
abbrev pub Stops : List ℕ → Type 0
Stops [] = Unit {0}
Stops (c ∷ s) = Digit c → ⊥

-- digits, then nothing or no digit: those are the digits at the start
pub leading_of_lem : (ds rest : List ℕ) → Digits ds → Stops rest → leading (ds ++ rest) ≡ ds
unfolding leading
leading_of_lem [] [] h stop = refl
leading_of_lem [] (c ∷ rest) h stop = leading_stop c rest stop
leading_of_lem (d ∷ ds) rest h stop = leading_more d (ds ++ rest) h.0 ∙ ap (λ (l : List ℕ). d ∷ l) (leading_of_lem ds rest h.1 stop)

-- a text is digits and nothing else exactly when it is the digits that it starts with
pub digits_leading : (s : List ℕ) → Digits s → leading s ≡ s
digits_leading s h = ap leading (sym (append-nil s)) ∙ leading_of_lem s [] h tt

pub leading_le : (s : List ℕ) → length (leading s) ≤ length s
leading_le s = omega (arith, simp length-append at (ap length (leading_split s)))

pub leading_all : (s : List ℕ) → length s ≤ length (leading s) → leading s ≡ s
leading_all s h = sym (leading_split s ∙ rw (drop_of_length-le s h, append-nil) refl)

-- ---- a text is a decimal number in one way
module _ (Separator : ℕ → Type 0) (apart : (c : ℕ) → Separator c → Digit c → ⊥) where
  follows_stops : (rest part : List ℕ) → Follows Separator rest part → Stops rest
  follows_stops [] part f = tt
  follows_stops (c ∷ rest) part f = apart c f.0

  pub whole_leading : {text whole part : List ℕ} → Decimal Separator text whole part → leading text ≡ whole
  whole_leading {text} {whole} {part} d =
      ap leading d.split ∙ leading_of_lem whole d.rest d.whole_digits (follows_stops d.rest part d.follows)

  -- what stands after the digits at the start is what follows the whole digits
  pub rest_follows : {text whole part : List ℕ} → Decimal Separator text whole part → Follows Separator (drop (length (leading text)) text) part
  rest_follows {text} {whole} {part} d =
      let e : drop (length (leading text)) text ≡ d.rest = ap (λ (l : List ℕ). drop (length l) text) (whole_leading d) ∙ ap (drop (length whole)) d.split ∙ drop-append_seam whole d.rest in
      subst (λ (l : List ℕ). Follows Separator l part) (sym e) d.follows

  -- what follows has one part
  part_once : (rest p q : List ℕ) → Follows Separator rest p → Follows Separator rest q → p ≡ q
  part_once [] p q f g = f ∙ sym g
  part_once (c ∷ rest) p q f g = sym f.1 ∙ g.1

  pub decimal_once : {text w p v q : List ℕ} → Decimal Separator text w p → Decimal Separator text v q → (w ≡ v) × (p ≡ q)
  decimal_once {text} {w} {p} {v} {q} d e =
      (sym (whole_leading d) ∙ whole_leading e, part_once (drop (length (leading text)) text) p q (rest_follows d) (rest_follows e))

-- ---- how large a number is
pub number_below : (ds : List ℕ) → Digits ds → number ds < 10 ^ length ds
unfolding number
number_below [] h = omega arith
number_below (d ∷ ds) h =
    omega (arith, h.0.high, pow-suc 10 (length ds), number_below ds h.1, mul-le-mul_right {m = d - 48} {n = 9} (10 ^ length ds) (omega (arith, h.0.high)))

pub number_few : (most : ℕ) (ds : List ℕ) → Digits ds → length ds ≤ most → number ds < 10 ^ most
number_few most ds h few = omega (arith, number_below ds h, pow-le-pow_right {n = 10} (omega arith) few)

-- ---- what the separator is worth: 1,5 is a hundred and fifty hundredths, 1,05 a hundred and five
pub one_and_five : value_in 2 (49 ∷ []) (53 ∷ []) ≡ 150
unfolding number
one_and_five = refl

pub one_and_nought_five : value_in 2 (49 ∷ []) (48 ∷ 53 ∷ []) ≡ 105
unfolding number
one_and_nought_five = refl

-- ---- a number read digit by digit: v so far, then the digits
unfoldable pub number_after : ℕ → List ℕ → ℕ
number_after v [] = v
number_after v (d ∷ ds) = number_after (v * 10 + (d - 48)) ds

number_after_lem : (v : ℕ) (ds : List ℕ) → number_after v ds ≡ v * 10 ^ length ds + number ds
unfolding number_after number
number_after_lem v [] = omega arith
number_after_lem v (d ∷ ds) =
    let p = 10 ^ length ds in
    let e : v * 10 ^ suc (length ds) ≡ v * 10 * p = rw (pow-succ', mul_assoc) refl in
    omega (arith, e, number_after_lem (v * 10 + (d - 48)) ds, add-mul (v * 10) (d - 48) p)

pub number_read : (ds : List ℕ) → number_after 0 ds ≡ number ds
number_read ds = omega (arith, number_after_lem 0 ds, zero-mul (10 ^ length ds))

number_ge : (v : ℕ) (ds : List ℕ) → v ≤ number_after v ds
unfolding number_after
number_ge v [] = omega arith
number_ge v (d ∷ ds) = omega (arith, number_ge (v * 10 + (d - 48)) ds)

-- a number that stops growing at m may stop at each digit
pub number_cut : (v m : ℕ) (ds : List ℕ) → min (number_after (min v m) ds) m ≡ min (number_after v ds) m
number_cut v m ds = go (dec_le v m)
  where
    go : Dec (v ≤ m) → min (number_after (min v m) ds) m ≡ min (number_after v ds) m
    go (yes h) = let e : min v m ≡ v = omega arith in rw e
    go (no h) = omega (arith, number_ge v ds, number_ge (min v m) ds)

-- The words of what is written: OFF, the count and two noughts, and each number as a word; and there is no comma in it.
-- A number's bytes are digits, a point and a minus, and so belong to one word.
use Rattle.std.specs.Prelude.{ℕ, ◌≤◌, ◌<◌, ◌-◌, ◌*◌, ◌/◌, ◌≡◌, refl, Bool, true, false, List, [], ◌∷◌, ◌++◌, map, T, eqb, ℤ, length}
use Rattle.std.proofs.Common.{sym, ap, ◌∙◌, subst, append_assoc, arith, eqb→eq, length-append}
use Rattle.text_cut.specs.Cuts.{Uncut}
use Rattle.text_digits.specs.Decimal.{Digits, Follows}
use Rattle.text_put.specs.Print.{digits_of}
use Rattle.text_put.specs.PrintLaws.{digits_written, written_number, digits_some}
use Rattle.off_number.specs.OffNumber.{Point, signed, NumberAs}
use Rattle.off_number.specs.Shortest.{decimal_of}
use Rattle.off_number.proofs.ShortestLaws.{decimal_steps}
use Rattle.off_text.specs.Off.{off, white, words_in}
use Rattle.off_text.specs.OffLaws.{words_none}
use Rattle.off_text.specs.TextLaws.{Plain, word_then}
use Rattle.off_write.specs.Written.{head_of, ended, line_of, lines_of, off_text}

-- ---- a number's bytes: none is below 45, the minus
abbrev Above : List ℕ → Type 0
Above [] = Unit {0}
Above (b ∷ s) = (45 ≤ b) × Above s

above_both : (s t : List ℕ) → Above s → Above t → Above (s ++ t)
above_both [] t a b = b
above_both (c ∷ s) t a b = (a.0, above_both s t a.1 b)

digits_above : (ds : List ℕ) → Digits ds → Above ds
digits_above [] h = tt
digits_above (d ∷ ds) h = (omega (arith, h.0.low), digits_above ds h.1)

follows_above : (rest part : List ℕ) → Follows Point rest part → Digits part → Above rest
follows_above [] part f h = tt
follows_above (c ∷ rest) part f h = (omega (arith, f.0), subst Above (sym f.1) (digits_above part h))

number_above : {text : List ℕ} {minus : Bool} {whole part : List ℕ} → NumberAs text minus whole part → Above text
number_above {text} {minus} {whole} {part} n = by minus n.sign
  where
    digits : Above n.digits
    digits = subst Above (sym n.decimal.split)
        (above_both whole n.decimal.rest (digits_above whole n.decimal.whole_digits) (follows_above n.decimal.rest part n.decimal.follows n.decimal.part_digits))

    by : (minus : Bool) → text ≡ signed minus n.digits → Above text
    by true e = subst Above (sym e) (omega arith, digits)
    by false e = subst Above (sym e) digits

decimal_above : (z : ℤ) → Above (decimal_of z)
decimal_above z = number_above (decimal_steps z).is.number

count_above : (n : ℕ) → Above (digits_of n)
count_above n = digits_above (digits_of n) (written_number (digits_written n)).0

-- such bytes belong to a word, and none is a comma
other : (b k : ℕ) → k < b → eqb b k ≡ false
other b k h = go (eqb b k) refl
  where
    go : (t : Bool) → eqb b k ≡ t → t ≡ false
    go true e = absurd (let f : b ≡ k = eqb→eq b k (subst T (sym e) tt) in omega arith)
    go false e = refl

above_plain : (s : List ℕ) → Above s → Plain s
unfolding white
above_plain [] a = tt
above_plain (b ∷ s) a =
    (rw (other b 9 (omega (arith, a.0)), other b 10 (omega (arith, a.0)), other b 13 (omega (arith, a.0)), other b 32 (omega (arith, a.0)), other b 35 (omega (arith, a.0))), above_plain s a.1)

above_uncut : (s : List ℕ) → Above s → Uncut 44 s
above_uncut [] a = tt
above_uncut (b ∷ s) a = ((λ e. omega (arith, a.0)), above_uncut s a.1)

-- ---- the lines of the corners
number_some : {text : List ℕ} {minus : Bool} {whole part : List ℕ} → NumberAs text minus whole part → 1 ≤ length text
number_some {text} {minus} {whole} n = by minus n.sign
  where
    by : (minus : Bool) → text ≡ signed minus n.digits → 1 ≤ length text
    by true e = omega (arith, ap length e)
    by false e = omega (arith, ap length e, ap length n.decimal.split, length-append whole n.decimal.rest, n.decimal.whole_some)

decimal_some : (z : ℤ) → 1 ≤ length (decimal_of z)
decimal_some z = number_some (decimal_steps z).is.number

space : white 32 ≡ true
unfolding white
space = refl

line-end : white 10 ≡ true
unfolding white
line-end = refl

decimal_then : (z : ℤ) (b : ℕ) (rest : List ℕ) → white b ≡ true → words_in (decimal_of z ++ b ∷ rest) ≡ decimal_of z ∷ words_in rest
decimal_then z b rest e = word_then (decimal_of z) b rest (above_plain (decimal_of z) (decimal_above z)) (decimal_some z) e

split_line : (a b c rest : List ℕ) → (a ++ (32 ∷ [])) ++ (b ++ (32 ∷ [])) ++ (c ++ (10 ∷ [])) ++ rest ≡ a ++ 32 ∷ (b ++ 32 ∷ (c ++ 10 ∷ rest))
split_line a b c rest = simp append_assoc

line_words : (x y z : ℤ) (rest : List ℕ) → words_in (line_of x y z ++ rest) ≡ decimal_of x ∷ decimal_of y ∷ decimal_of z ∷ words_in rest
line_words x y z rest =
    ap words_in (split_line (decimal_of x) (decimal_of y) (decimal_of z) rest)
    ∙ decimal_then x 32 (decimal_of y ++ 32 ∷ (decimal_of z ++ 10 ∷ rest)) space
    ∙ ap (λ (ws : List (List ℕ)). decimal_of x ∷ ws) (decimal_then y 32 (decimal_of z ++ 10 ∷ rest) space)
    ∙ ap (λ (ws : List (List ℕ)). decimal_of x ∷ decimal_of y ∷ ws) (decimal_then z 10 rest line-end)

lines_words : (numbers : List ℤ) (n : ℕ) → length numbers ≡ 3 * n → words_in (lines_of numbers) ≡ map decimal_of numbers
lines_words [] n e = words_none
lines_words (x ∷ []) n e = absurd (omega arith)
lines_words (x ∷ y ∷ []) n e = absurd (omega arith)
lines_words (x ∷ y ∷ z ∷ numbers) n e =
    line_words x y z (lines_of numbers) ∙ ap (λ (ws : List (List ℕ)). decimal_of x ∷ decimal_of y ∷ decimal_of z ∷ ws) (lines_words numbers (n - 1) (omega arith))

-- ---- the whole text
abbrev pub nought : List ℕ
nought = 48 ∷ []

split_head : (d rest : List ℕ) → d ++ (32 ∷ 48 ∷ 32 ∷ 48 ∷ 10 ∷ []) ++ rest ≡ d ++ 32 ∷ (48 ∷ 32 ∷ 48 ∷ 10 ∷ rest)
split_head d rest = simp append_assoc

pub head_words : (n : ℕ) (rest : List ℕ) → words_in (head_of n ++ rest) ≡ off ∷ digits_of n ∷ nought ∷ nought ∷ words_in rest
unfolding white
head_words n rest =
    word_then off 10 (digits_of n ++ (32 ∷ 48 ∷ 32 ∷ 48 ∷ 10 ∷ []) ++ rest) (refl, (refl, (refl, tt))) (omega arith) line-end
    ∙ ap (λ (s : List ℕ). off ∷ words_in s) (split_head (digits_of n) rest)
    ∙ ap (λ (ws : List (List ℕ)). off ∷ ws) (word_then (digits_of n) 32 (48 ∷ 32 ∷ 48 ∷ 10 ∷ rest) (above_plain (digits_of n) (count_above n)) (digits_some n) space)
    ∙ ap (λ (ws : List (List ℕ)). off ∷ digits_of n ∷ ws) (word_then nought 32 (48 ∷ 10 ∷ rest) (refl, tt) (omega arith) space)
    ∙ ap (λ (ws : List (List ℕ)). off ∷ digits_of n ∷ nought ∷ ws) (word_then nought 10 rest (refl, tt) (omega arith) line-end)

pub text_words_lem : (numbers : List ℤ) (n : ℕ) → length numbers ≡ 3 * n → words_in (off_text numbers) ≡ off ∷ digits_of n ∷ nought ∷ nought ∷ map decimal_of numbers
text_words_lem numbers n e =
    let k : length numbers / 3 ≡ n = omega arith in
    head_words (length numbers / 3) (lines_of numbers)
    ∙ ap (λ (m : ℕ). off ∷ digits_of m ∷ nought ∷ nought ∷ words_in (lines_of numbers)) k
    ∙ ap (λ (ws : List (List ℕ)). off ∷ digits_of n ∷ nought ∷ nought ∷ ws) (lines_words numbers n e)

-- ---- no comma
uncut_both : (s t : List ℕ) → Uncut 44 s → Uncut 44 t → Uncut 44 (s ++ t)
uncut_both [] t a b = b
uncut_both (c ∷ s) t a b = (a.0, uncut_both s t a.1 b)

ended_uncut : (z : ℤ) (b : ℕ) → (b ≡ 44 → ⊥) → Uncut 44 (ended z b)
ended_uncut z b f = uncut_both (decimal_of z) (b ∷ []) (above_uncut (decimal_of z) (decimal_above z)) (f, tt)

line_uncut : (x y z : ℤ) → Uncut 44 (line_of x y z)
line_uncut x y z =
    uncut_both (ended x 32 ++ ended y 32) (ended z 10)
    (uncut_both (ended x 32) (ended y 32) (ended_uncut x 32 (λ e. omega arith)) (ended_uncut y 32 (λ e. omega arith)))
    (ended_uncut z 10 (λ e. omega arith))

lines_uncut : (numbers : List ℤ) → Uncut 44 (lines_of numbers)
lines_uncut [] = tt
lines_uncut (x ∷ []) = tt
lines_uncut (x ∷ y ∷ []) = tt
lines_uncut (x ∷ y ∷ z ∷ numbers) = uncut_both (line_of x y z) (lines_of numbers) (line_uncut x y z) (lines_uncut numbers)

pub text_uncut : (numbers : List ℤ) → Uncut 44 (off_text numbers)
text_uncut numbers =
    uncut_both (head_of (length numbers / 3)) (lines_of numbers)
    (uncut_both (79 ∷ 70 ∷ 70 ∷ 10 ∷ digits_of (length numbers / 3)) (32 ∷ 48 ∷ 32 ∷ 48 ∷ 10 ∷ [])
    ((λ e. omega arith), ((λ e. omega arith), ((λ e. omega arith), ((λ e. omega arith), above_uncut (digits_of (length numbers / 3)) (count_above (length numbers / 3))))))
    ((λ e. omega arith), ((λ e. omega arith), ((λ e. omega arith), ((λ e. omega arith), ((λ e. omega arith), tt))))))
    (lines_uncut numbers)

-- The bytes of a word that a text starts with, as far as the first byte that belongs to no word; digits, byte by byte; and that no word is left.
use Rattle.std.specs.Prelude.{ℕ, suc, ◌+◌, ◌-◌, ◌*◌, ◌≤◌, ◌≡◌, refl, Bool, true, false, not, cond, ◌&&◌, List, [], ◌∷◌, Option, Some, None, MatchOption, T, length, position}
use Rattle.std.proofs.Common.{sym, subst, arith, nat_lt, ltb-false, Bor}
use Rattle.std.specs.Char.{is_ascii_digit}
use Rattle.std.specs.List.{list_all, position_or_len}
use Rattle.std.specs.Option.{unwrap_or, is_some}
use Rattle.limits.specs.Decides.{Decides}
use Rattle.limits.specs.DecidesLaws.{holds, fails}
use Rattle.text_digits.specs.Decimal.{Digit, Digits}
use Rattle.text_digits.specs.DecimalLaws.{number_after}
use Rattle.off_text.specs.Off.{words_in}
use Rattle.off_text.specs.Walk.{plain, run, NextAs}
use Rattle.off_text.specs.FaceLaws.{none_next}

run_length : (s : List ℕ) → position_or_len (λ b. not (plain b)) s ≡ length (run s)
unfolding run
run_length [] = refl
run_length (b ∷ s) = go (plain b) refl (run_length s)
  where
    go : (t : Bool) → plain b ≡ t → position_or_len (λ b. not (plain b)) s ≡ length (run s) → position_or_len (λ b. not (plain b)) (b ∷ s) ≡ length (cond t (b ∷ run s) [])
    go true e h = rw e (omega (arith, h))
    go false e h = rw e

run_few : (s : List ℕ) → length (run s) ≤ length s
unfolding run
run_few [] = omega arith
run_few (b ∷ s) = go (plain b) (run_few s)
  where
    go : (t : Bool) → length (run s) ≤ length s → length (cond t (b ∷ run s) []) ≤ suc (length s)
    go true h = omega arith
    go false h = omega arith

-- where the first byte stands that belongs to no word, or the text's length
pub run_position : (s : List ℕ) → unwrap_or (position (λ b. not (plain b)) s) (length s) ≡ length (run s)
run_position s = go (position_or_len (λ b. not (plain b)) s) (nat_lt (position_or_len (λ b. not (plain b)) s) (length s)) refl (run_length s)
  where
    go : (n : ℕ) (t : Bool) → nat_lt n (length s) ≡ t → n ≡ length (run s) → unwrap_or (cond t (Some n) None) (length s) ≡ length (run s)
    go n true e h = h
    go n false e h = omega (arith, ltb-false n (length s) e, h, run_few s)

digit_told : (b : ℕ) → Decides (is_ascii_digit b) (Digit b)
digit_told b = record { yes = λ e. grind arith; no = λ e d. grind arith }

pub digits_told : (s : List ℕ) → Decides (list_all is_ascii_digit s) (Digits s)
digits_told [] = holds refl tt
digits_told (b ∷ s) = go (is_ascii_digit b) (list_all is_ascii_digit s) (digit_told b) (digits_told s)
  where
    go : (x y : Bool) → Decides x (Digit b) → Decides y (Digits s) → Decides (x && y) (Digit b × Digits s)
    go true true d e = holds refl (d.yes refl, e.yes refl)
    go true false d e = fails refl (λ h. e.no refl h.1)
    go false y d e = fails refl (λ h. d.no refl h.0)

-- a number only grows with more digits behind it
pub number_grows : (v : ℕ) (ds : List ℕ) → v ≤ number_after v ds
unfolding number_after
number_grows v [] = omega arith
number_grows v (d ∷ ds) = omega (arith, number_grows (v * 10 + (d - 48)) ds)

-- no word is left where none is handed back
pub nothing_left : (s t : List ℕ) (r : Option (Bor (List ℕ))) (b : Bool) → MatchOption r (words_in s ≡ []) (λ w. NextAs s w.now t) → is_some r ≡ not b → Decides b (words_in s ≡ [])
nothing_left s t None true n e = holds refl n
nothing_left s t None false n e = absurd (subst T (sym e) tt)
nothing_left s t (Some w) true n e = absurd (subst T e tt)
nothing_left s t (Some w) false n e = fails refl (none_next n)

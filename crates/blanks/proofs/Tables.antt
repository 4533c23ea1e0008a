-- Writing a table's letters one after the other, as the sizes that they stand for.
-- What stands in the room after i letters is a function of the table's first i letters, whatever the table.
use Prim.Native.Nat.{ℕ, zero, suc, ◌+◌, ◌<◌}
use mathlib.Core.Path.{◌≡◌, refl, ap, ◌∙◌}
use mathlib.Core.List.{List, [], ◌∷◌, ◌++◌, append_assoc}
use native.Mathlib.Omega.{arith}
use native.Mathlib.Numerals.{add-one}
use native.Mathlib.Nat.{le_of_suc-le-suc, not-suc-le-zero}
use lib.IntN.{ℤ, pos}
use lib.ListN.{length, get_or, set, take, drop}
use lib.Seq.{drop-cons, set_at, length-take-le}
use Rattle.blanks.specs.Chosen.{chosen, chosen_all}

module _ (w d h : ℤ) where
  length_chosen : (ks : List ℕ) → length (chosen_all ks w d h) ≡ length ks
  length_chosen [] = refl
  length_chosen (k ∷ ks) = ap suc (length_chosen ks)

  chosen_more : (ks : List ℕ) (i : ℕ) → i < length ks → chosen_all (take (suc i) ks) w d h ≡ chosen_all (take i ks) w d h ++ (chosen w d h (get_or ks i 0) ∷ [])
  chosen_more [] i l = absurd (not-suc-le-zero l)
  chosen_more (k ∷ ks) zero l = refl
  chosen_more (k ∷ ks) (suc i) l = ap (λ (r : List ℤ). chosen w d h k ∷ r) (chosen_more ks i (le_of_suc-le-suc l))

  -- i numbers stand at the room's start, and one more is written behind them
  pub one_more : (ks : List ℕ) (before room : List ℤ) (i : ℕ) → i < length ks → i < length before → room ≡ chosen_all (take i ks) w d h ++ drop i before
      → set room i (chosen w d h (get_or ks i 0)) ≡ chosen_all (take (i + 1) ks) w d h ++ drop (i + 1) before
  one_more ks before room i l m e =
      let p = chosen_all (take i ks) w d h in
      let v = chosen w d h (get_or ks i 0) in
      let n : length p ≡ i = length_chosen (take i ks) ∙ length-take-le i ks (omega arith) in
      ap (λ (r : List ℤ). set r i v) (e ∙ ap (λ (r : List ℤ). p ++ r) (drop-cons before i (pos 0) m))
      ∙ set_at p (get_or before i (pos 0)) (drop (suc i) before) v i n
      ∙ rw (add-one, chosen_more ks i l, append_assoc)

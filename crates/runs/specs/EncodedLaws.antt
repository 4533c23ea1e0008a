-- Laws of a run as numbers: what a code takes of the corner numbers, and how one code follows another.
-- They are told of parts that are lent on, as a loop over the codes has them.
use Rattle.std.specs.Prelude.{◌≡◌, refl, ◌≢◌, List, [], ◌++◌, ℤ, pos, negsuc, Some, None, length, take, drop}
use Rattle.std.proofs.Math.Path.{sym, ap₂}
use Rattle.std.proofs.Common.{ap, ◌∙◌, arith, add-one, length-append, length-take, length-drop}
use Prim.Native.Nat.{ℕ, zero, suc, ◌+◌, ◌-◌, ◌*◌, ◌/◌, ◌≤◌, ◌<◌}
use Rattle.ints.specs.Cases.{by_less}
use Rattle.pieces.specs.Index.{Indexed}
use Rattle.runs.specs.Encoded.{code_numbers, number_in, commands_of, commands_in, took, took_by, code_at, used_to, numbers_at, told_to}

-- a kind that is no command's
pub passed_over : (kind p s t x y z : ℤ) (numbers : List ℤ) → kind ≢ pos 0 → kind ≢ pos 1 → kind ≢ pos 2 → kind ≢ pos 3 → kind ≢ pos 4 → kind ≢ pos 5 → commands_of kind p s t x y z numbers ≡ []
passed_over (pos zero) p s t x y z numbers a b c d e f = absurd (a refl)
passed_over (pos (suc zero)) p s t x y z numbers a b c d e f = absurd (b refl)
passed_over (pos (suc (suc zero))) p s t x y z numbers a b c d e f = absurd (c refl)
passed_over (pos (suc (suc (suc zero)))) p s t x y z numbers a b c d e f = absurd (d refl)
passed_over (pos (suc (suc (suc (suc zero))))) p s t x y z numbers a b c d e f = absurd (e refl)
passed_over (pos (suc (suc (suc (suc (suc zero)))))) p s t x y z numbers a b c d e f = absurd (f refl)
passed_over (pos (suc (suc (suc (suc (suc (suc n))))))) p s t x y z numbers a b c d e f = refl
passed_over (negsuc n) p s t x y z numbers a b c d e f = refl

-- ---- the code's count as an index
pub took_some : (z : ℤ) (left : ℕ) {i : ℕ} → Indexed left z (Some i) → i ≡ took z left
took_some (pos n) left x = let h = x.0.below in omega (arith, x.1)
took_some (negsuc n) left x = absurd (let e = x.0.natural in let k : ◌≡◌ {A = ℕ} 0 1 = cc in omega arith)

pub took_rest : (z : ℤ) (left : ℕ) → Indexed left z None → left ≡ took z left
took_rest (pos n) left x = by_less n left (λ l. absurd (x (record { natural = refl; below = l }))) (λ l. omega arith)
took_rest (negsuc n) left x = refl

-- ---- what the first codes take and tell
took_most : (z : ℤ) (left : ℕ) → took z left ≤ left
took_most (pos n) left = omega arith
took_most (negsuc n) left = omega arith

pub used_most : (codes : List ℤ) (all i : ℕ) → used_to codes all i ≤ all
unfolding used_to
used_most codes all zero = omega arith
used_most codes all (suc i) = let h = used_most codes all i in let k = took_most (number_in (code_at codes i) 7) (all - used_to codes all i) in omega arith

one_each : (kind p s t x y z : ℤ) (numbers : List ℤ) → length (commands_of kind p s t x y z numbers) ≤ 1
one_each (pos zero) p s t x y z numbers = omega arith
one_each (pos (suc zero)) p s t x y z numbers = omega arith
one_each (pos (suc (suc zero))) p s t x y z numbers = omega arith
one_each (pos (suc (suc (suc zero)))) p s t x y z numbers = omega arith
one_each (pos (suc (suc (suc (suc zero))))) p s t x y z numbers = omega arith
one_each (pos (suc (suc (suc (suc (suc zero)))))) p s t x y z numbers = omega arith
one_each (pos (suc (suc (suc (suc (suc (suc n))))))) p s t x y z numbers = omega arith
one_each (negsuc n) p s t x y z numbers = omega arith

pub told_few : (codes numbers : List ℤ) (i : ℕ) → length (told_to codes numbers i) ≤ i
unfolding told_to
told_few codes numbers zero = omega arith
told_few codes numbers (suc i) =
    let code = code_at codes i in
    let h = told_few codes numbers i in
    let k = one_each (number_in code 0) (number_in code 1) (number_in code 2) (number_in code 3) (number_in code 4) (number_in code 5) (number_in code 6) (numbers_at codes numbers i) in
    omega (arith, length-append (commands_in code (numbers_at codes numbers i)) (told_to codes numbers i))

pub took_few : (code : List ℤ) (left n : ℕ) → n ≡ took_by code left → n ≤ left
took_few code left n e = let k = took_most (number_in code 7) left in omega arith

pub code_length : (codes : List ℤ) (i : ℕ) → i < length codes / code_numbers → code_numbers ≤ length (code_at codes i)
code_length codes i h = simp (length-take, length-drop) (omega arith)

-- ---- from one code to the next: the parts that are lent on
pub code_is : (codes : List ℤ) (i : ℕ) → take (code_numbers * i + code_numbers - code_numbers * i) (drop (code_numbers * i) codes) ≡ code_at codes i
code_is codes i = let e : code_numbers * i + code_numbers - code_numbers * i ≡ code_numbers = omega arith in ap (λ n. take n (drop (code_numbers * i) codes)) e

module _ (codes : List ℤ) (all i used n : ℕ) (code : List ℤ) (is : code ≡ code_at codes i) (u : used ≡ used_to codes all i) (t : n ≡ took_by code (all - used)) where
  took_is : n ≡ took_by (code_at codes i) (all - used_to codes all i)
  took_is = t ∙ ap (λ (l : List ℤ). took_by l (all - used)) is ∙ ap (λ m. took_by (code_at codes i) (all - m)) u

  pub used_next : used + n ≡ used_to codes all (i + 1)
  unfolding used_to
  used_next = ap₂ ◌+◌ u took_is ∙ sym (ap (used_to codes all) (add-one i))

pub part_is_lem : (codes numbers : List ℤ) (i used n : ℕ) (code : List ℤ) → code ≡ code_at codes i → used ≡ used_to codes (length numbers) i → n ≡ took_by code (length numbers - used)
    → take (used + n - used) (drop used numbers) ≡ numbers_at codes numbers i
part_is_lem codes numbers i used n code is u t =
    let e : used + n - used ≡ n = omega arith in
    ap₂ (λ k l. take k (drop l numbers)) (e ∙ took_is codes (length numbers) i used n code is u t) u

pub used_first : (codes : List ℤ) (all : ℕ) → 0 ≡ used_to codes all 0
unfolding used_to
used_first codes all = refl

pub told_next : (codes numbers : List ℤ) (i : ℕ) → told_to codes numbers (i + 1) ≡ commands_in (code_at codes i) (numbers_at codes numbers i) ++ told_to codes numbers i
unfolding told_to
told_next codes numbers i = ap (told_to codes numbers) (add-one i)

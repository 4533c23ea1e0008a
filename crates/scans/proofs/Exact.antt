-- Steps divided by 64 are a float exactly: the division rounds to what it already is.
-- And what the two tests of a range say of a number's size.
use Prim.Native.Nat.{ℕ, suc, ◌+◌, ◌*◌, ◌^◌, ◌≤◌, ◌<◌}
use mathlib.Core.Path.{◌≡◌, refl, sym, ap, ◌∙◌, subst}
use mathlib.Core.Bool.{Bool, true, false}
use mathlib.Core.Logic.{inl, inr}
use native.Mathlib.Omega.{arith}
use native.Mathlib.Nat.{mul-one, mul_assoc, mul_right_comm, lt_of_le_of_lt, mul-le-mul_right}
use Rattle.std.specs.Ordering.{is_le, int_cmp}
use Rattle.std.proofs.Common.{Less, Greater, Equal, cond, ltb, leb, ◌&&◌}
use Rattle.std.proofs.lemmas.Bool.Decides.{nat_tests}
use lib.Dec.{T, le→leb, lt→ltb, lit<}
use lib.IntN.{ℤ, pos, negsuc, nat_abs}
use lib.Pow.{pow-add, pow-lt}
use lib.Ieee.{Float, nan, inf, fin, up, down, unlike, round, div, of_int, in_float, fits, binary32}
use lib.Ieee.Fits.{down_pos, div-fits}
use lib.Ieee.Exact.{HasValue, round_exact}
use lib.Ieee.Back.{round_whole}
use lib.Ieee.Scale.{round_same}
use Rattle.scans.specs.Floats.{InSteps}
use Rattle.scans.specs.Shown.{plus_zero, ShownAs}
use Rattle.scans.specs.Signs.{below, own}
use Rattle.scans.proofs.Sized.{of_value, resized, in_steps_lem}

-- 64, as the code writes it
abbrev sixty_four : Float
sixty_four = fin false 1 (pos 6)

-- a float that is n, divided by 64, is the fraction n / 64 rounded
divided : (x : Float) (s : Bool) (n : ℕ) → HasValue x s n 1 → div binary32 x sixty_four ≡ round binary32 s n 64
unfolding div
divided nan s n v = absurd v
divided (inf t) s n v = absurd v
divided (fin t m e) s n v =
    ap (λ (b : Bool). round binary32 b (m * up e * 1) (1 * 64 * down e)) (alone t ∙ v.0)
    ∙ round_same binary32 s (m * up e * 1) (1 * 64 * down e) n 64 (over (down_pos e)) (lit< tt)
    (ap (λ (k : ℕ). k * 64) v.1 ∙ mul_right_comm n (down e) 64 ∙ mul_assoc n 64 (down e))
  where
    alone : (t : Bool) → unlike t false ≡ t
    alone true = refl
    alone false = refl

    over : {d : ℕ} → 0 < d → 0 < 1 * 64 * d
    over h = omega arith

as_float : (z : ℤ) → nat_abs z ≤ 131072 → HasValue (of_int binary32 z) (below z) (nat_abs z) 1
unfolding of_int
as_float (pos n) h = round_whole binary32 false n (omega arith)
as_float (negsuc n) h = round_whole binary32 true (suc n) (omega arith)

pub in_float_lem : (z : ℤ) → nat_abs z ≤ 131072 → T (in_float binary32 z)
unfolding in_float
in_float_lem (pos n) h = le→leb n 16777216 (omega arith)
in_float_lem (negsuc n) h = lt→ltb n 16777216 (omega arith)

-- n / 64 is n times 2 ^ 143 of the smallest floats, and n has few digits
no_rounding : (s : Bool) (n : ℕ) → n ≤ 131072 → HasValue (round binary32 s n 64) s n 64
no_rounding s n h =
    round_exact binary32 s n 64 n 143 (lit< tt) (omega arith)
    (lt_of_le_of_lt (mul-le-mul_right (2 ^ 143) h) (subst (λ (x : ℕ). x < 2 ^ (149 + 128)) (pow-add 2 17 143) (pow-lt {i = 160} {j = 277} (lit< tt))))
    (sym (mul_assoc n (2 ^ 143) 64))

exactly : (z : ℤ) → nat_abs z ≤ 131072 → InSteps (div binary32 (of_int binary32 z) sixty_four) z
exactly z h =
    subst (λ (x : Float). InSteps x z) (sym (divided (of_int binary32 z) (below z) (nat_abs z) (as_float z h)))
    (subst (InSteps (round binary32 (below z) (nat_abs z) 64)) (own z)
    (in_steps_lem (resized (nat_abs z) 1 (lit< tt) (mul-one (nat_abs z * 64)) (of_value (round binary32 (below z) (nat_abs z) 64) (below z) (nat_abs z) 64 (no_rounding (below z) (nat_abs z) h)))))

plus_zero_lem : div binary32 (of_int binary32 (pos 0)) sixty_four ≡ plus_zero
unfolding div of_int
plus_zero_lem = refl

pub shown_as : (z : ℤ) → nat_abs z ≤ 131072 → ShownAs z (record { number = 0; value = div binary32 (of_int binary32 z) sixty_four })
shown_as z h = record {
  number = inr ((λ l. omega arith), refl);
  held = div-fits binary32 (of_int binary32 z) sixty_four;
  exact = λ _. exactly z h;
  plus = λ e. ap (λ (z : ℤ). div binary32 (of_int binary32 z) sixty_four) e ∙ plus_zero_lem;
  zero = λ f. absurd (f refl);
}

pub out_of_range : (z : ℤ) → 131072 < nat_abs z → ShownAs z (record { number = 20; value = plus_zero })
unfolding fits
out_of_range z h = record {
  number = inl (h, refl);
  held = tt;
  exact = λ e. absurd (omega arith);
  plus = λ _. refl;
  zero = λ _. refl;
}

-- ---- the range, by its two ends
at_most : (m n : ℕ) → is_le (cond (ltb m n) Less (cond (ltb n m) Greater Equal)) ≡ leb m n
at_most m n = grind (arith, nat_tests)

pub in_reach : (z : ℤ) → is_le (int_cmp (negsuc 131071) z) && is_le (int_cmp z (pos 131072)) ≡ leb (nat_abs z) 131072
in_reach (pos n) = at_most n 131072
in_reach (negsuc n) = and_true (is_le (int_cmp (negsuc 131071) (negsuc n))) ∙ at_most n 131071 ∙ one_more
  where
    and_true : (b : Bool) → b && true ≡ b
    and_true true = refl
    and_true false = refl

    one_more : leb n 131071 ≡ leb (suc n) 131072
    one_more = grind (arith, nat_tests)

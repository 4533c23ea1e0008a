-- `line_read::floats::float_of` meets its contract. Without its sign, a pattern above an infinity's is not a number's, and only such a one is.
use Prim.Native.Nat.{ℕ, ◌%◌, ◌<◌, ◌≤◌}
use mathlib.Core.Path.{◌≡◌, refl, sym, ◌∙◌, subst}
use mathlib.Core.Bool.{not}
use native.Mathlib.Omega.{arith}
use lib.Dec.{T, lt→ltb, ltb→lt, not_T}
use lib.Ieee.{Float, nan, inf, fin, binary32, is_nan, of_bits, nan_bits, div}
use lib.Ieee.Bits.{nan_bits_is, nan_bits_above}
use Rattle.line_read.proofs.floats.float_of.Goals as goal

no_number_lem : (x : Float) → T (is_nan x) → nan ≡ x
unfolding is_nan
no_number_lem nan t = refl
no_number_lem (inf s) t = absurd t
no_number_lem (fin s m e) t = absurd t

above : (n : ℕ) → 2139095040 < n % 2147483648 → nan ≡ of_bits binary32 n
above n l = no_number_lem (of_bits binary32 n) (subst T (sym (nan_bits_above binary32 n) ∙ nan_bits_is binary32 n) (lt→ltb 2139095040 (n % 2147483648) l))

up_to : (n : ℕ) → n % 2147483648 ≤ 2139095040 → T (not (nan_bits binary32 n))
up_to n l = not_T (nan_bits binary32 n) (λ t. let k = ltb→lt 2139095040 (n % 2147483648) (subst T (nan_bits_above binary32 n) t) in omega arith)

pub returns-then-pattern-gt-INFINITY : goal.returns-then-pattern-gt-INFINITY
unfolding div of_bits
returns-then-pattern-gt-INFINITY c = above c.args.pattern c.if-pattern-gt-INFINITY.true

pub float_from_bits-result : goal.float_from_bits-result
float_from_bits-result c = up_to c.args.pattern c.if-pattern-gt-INFINITY.false

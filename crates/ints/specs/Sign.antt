-- Signs. `Same t u`: t and u have one sign. `lex u v` is u, or v where u is 0. A number k a + b, with b smaller than k, has the sign of lex a b.
use Rattle.std.specs.Prelude.{◌≡◌, zero, suc, ℤ, pos, negsuc, neg_ℤ, ◌<ℤ◌}

pub record Same (t u : ℤ) : Type 0 where
  pub down : u <ℤ pos 0 → t <ℤ pos 0
  pub none : u ≡ pos 0 → t ≡ pos 0
  pub up : pos 0 <ℤ u → pos 0 <ℤ t

-- ---- lex
unfoldable pub lex : ℤ → ℤ → ℤ
lex (pos zero) v = v
lex (pos (suc n)) v = pos (suc n)
lex (negsuc n) v = negsuc n

-- ---- L2
-- b is smaller than k, on both sides
pub record Under (k b : ℤ) : Type 0 where
  pub over : neg_ℤ k <ℤ b
  pub below : b <ℤ k

-- What a signed term is worth, by its shape: the rules that `search known` uses. The rules themselves stand in specs/Bounds.
use Rattle.std.specs.Prelude.{ℤ, neg_ℤ, ◌-ℤ◌}
use Rattle.ints.specs.Bounds.{Known, k_back, k_add, k_mul, k_neg, k_lit_pos, k_lit_neg, k_within, k_abs, k_fits}

abbrev pub k_sub : (a b : ℤ) → Known a → Known b → Known (a -ℤ b)
k_sub a b p q = k_add a (neg_ℤ b) p (k_neg b q)

pub ruleset known = (k_back, k_sub, k_add, k_mul, k_neg, k_lit_pos, k_lit_neg, k_within, k_abs, k_fits)

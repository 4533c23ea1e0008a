-- `pattern` meets its contract: what is not a number has one pattern of ours, and every other float has its own.
use Rattle.std.specs.Prelude.{◌≡◌, refl, true, T, Float}
use Rattle.std.specs.Float.{nan, inf, fin, binary32}
use lib.Ieee.{to_bits, of_bits, is_nan}
use Rattle.std.specs.Float.Ieee.Bits.{of_bits-to_bits}
use Rattle.std.proofs.Common.{sym, subst}
use Rattle.scans.specs.Shown.{PatternOf}
use Rattle.scans.proofs.pattern.Goals as goal

nan_pattern : (x : Float) → true ≡ is_nan x → PatternOf x 2143289344
unfolding to_bits of_bits is_nan
nan_pattern nan e = record { written = refl; read = refl }
nan_pattern (inf s) e = absurd (subst T e tt)
nan_pattern (fin s m e) h = absurd (subst T h tt)

pub returns-then-is_nan : goal.returns-then-is_nan
returns-then-is_nan c = nan_pattern c.args.x c.if-is_nan.ensures.value

pub returns-else-is_nan : goal.returns-else-is_nan
returns-else-is_nan c =
    let x = c.args.x in
    record { written = refl; read = of_bits-to_bits binary32 x (subst T (sym c.well_formed.0.1) tt) }

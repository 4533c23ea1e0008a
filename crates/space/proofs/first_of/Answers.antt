-- `space::first_of`: the test for 0 compares bits, and equal bits are equal numbers.
use mathlib.Core.Path.{sym, ◌∙◌}
use lib.IntN.{pos}
use mir.Syntax.{w64}
use mir.Facts.{sfits_lit}
use Rattle.ints.proofs.Tests.{same_bits, other_bits}
use Rattle.ints.proofs.SignLaws.{lex_zero, lex_other}
use Rattle.ints.specs.Bounds.{worth}
use Rattle.ints.proofs.Known.{known}
use Rattle.space.proofs.first_of.Goals as goal

pub returns-then-u-eq0 : goal.returns-then-u-eq0
returns-then-u-eq0 c = worth (search known depth 9) tt ∙ sym (lex_zero _ (same_bits {w = w64} c.ranges.u (sfits_lit tt) c.if-u-eq0.true))

pub returns-else-u-eq0 : goal.returns-else-u-eq0
returns-else-u-eq0 c = worth (search known depth 9) tt ∙ sym (lex_other _ (other_bits w64 _ (pos 0) c.if-u-eq0.false))

-- `below` meets its contract. The invariant: what is left of the word is digits that name the word's number behind the value so far, which is below the bound.
use Prim.Native.Nat.{◌<◌}
use mathlib.Core.Path.{◌≡◌}
use lib.ListN.{drop}
use Rattle.text_digits.specs.Decimal.{Digits, number}
use Rattle.text_digits.specs.DecimalLaws.{number_after}
use Rattle.off_text.proofs.below.Given as goal

abbrev pub invariant-loop-b : goal.invariant-loop-b
invariant-loop-b l = Digits (drop l.b-index l.word) × (number l.word ≡ number_after l.value (drop l.b-index l.word)) × (0 < l.b-index → l.value < l.bound)

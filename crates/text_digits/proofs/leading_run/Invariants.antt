-- `text_digits::leading_run` meets its contract. The invariant: the digits from the index on, with those counted, are all of them, and the number
-- that they name behind the value so far is the whole number, each cut.
use Rattle.std.proofs.Common.{◌≡◌, ◌≤◌, ◌+◌, min, length, drop}
use Rattle.text_digits.specs.Decimal.{number, cut}
use Rattle.text_digits.specs.DecimalLaws.{leading, number_after}
use Rattle.text_digits.proofs.leading_run.Given as goal

abbrev pub invariant-loop-count : goal.invariant-loop-count
invariant-loop-count l =
    (l.value ≤ cut)
    × (length (leading l.text) ≡ l.count + length (leading (drop l.count l.text)))
    × (min (number (leading l.text)) cut ≡ min (number_after l.value (leading (drop l.count l.text))) cut)

-- `text_number::magnitude` meets its contract. The invariant: what is left is digits exactly when the word is, and the number that it names
-- behind the value so far is the word's.
use Rattle.std.proofs.Common.{◌≡◌, ◌<◌, ◌^◌, drop}
use Rattle.text_digits.specs.Decimal.{Digits, number}
use Rattle.text_digits.specs.DecimalLaws.{number_after}
use Rattle.text_number.proofs.magnitude.Given as goal

abbrev pub invariant-loop-b : goal.invariant-loop-b
invariant-loop-b l =
    (l.value < 10 ^ l.b-index)
    × (Digits l.word → Digits (drop l.b-index l.word))
    × (Digits (drop l.b-index l.word) → Digits l.word)
    × (number l.word ≡ number_after l.value (drop l.b-index l.word))

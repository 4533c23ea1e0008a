-- `text_hex::read_pattern` meets its contract. The invariant: what is left is hex digits exactly when the word is, and the number that it
-- names behind the value so far is the word's.
use Rattle.std.proofs.Common.{◌≡◌, ◌<◌, ◌^◌, drop}
use Rattle.text_hex.specs.Hex.{HexDigits, hex_number}
use Rattle.text_hex.specs.HexLaws.{hex_after}
use Rattle.text_hex.proofs.read_pattern.Given as goal

abbrev pub invariant-loop-digit : goal.invariant-loop-digit
invariant-loop-digit l =
    (l.value < 16 ^ l.digit-index)
    × (HexDigits l.word → HexDigits (drop l.digit-index l.word))
    × (HexDigits (drop l.digit-index l.word) → HexDigits l.word)
    × (hex_number l.word ≡ hex_after l.value (drop l.digit-index l.word))

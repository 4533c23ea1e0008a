-- `text_hex::decode` meets its contract. The invariant: the text's bytes before the index stand in the room.
use Rattle.std.proofs.Common.{◌≡◌, take}
use Rattle.text_hex.specs.Hex.{bytes_of}
use Rattle.text_hex.proofs.decode.Given as goal

abbrev pub invariant-loop-k : goal.invariant-loop-k
invariant-loop-k l = take l.k l.room ≡ take l.k (bytes_of l.word)

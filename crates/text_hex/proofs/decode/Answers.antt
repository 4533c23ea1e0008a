-- `text_hex::decode` meets its contract: each byte of the text is that of its two digits.
use Rattle.std.proofs.Common.{◌*◌, ◌+◌, add-one, arith}
use Rattle.std.proofs.Math.Seq.{take-suc, take-suc-set}
use Rattle.text_hex.specs.Hex.{bytes_of}
use Rattle.text_hex.specs.HexLaws.{digit_at, byte_at}
use Rattle.text_hex.proofs.decode.Goals as goal

pub byte-requires : goal.byte-requires
byte-requires c =
    let d = c.requires.digits (omega arith) in
    let k = c.loop-k.k in
    let s = c.args.word.now in
    record { high = digit_at s (k * 2) d (omega (arith, c.requires.long)); low = digit_at s (k * 2 + 1) d (omega (arith, c.requires.long)) }

pub loop-k-preserved : goal.loop-k-preserved
loop-k-preserved c =
    let k = c.loop-k.k in
    let s = c.args.word.now in
    let b = byte_at s k (omega (arith, c.requires.long)) in
    rw (add-one, take-suc-set c.loop-k.room k c.byte.result (omega arith), take-suc (bytes_of s) k 0 b.0, c.loop-k.invariant, b.1, c.byte.ensures)

-- `line::out::Out::text` meets its contract. The invariant: the bytes so far are put.
use Rattle.std.specs.Prelude.{take}
use Rattle.line.specs.Printed.{SameOut, PutsBytes}
use Rattle.line.proofs.out.Out.text.Given as goal

abbrev pub invariant-loop-byte : goal.invariant-loop-byte
invariant-loop-byte l = SameOut l.initial.self l.self × PutsBytes (take l.byte-index l.bytes) l.initial.self l.self

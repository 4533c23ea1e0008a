-- `line::out::Out::text` meets its contract: the bytes are put one after the other.
use Rattle.std.specs.Prelude.{ℕ, ◌≡◌, ◌==◌, List, length, take}
use Rattle.std.proofs.Common.{sym, ap, ◌∙◌, subst, arith, eqb-true, take_all}
use Rattle.std.proofs.lemmas.Bool.{false≢true}
use Rattle.line.specs.Printed.{PutsHex, PutsBytes, none}
use Rattle.line.specs.PrintedLaws.{same_first, same_then, byte_next}
use Rattle.line.proofs.out.Out.text.Goals as goal

pub loop-byte-init : goal.loop-byte-init
loop-byte-init c = (same_first, none)

pub loop-byte-preserved : goal.loop-byte-preserved
loop-byte-preserved c =
    let l = c.loop-byte in
    let byte = subst (λ (n : ℕ). PutsHex n 2 l.self c.hex.new.self) c.from.ensures c.hex.ensures.puts in
    (same_then l.invariant.0 c.hex.ensures.same, byte_next c.args.bytes.now l.byte-index c.loop-byte-test.true l.invariant.1 byte)

pub returns-then-is_empty-clause-puts : goal.returns-then-is_empty-clause-puts
returns-then-is_empty-clause-puts c =
    let none-left : length c.args.bytes.now ≡ 0 = eqb-true _ 0 (sym c.is_empty.ensures ∙ c.if-is_empty.true) in
    record { empty = λ e. c.put.ensures.puts; some = λ h. absurd (omega arith) }

pub returns-clause-puts : goal.returns-clause-puts
returns-clause-puts c =
    let l = c.loop-byte in
    let bytes = c.args.bytes.now in
    let all : take l.byte-index bytes ≡ bytes = take_all l.byte-index bytes c.loop-byte-test.false in
    record {
      empty = λ e. absurd (false≢true (sym c.if-is_empty.false ∙ c.is_empty.ensures ∙ ap (λ (s : List ℕ). length s == 0) e));
      some = λ h. subst (λ (s : List ℕ). PutsBytes s c.args.self.now l.self) all l.invariant.1;
    }

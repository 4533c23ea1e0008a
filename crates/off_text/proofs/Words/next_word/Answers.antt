-- `Words::next_word` meets its contract: from where a word starts to where its bytes end (WalkLaws).
use borrow.Author.Tests.{eqb-true, eqb-false}
use Prim.Native.Nat.{◌<◌}
use mathlib.Core.Path.{refl, sym, ap, ◌∙◌}
use lib.ListN.{length, drop}
use native.Mathlib.Omega.{arith}
use Rattle.off_text.specs.WalkLaws.{next-is, none-is, behind_on}
use Rattle.off_text.proofs.RunLaws.{run_position}
use Rattle.off_text.proofs.Words.next_word.Goals as goal

pub returns-then-is_empty-clause-behind : goal.returns-then-is_empty-clause-behind
returns-then-is_empty-clause-behind c = (0, refl)

pub returns-then-is_empty-clause-next : goal.returns-then-is_empty-clause-next
returns-then-is_empty-clause-next c = none-is c.word_start-start.ensures (eqb-true _ 0 (sym c.if-is_empty.ensures))

pub returns-then-is_empty-clause-rest : goal.returns-then-is_empty-clause-rest
returns-then-is_empty-clause-rest c = let e = none-is c.word_start-start.ensures (eqb-true _ 0 (sym c.if-is_empty.ensures)) in e ∙ ap (drop 1) (sym e)

pub returns-clause-next : goal.returns-clause-next
returns-clause-next c =
    let some : 0 < length c.word_start-start.result.now = omega (arith, eqb-false _ 0 (sym c.if-is_empty.ensures)) in
    let n = c.unwrap_or.ensures ∙ rw c.word_end.ensures (run_position c.word_start-start.result.now) in
    next-is c.word_start-start.ensures some n c.split_at.ensures.front c.split_at.ensures.back

pub returns-clause-behind : goal.returns-clause-behind
returns-clause-behind c = behind_on c.word_start-start.ensures.behind (_, c.split_at.ensures.back)

pub returns-clause-rest : goal.returns-clause-rest
returns-clause-rest c =
    let some : 0 < length c.word_start-start.result.now = omega (arith, eqb-false _ 0 (sym c.if-is_empty.ensures)) in
    let n = c.unwrap_or.ensures ∙ rw c.word_end.ensures (run_position c.word_start-start.result.now) in
    ap (drop 1) (sym (next-is c.word_start-start.ensures some n c.split_at.ensures.front c.split_at.ensures.back).words)

-- `write` meets its contract: each word is there, and is steps (RoomLaws).
use Prim.Native.Nat.{ℕ}
use borrow.Author.Rules.{rules}
use mathlib.Core.List.{List}
use mathlib.Core.Path.{refl, sym, ◌∙◌, subst}
use mir.Facts.{to_z-of_z}
use mir.Syntax.{w32}
use mir.Val.{SFits}
use native.Mathlib.Omega.{arith}
use lib.ListN.{length-set}
use Rattle.std.proofs.Common.{Ok}
use Rattle.off_number.specs.OffNumber.{InSteps, NumberReadAs, number_read_of}
use Rattle.off_text.specs.FaceLaws.{word-is, word_none, words_after}
use Rattle.off_text.specs.Off.{words_in}
use Rattle.off_read.specs.Passes.{Taken}
use Rattle.off_read.proofs.RoomLaws.{written_more, taken_some, word_there, taken_steps}
use Rattle.off_read.proofs.write.Goals as goal

pub unwrap-requires : goal.unwrap-requires
unwrap-requires c =
    let i = c.loop-cell.cell-index in
    word_there _ _ c.next_word.result c.next_word.ensures.next (λ e. taken_some (subst Taken (word_none (words_in c.args.text.now) i _ c.loop-cell.invariant.0 e) (c.requires i c.loop-cell-test.true)))

pub unwrap-requires-in-loop-cell : goal.unwrap-requires-in-loop-cell
unwrap-requires-in-loop-cell c =
    let i = c.loop-cell.cell-index in
    let next = rw c.unwrap.ensures at c.next_word.ensures.next in
    let e = word-is (words_in c.args.text.now) i _ c.loop-cell.invariant.0 next in
    let steps = taken_steps c.read.result c.read.ensures (subst Taken (sym e) (c.requires i c.loop-cell-test.true)) in
    rw steps.1

pub loop-cell-preserved : goal.loop-cell-preserved
loop-cell-preserved c =
    let words = words_in c.args.text.now in
    let i = c.loop-cell.cell-index in
    let z = c.unwrap-in-loop-cell.result in
    let next = rw c.unwrap.ensures at c.next_word.ensures.next in
    let e = word-is words i _ c.loop-cell.invariant.0 next in
    let read : NumberReadAs c.unwrap.result.now (number_read_of (Ok z)) = subst (λ q. NumberReadAs c.unwrap.result.now (number_read_of q)) c.unwrap-in-loop-cell.ensures c.read.ensures in
    let fits : SFits w32 z = search rules in (
      words_after words i _ c.loop-cell.invariant.0 next,
      length-set c.loop-cell.room i _ ∙ c.loop-cell.invariant.1,
      rw (to_z-of_z fits) (written_more c.loop-cell.invariant.2 z (subst (λ (w : List ℕ). InSteps w z) e (read.steps refl)) (omega (arith, c.loop-cell-test.true))),
    )

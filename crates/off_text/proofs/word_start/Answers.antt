-- `word_start` meets its contract: what is passed belongs to no word (WalkLaws).
use mathlib.Core.Path.{sym, ap, ◌∙◌}
use Rattle.off_text.specs.Walk.{plain}
use Rattle.off_text.specs.WalkLaws.{words_on, behind_on}
use Rattle.off_text.proofs.word_start.Goals as goal

pub loop-b-preserved : goal.loop-b-preserved
loop-b-preserved c =
    let p = c.passed-rest.ensures in
    let other = ap plain (sym (c.in-Some.ensures.item.3.1 0)) ∙ sym c.in_word.ensures ∙ c.if-in_word.false in
    (behind_on c.loop-b.invariant.0 p.behind, c.loop-b.invariant.1 ∙ words_on p other)

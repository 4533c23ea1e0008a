-- `numbers` meets its contract. The invariant: the first i words are numbers, with their first refusal, the words that are left are those after them, and what is left is a rest of what was.
use mathlib.Core.Path.{◌≡◌}
use lib.ListN.{drop}
use Rattle.limits.specs.Refusals.{answer_number}
use Rattle.off_text.specs.Off.{words_in}
use Rattle.off_text.specs.Walk.{Behind}
use Rattle.off_read.specs.Passes.{NumbersJudged}
use Rattle.off_read.proofs.numbers.Given as goal

abbrev pub invariant-loop-i : goal.invariant-loop-i
invariant-loop-i l =
    (words_in l.words.rest.now ≡ drop l.i (words_in l.fn.words.rest.now))
    × NumbersJudged l.i (words_in l.fn.words.rest.now) (answer_number l.found)
    × Behind l.fn.words.rest.now l.words.rest.now

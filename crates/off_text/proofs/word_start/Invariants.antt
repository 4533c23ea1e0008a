-- `word_start` meets its contract. The invariant: the words of what is left are those of the text.
use mathlib.Core.Path.{◌≡◌}
use lib.ListN.{length}
use Rattle.off_text.specs.Off.{words_in}
use Rattle.off_text.specs.Walk.{Behind}
use Rattle.off_text.proofs.word_start.Given as goal

abbrev pub invariant-loop-b : goal.invariant-loop-b
invariant-loop-b l = Behind l.text l.rest × (words_in l.text ≡ words_in l.rest)

abbrev pub decreases-loop-b : goal.decreases-loop-b
decreases-loop-b l = length l.rest

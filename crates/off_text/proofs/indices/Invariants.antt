-- `indices` meets its contract. The invariant: the first i words name corners, the words that are left are those after them, and what is left is a rest of what was.
use mathlib.Core.Path.{◌≡◌}
use lib.ListN.{drop}
use Rattle.off_text.specs.Off.{words_in, EachWord, Names}
use Rattle.off_text.specs.Walk.{Behind}
use Rattle.off_text.proofs.indices.Given as goal

abbrev pub invariant-loop-i : goal.invariant-loop-i
invariant-loop-i l =
    EachWord (Names l.corners) l.i (words_in l.fn.words.rest.now)
    × (words_in l.words.rest.now ≡ drop l.i (words_in l.fn.words.rest.now))
    × Behind l.fn.words.rest.now l.words.rest.now

-- `faces` meets its contract. The invariant: the words are so many faces exactly where those that are left are the faces that are left; and what is left is a rest of what was.
use Prim.Native.Nat.{◌-◌}
use Rattle.off_text.specs.Off.{words_in, Faces}
use Rattle.off_text.specs.Walk.{Behind}
use Rattle.off_text.proofs.faces.Given as goal

abbrev pub invariant-loop-i : goal.invariant-loop-i
invariant-loop-i l =
    (Faces l.corners l.count (words_in l.fn.words.rest.now) → Faces l.corners (l.count - l.i) (words_in l.words.rest.now))
    × (Faces l.corners (l.count - l.i) (words_in l.words.rest.now) → Faces l.corners l.count (words_in l.fn.words.rest.now))
    × Behind l.fn.words.rest.now l.words.rest.now

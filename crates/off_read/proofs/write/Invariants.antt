-- `write` meets its contract. The invariant: the first words stand in the room, in steps, and the rest of it is as it was; and the words that are left are those after them.
use mathlib.Core.Path.{◌≡◌}
use lib.ListN.{length, drop}
use Rattle.off_text.specs.Off.{words_in}
use Rattle.off_read.specs.Corners.{WordsWritten}
use Rattle.off_read.proofs.write.Given as goal

abbrev pub invariant-loop-cell : goal.invariant-loop-cell
invariant-loop-cell l =
    (words_in l.words.rest.now ≡ drop l.cell-index (words_in l.text)) × (length l.room ≡ length l.initial.room) × WordsWritten (words_in l.text) l.cell-index l.initial.room l.room

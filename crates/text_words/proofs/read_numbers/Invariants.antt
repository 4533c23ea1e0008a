-- `text_words::read_numbers` meets its contract. The invariant: the words before the place are numbers, and they stand in the room (`Done`).
-- The measure is what is left of the line, with its end.
use Prim.Native.Nat.{◌+◌, ◌-◌}
use lib.ListN.{length, drop}
use Rattle.text_words.specs.ReadLaws.{Done}
use Rattle.text_words.proofs.read_numbers.Given as goal

abbrev pub invariant-loop-at : goal.invariant-loop-at
invariant-loop-at l = Done (drop l.start l.line) (drop l.at l.line) l.initial.room l.room l.n

abbrev pub decreases-loop-at : goal.decreases-loop-at
decreases-loop-at l = length l.line + 1 - l.at

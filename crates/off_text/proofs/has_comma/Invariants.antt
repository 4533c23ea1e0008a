-- `has_comma` meets its contract. The invariant: a comma stands outside comments in the whole text exactly where one does in what is left.
use lib.ListN.{length}
use Rattle.off_text.specs.Off.{CommaOutside}
use Rattle.off_text.proofs.has_comma.Given as goal

abbrev pub invariant-loop-b : goal.invariant-loop-b
invariant-loop-b l = (CommaOutside l.text → CommaOutside l.rest) × (CommaOutside l.rest → CommaOutside l.text)

abbrev pub decreases-loop-b : goal.decreases-loop-b
decreases-loop-b l = length l.rest

-- `collect` meets its contract. The invariant: the triangles before the position have been read, their lowest refusal and what is kept of them (ReadingLaws).
use Rattle.std.proofs.Common.{◌-◌, length}
use Rattle.scans_stl_corners.specs.Holding.{ReadUpTo, collected_of}
use Rattle.scans_stl_corners.proofs.collect.Given as goal

abbrev pub invariant-loop-at : goal.invariant-loop-at
invariant-loop-at l = ReadUpTo l.file l.at l.kept (collected_of l.collected).number (collected_of l.collected).count

abbrev pub decreases-loop-at : goal.decreases-loop-at
decreases-loop-at l = length l.file - l.at

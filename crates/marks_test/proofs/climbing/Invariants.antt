-- What is left to look at climbs from the least key that it may have.
use Rattle.std.proofs.Common.{◌≡◌, drop}
use Rattle.marks.specs.Keys.{key_of}
use Rattle.marks_test.specs.Tested.{climbs}
use Rattle.marks_test.proofs.climbing.Given as goal

abbrev pub invariant-loop-q : goal.invariant-loop-q
invariant-loop-q l = climbs (key_of l.keys) l.least (drop l.q-index l.part) ≡ climbs (key_of l.keys) 0 l.part

-- Each round counts one key.
use Rattle.std.proofs.Common.{◌≡◌, ◌≤◌, ltb, take, count_by}
use Rattle.marks.specs.Keys.{no_key}
use Rattle.marks_test.proofs.marks_in.Given as goal

abbrev pub invariant-loop-key : goal.invariant-loop-key
invariant-loop-key l = (l.n ≤ l.key-index) × (l.n ≡ count_by (λ x. ltb x no_key) (take l.key-index l.keys))

-- The move's count, worked out of keys; and how large it can be.
-- "It is at most 756." (document 01, "What the desk can be told"); "the move count's limit becomes 1,524" (W4)
use Rattle.std.specs.Prelude.{List, Bool, not, ℕ, ◌+◌, eqb, ltb, get_or}
use Rattle.std.proofs.Math.Bool.{cond, xor}
use Rattle.limits.specs.Limits
use Rattle.marks.specs.Marks.{mark_place}
use Rattle.ints.specs.Counts.{one_if, sum_to}
use Rattle.marks.specs.declared.MarkKeys.{MarkKeys}
use Rattle.marks.specs.Keys.{keys_at}

-- the same count with keys in the place of the order: how many of two marks, with keys that were and keys that are, change their order with a mark of these keys
abbrev pub crossed_by : MarkKeys → MarkKeys → ℕ → ℕ → ℕ
crossed_by was is before after = one_if (xor (ltb was.low before) (ltb is.low after)) + one_if (xor (ltb was.high before) (ltb is.high after))

abbrev pub crossed_with : List ℕ → List ℕ → MarkKeys → MarkKeys → ℕ → ℕ
crossed_with old new was is other = crossed_by was is (get_or old other 0) (get_or new other 0)

abbrev pub not_of : ℕ → ℕ → Bool
not_of place q = not (eqb (mark_place q) place)

-- no mark is asked whether it has a key: the moved place's marks have, before and after, and so come before all that have none
abbrev pub crossed_at : List ℕ → List ℕ → ℕ → ℕ → ℕ
crossed_at old new place other = cond (not_of place other) (crossed_with old new (keys_at old place) (keys_at new place) other) 0

unfoldable pub changed_keys : List ℕ → List ℕ → ℕ → ℕ
changed_keys old new place = sum_to Limits.axis_marks (crossed_at old new place)

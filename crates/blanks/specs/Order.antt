-- The refusals of a blank stand in rising order: so the first that applies is the lowest number that applies.
-- What follows from it: crate `limits`, LowestLaws.antt.
use Rattle.std.specs.Prelude.{List, ◌∷◌, ℕ, ◌<◌, ℤ, length}
use Rattle.limits.specs.Limits
use Rattle.limits.specs.Lowest.{Rising, ◌when◌}
use Rattle.scans.specs.declared.Point.{Point}
use Rattle.blanks.specs.Blanks.{size_refusals}

-- the list of `WrittenAs`; that of the sizes is its rest
pub blank_rise : (p : Point) (n : ℕ) (room : List ℤ) → Rising (Limits.short_room when (length room < n) ∷ size_refusals p)
blank_rise p n room = tt

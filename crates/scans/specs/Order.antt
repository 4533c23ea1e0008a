-- The refusals of a scan, of a point and of steps to show stand in rising order: so the first that applies is the lowest number that applies.
-- What follows from it: crate `limits`, LowestLaws.antt.
use Rattle.std.specs.Prelude.{[], ◌∷◌, ◌<◌, Float, ℤ, nat_abs}
use Rattle.limits.specs.Limits
use Rattle.limits.specs.Lowest.{Rising, ◌when◌}
use Rattle.scans.specs.Floats.{refusals}

-- of a float, of a point, of whatever holds floats
pub scan_rise : (of : (Float → Type 0) → Type 0) → Rising (refusals of)
scan_rise of = tt

-- the list of `ShownAs`
pub show_rise : (z : ℤ) → Rising (Limits.placed_range when (Limits.placed_reach < nat_abs z) ∷ [])
show_rise z = tt

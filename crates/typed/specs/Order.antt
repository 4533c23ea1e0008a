-- The refusals of a typed length stand in rising order: so the first that applies is the lowest number that applies.
-- What follows from it: crate `limits`, LowestLaws.antt.
use Rattle.std.specs.Prelude.{List, ℕ}
use Rattle.limits.specs.Lowest.{Rising}
use Rattle.typed.specs.TypedLength.{refusals}

pub typed_rise : (text : List ℕ) → Rising (refusals text)
typed_rise text = tt

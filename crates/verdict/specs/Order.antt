-- The refusals of two lent lists stand in rising order: so the first that applies is the lowest number that applies.
-- What follows from it: crate `limits`, LowestLaws.antt.
use Rattle.std.specs.Prelude.{ℤ}
use Rattle.limits.specs.Lowest.{Rising}
use Rattle.space.specs.Verdicts.{Piece}
use Rattle.verdict.specs.Answers.{refusals}

pub lists_rise : (gap : ℤ) (A B : Piece) → Rising (refusals gap A B)
lists_rise gap A B = tt

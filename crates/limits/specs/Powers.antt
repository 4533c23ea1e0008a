-- The two numbers that document 01 writes as powers are those powers: a direction's 2^39, a weight's 2^57.
-- Code holds nothing to compare them with, so that this law alone ties them to the document.
use Rattle.std.specs.Prelude.{◌≡◌, refl, ◌^◌}
use Rattle.limits.specs.Limits.{direction_reach, weight_most}

pub direction_reach_is : direction_reach ≡ 2 ^ 39
direction_reach_is = refl

pub weight_most_is : weight_most ≡ 2 ^ 57
weight_most_is = refl

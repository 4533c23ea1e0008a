-- When boxes are apart as document 01 had it before W6: with no gap between the pieces.
-- No proof stands here. That with g = 0 the definition of Boxes says the same is in NoGapLaws: "With g = 0 all of 01 as amended stands."
use Rattle.std.specs.Prelude.{◌⊎◌, ℕ, ◌<◌, ◌<ℤ◌}
use Rattle.pieces.specs.Pieces.{Store, low_at, high_at}

-- "on some axis one high mark's value is below the other's low"
abbrev pub PlainApart : Store → ℕ → ℕ → Type 0
PlainApart d p q = (axis : ℕ) × (axis < 3) × ((high_at d axis p <ℤ low_at d axis q) ⊎ (high_at d axis q <ℤ low_at d axis p))

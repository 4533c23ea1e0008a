-- When a row is right as document 01 had it before W6, with W5's verdicts: with no gap between the pieces.
-- No proof stands here. That with g = 0 the definition of Right says the same is in NoGapLaws: "With g = 0 all of 01 as amended stands."
use Rattle.std.specs.Prelude.{◌≡◌, ◌⊎◌, ℕ}
use Rattle.limits.specs.Limits
use Rattle.space.specs.NoGap.{PlainVerdict}
use Rattle.pieces.specs.Pieces.{Store, piece_at}
use Rattle.pieces.specs.NoGap.{PlainApart}

-- "A desk row is 0 exactly when on some axis one high mark's value is below the other's low; otherwise the row is the verdict."
abbrev pub PlainRight : Store → ℕ → ℕ → ℕ → Type 0
PlainRight d low high v = ((v ≡ Limits.apart) × PlainApart d low high) ⊎ ((PlainApart d low high → ⊥) × PlainVerdict (piece_at d low) (piece_at d high) v)

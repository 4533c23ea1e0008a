-- WHEN A ROW IS RIGHT, of two places of a store: by the boxes first, and else by the verdict of the two pieces.
-- Document 01, "The verdicts", with the gap of W6. The lower place is the first piece, which the gap widens.
use Rattle.std.specs.Prelude.{◌≡◌, ◌⊎◌, ℕ}
use Rattle.limits.specs.Limits
use Rattle.space.specs.Verdicts.{VerdictIs}
use Rattle.pieces.specs.Pieces.{Store, piece_at}
use Rattle.pieces.specs.Boxes.{Apart}

-- "A desk row is 0 exactly when on some axis one high mark's value is below the other's low; otherwise the row is the verdict."
-- W6: "The first piece (named first; in a row, the lower place) is treated as its corners plus all eight corners of the cube"; "Verdicts, boxes and witnesses follow"
abbrev pub RowRight : ℕ → Store → ℕ → ℕ → ℕ → Type 0
RowRight g d low high v = ((v ≡ Limits.apart) × Apart g d low high) ⊎ ((Apart g d low high → ⊥) × VerdictIs g (piece_at d low) (piece_at d high) v)

-- "With g = 0 all of 01 as amended stands": with no gap a row is right where document 01 has it so, both ways.
-- By what `pieces` and `space` say of boxes and verdicts with no gap.
use Rattle.std.proofs.Common.{⊎_elim, inl, inr}
use Rattle.std.specs.Prelude.{◌↔◌, ℕ}
use Rattle.space.proofs.NoGapLaws.{verdict_plain}
use Rattle.pieces.specs.Pieces.{Store, piece_at}
use Rattle.pieces.specs.NoGapLaws.{apart_plain}
use Rattle.rows_right.specs.Right.{RowRight}
use Rattle.rows_right.specs.NoGap.{PlainRight}

pub right_plain : (d : Store) (low high : ℕ) {v : ℕ} → (RowRight 0 d low high v ↔ PlainRight d low high v)
right_plain d low high = (
  ⊎_elim (λ a. inl (a.0, (apart_plain d low high).0 a.1)) (λ a. inr (λ k. a.0 ((apart_plain d low high).1 k), (verdict_plain (piece_at d low) (piece_at d high)).0 a.1)),
  ⊎_elim (λ a. inl (a.0, (apart_plain d low high).1 a.1)) (λ a. inr (λ k. a.0 ((apart_plain d low high).0 k), (verdict_plain (piece_at d low) (piece_at d high)).1 a.1)),
)

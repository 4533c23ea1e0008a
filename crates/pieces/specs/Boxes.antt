-- A piece of a store in order, what is read of it, and when the boxes of two pieces are apart.
-- Document 01: "on some axis one high mark's value is below the other's low". "Boxes that share a face are not apart." W6 adds the gap to the high mark, of either piece.
use Rattle.std.specs.Prelude.{◌≡◌, List, ◌⊎◌, ℕ, ◌-◌, ◌*◌, ◌<◌, take, drop, replicate, ℤ, pos, ◌+ℤ◌, ◌<ℤ◌}
use Rattle.limits.specs.Limits
use Rattle.pieces.specs.Pieces.{Store, Taken, PiecesInOrder, count_at, piece_at, low_at, high_at}

-- the piece at a taken place of a store in order
pub record PlacedPiece (d : Store) (p : ℕ) : Type 0 where
  pub order : PiecesInOrder d
  pub taken : Taken d.places p

-- its numbers stand in front of an array that is as long as the most corners want, and the rest is 0
pub record Numbers (d : Store) (p : ℕ) (r : List ℤ) : Type 0 where
  pub is : take (3 * count_at d p) r ≡ piece_at d p
  pub rest : drop (3 * count_at d p) r ≡ replicate (Limits.shape_numbers - 3 * count_at d p) (pos 0)

-- "one high mark's value is below the other's low"; W6: "boxes are apart where on some axis a high plus g is below the other's low". All marks stay unwidened
abbrev pub ApartOn : ℕ → Store → ℕ → ℕ → ℕ → Type 0
ApartOn g d p q axis = ((high_at d axis p +ℤ pos g) <ℤ low_at d axis q) ⊎ ((high_at d axis q +ℤ pos g) <ℤ low_at d axis p)

abbrev pub Apart : ℕ → Store → ℕ → ℕ → Type 0
Apart g d p q = (axis : ℕ) × (axis < 3) × ApartOn g d p q axis

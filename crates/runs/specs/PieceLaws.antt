-- The desk's pieces are the plan's: the same placed corners, the same ends, and so the same rows.
-- A row that is right for the pieces of a store is the row of their lists.
use Rattle.std.specs.Prelude.{◌≡◌, List, [], ◌∷◌, pos, nat_abs, length, get_or}
use Rattle.std.proofs.Common.{sym, ap₂, ◌∙◌, subst, inl, inr, arith}
use Rattle.std.proofs.Math.Path.{ap}
use Prim.Native.Nat.{ℕ, zero, suc, ◌+◌, ◌*◌, ◌/◌, ◌%◌, ◌<◌}
use Rattle.std.proofs.Math.IntN.{ℤ}
use Rattle.turns.specs.Turns.{placed_at}
use Rattle.pieces.specs.declared.placement.Placement.{Placement}
use Rattle.pieces.specs.Pieces.{Store, corners_of, shape_value, shape_at, offset_at, count_at, placed_corner, list_to, piece_at, least_to, greatest_to, low_at, high_at}
use Rattle.pieces.specs.Placed.{placed_eq}
use Rattle.pieces.specs.Store.{list_length_lem, list_at, list_same, least_same, greatest_same}
use Rattle.rows_right.specs.Right.{RowRight}
use Rattle.rows_right.specs.RowLaws.{apart_on_lem}
use Rattle.runs.specs.Afresh.{placed_number, placed_corners, low_of, high_of, RowOf}
use Rattle.runs.specs.Reached.{ShapeIs, PieceIs}

offset_is : {d : Store} {p : ℕ} {q : Placement} → PieceIs d p q → (axis : ℕ) → axis < 3 → offset_at d p axis ≡ get_or (q.x ∷ q.y ∷ q.z ∷ []) axis (pos 0)
offset_is k zero h = k.on_x_lem
offset_is k (suc zero) h = k.on_y_lem
offset_is k (suc (suc zero)) h = k.on_z_lem
offset_is k (suc (suc (suc n))) h = absurd (omega arith)

module _ {d : Store} {p : ℕ} {q : Placement} {numbers : List ℤ} (k : PieceIs d p q) (l : ShapeIs d (nat_abs q.shape) numbers) where
  numbers_are : 3 * count_at d p ≡ length numbers
  numbers_are = subst (λ n. 3 * corners_of d n ≡ length numbers) (sym k.shape) l.count

  number_is : (i : ℕ) → i < length numbers → shape_value d (shape_at d p) i ≡ get_or numbers i (pos 0)
  number_is i h = subst (λ n. shape_value d n i ≡ get_or numbers i (pos 0)) (sym k.shape) (l.each i h)

  placed_is : (i : ℕ) → i < length numbers → placed_corner d p (i / 3) (i % 3) ≡ placed_number numbers q i
  unfolding placed_corner
  placed_is i h =
      let n = numbers_are in
      let at : ℕ → ℤ = shape_value d (shape_at d p) in
      ap (λ u. placed_at u (i % 3) (at (3 * (i / 3))) (at (3 * (i / 3) + 1)) (at (3 * (i / 3) + 2)) (offset_at d p (i % 3))) k.turn
      ∙ placed_eq (nat_abs q.turn) (i % 3)
      (number_is (3 * (i / 3)) (omega arith))
      (number_is (3 * (i / 3) + 1) (omega arith))
      (number_is (3 * (i / 3) + 2) (omega arith))
      (offset_is k (i % 3) (omega arith))

  pub piece_is : piece_at d p ≡ placed_corners numbers q
  piece_is =
      let n = numbers_are in
      list_same (3 * count_at d p) (λ i. placed_corner d p (i / 3) (i % 3)) (placed_number numbers q) (λ i h. placed_is i (omega arith))
      ∙ ap (λ m. list_to m (placed_number numbers q)) n

-- "the least and greatest placed corner" of a piece are those of its list
module _ (d : Store) (p axis : ℕ) (h : axis < 3) where
  corners_are : length (piece_at d p) / 3 ≡ count_at d p
  corners_are = let n = list_length_lem (3 * count_at d p) (λ k. placed_corner d p (k / 3) (k % 3)) in omega arith

  coordinate_is : (i : ℕ) → i < count_at d p → placed_corner d p i axis ≡ get_or (piece_at d p) (3 * i + axis) (pos 0)
  coordinate_is i l =
      let a : (3 * i + axis) / 3 ≡ i = omega arith in
      let b : (3 * i + axis) % 3 ≡ axis = omega arith in
      sym (list_at (3 * count_at d p) (λ k. placed_corner d p (k / 3) (k % 3)) (pos 0) (3 * i + axis) (omega arith) ∙ ap₂ (placed_corner d p) a b)

  pub low-is : low_at d axis p ≡ low_of axis (piece_at d p)
  low-is =
      least_same (count_at d p) (λ i. placed_corner d p i axis) (λ i. get_or (piece_at d p) (3 * i + axis) (pos 0)) coordinate_is
      ∙ ap (λ n. least_to n (λ i. get_or (piece_at d p) (3 * i + axis) (pos 0))) (sym corners_are)

  pub high_is : high_at d axis p ≡ high_of axis (piece_at d p)
  high_is =
      greatest_same (count_at d p) (λ i. placed_corner d p i axis) (λ i. get_or (piece_at d p) (3 * i + axis) (pos 0)) coordinate_is
      ∙ ap (λ n. greatest_to n (λ i. get_or (piece_at d p) (3 * i + axis) (pos 0))) (sym corners_are)

-- so a row that is right for the desk's pieces is the row of their lists
pub row_is : (g : ℕ) (d : Store) (i j : ℕ) {v : ℕ} → RowRight g d i j v → RowOf g (piece_at d i) (piece_at d j) v
row_is g d i j (inl (e, (axis, h, a))) = inl (e, (axis, h, apart_on_lem g (high_is d i axis h) (low-is d j axis h) (high_is d j axis h) (low-is d i axis h) a))
row_is g d i j (inr (f, w)) = inr (
  λ k.
      let axis = k.0 in
      let h = k.1 in
      f (axis, h, apart_on_lem g (sym (high_is d i axis h)) (sym (low-is d j axis h)) (sym (high_is d j axis h)) (sym (low-is d i axis h)) k.2),
  w,
)

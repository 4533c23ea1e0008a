-- A shape that was loaded is written with the numbers that it was loaded with: so what was read and loaded is written as the text of those numbers.
-- With the laws of crate `off_round` that is "writing what was so read gives the same bytes" (document 02, W7), of a desk.
use Rattle.std.specs.Prelude.{ℕ, suc, ◌<◌, ◌+◌, ◌*◌, ◌/◌, ◌≡◌, List, ◌∷◌, ℤ, pos, nat_abs, length, get_or}
use Rattle.std.proofs.Common.{sym, ap, ◌∙◌, arith, ext_get_or}
use Rattle.limits.specs.Limits
use Rattle.limits.specs.Numbered.{Numbered}
use Rattle.space.specs.Lists.{LengthFits}
use Rattle.pieces.specs.Pieces.{Store, store_of, Sized, corners_of, shape_value, loaded_in}
use Rattle.pieces.specs.Store.{list_length_lem, list_at}
use Rattle.pieces.specs.Storing.{sets_at}
use Rattle.desk_state.specs.Desk.{Desk, loaded_at}
use Rattle.off_write.specs.Written.{off_text}
use Rattle.desk_write.specs.Writing.{numbers_of_shape, shape_text}

module _ (d : Store) (s : ℕ) (numbers : List ℤ) (size : Sized d) (h : s < Limits.shapes) (fits : LengthFits (length numbers)) where
  abbrev loads : Store
  loads = store_of (loaded_in d.shapes s numbers) d.places

  cell : (k : ℕ) → k < 1 + length numbers → get_or loads.shapes (s * Limits.shape_cells + k) (pos 0) ≡ get_or (pos (length numbers / 3) ∷ numbers) k (pos 0)
  cell k l = sets_at (pos (length numbers / 3) ∷ numbers) d.shapes (s * Limits.shape_cells) k (omega (arith, size.shapes, fits.most, fits.is)) (omega arith)

  count : 3 * corners_of loads s ≡ length numbers
  count =
      let e : s * Limits.shape_cells + 0 ≡ s * Limits.shape_cells = omega arith in
      let c : corners_of loads s ≡ length numbers / 3 = ap nat_abs (ap (λ (k : ℕ). get_or loads.shapes k (pos 0)) (sym e) ∙ cell 0 (omega arith)) in
      omega (arith, c, fits.is)

  value : (k : ℕ) → k < length numbers → shape_value loads s k ≡ get_or numbers k (pos 0)
  value k l =
      let e : s * Limits.shape_cells + suc k ≡ s * Limits.shape_cells + 1 + k = omega arith in
      ap (λ (n : ℕ). get_or loads.shapes n (pos 0)) (sym e) ∙ cell (suc k) (omega arith)

  pub loaded_numbers : numbers_of_shape loads s ≡ numbers
  loaded_numbers =
      let n = 3 * corners_of loads s in
      let l = list_length_lem n (shape_value loads s) in
      ext_get_or (pos 0) (numbers_of_shape loads s) numbers (l ∙ count)
      (λ k m. let j : k < n = omega (arith, l) in list_at n (shape_value loads s) (pos 0) k j ∙ value k (omega (arith, count)))

-- the text of a shape that a desk was given
pub loaded_text : (d : Desk) (shape : ℤ) (numbers : List ℤ) → Sized d.store → Numbered Limits.shapes shape → LengthFits (length numbers)
    → shape_text (loaded_at d (nat_abs shape) numbers).store shape ≡ off_text numbers
loaded_text d shape numbers size h fits = ap off_text (loaded_numbers d.store (nat_abs shape) numbers size h.below fits)

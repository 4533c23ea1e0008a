-- A place that holds a piece of the table: its placed corners are the list of the table, its ends those of the list.
-- So the row of two such places is right by the tests of two lists.
use Rattle.std.specs.Prelude.{◌≡◌, List, [], ◌∷◌, Bool, ◌&&◌, T, length, get_or, ℤ, pos, ◌<ℤ◌}
use Rattle.std.proofs.Math.Path.{refl, sym, ap, ap₂}
use Rattle.std.proofs.Common.{◌∙◌, subst, inl, ⊎_elim, ext_get_or}
use Prim.Native.Nat.{ℕ, zero, suc, ◌+◌, ◌-◌, ◌*◌, ◌/◌, ◌%◌, ◌<◌}
use native.Mathlib.Omega.{arith}
use Rattle.std.proofs.Math.IntN.{◌+ℤ◌}
use Rattle.std.specs.Int.Signed.{lt_z, le_z, lt_z_yes, le_z_yes, clash_ℤ}
use Rattle.space.specs.Verdicts.{VerdictIs}
use Rattle.turns.specs.Turns.{turn_of, signed_axis, turned_at, placed_at}
use Rattle.turns.specs.Table.{and_left, and_right, below, number}
use Rattle.pieces.specs.Pieces.{Store, count_at, shape_at, shape_value, offset_at, placed_corner, piece_at, low_at, high_at}
use Rattle.pieces.specs.Store.{list_length_lem, list_at}
use Rattle.pieces.specs.Boxes.{Apart}
use Rattle.pieces.specs.NoGapLaws.{apart_plain}
use Rattle.rows_right.specs.Right.{RowRight}
use Rattle.rows_right.specs.RowLaws.{row_apart, row_verdict}
use Rattle.runs.specs.Afresh.{low_of, high_of}
use Rattle.runs.specs.PieceLaws as pieces
use Rattle.bench.specs.Table.{placed, Holds}

-- ---- the list of placed corners
pub placed_length : (n : ℕ) (shape : List ℤ) (x y z : ℕ) → 3 * n ≡ length shape → length (placed shape x y z) ≡ length shape
placed_length n [] x y z e = refl
placed_length n (a ∷ []) x y z e = absurd (omega arith)
placed_length n (a ∷ b ∷ []) x y z e = absurd (omega arith)
placed_length n (a ∷ b ∷ c ∷ shape) x y z e = ap (λ k. suc (suc (suc k))) (placed_length (n - 1) shape x y z (omega arith))

abbrev along : ℕ → ℕ → ℕ → ℕ → ℤ
along x y z axis = get_or (pos x ∷ pos y ∷ pos z ∷ []) axis (pos 0)

placed_at_lem : (shape : List ℤ) (x y z k : ℕ) → k < length (placed shape x y z) → get_or (placed shape x y z) k (pos 0) ≡ get_or shape k (pos 0) +ℤ along x y z (k % 3)
placed_at_lem [] x y z k h = absurd (omega arith)
placed_at_lem (a ∷ []) x y z k h = absurd (omega arith)
placed_at_lem (a ∷ b ∷ []) x y z k h = absurd (omega arith)
placed_at_lem (a ∷ b ∷ c ∷ shape) x y z zero h = refl
placed_at_lem (a ∷ b ∷ c ∷ shape) x y z (suc zero) h = refl
placed_at_lem (a ∷ b ∷ c ∷ shape) x y z (suc (suc zero)) h = refl
placed_at_lem (a ∷ b ∷ c ∷ shape) x y z (suc (suc (suc k))) h =
    let e : k % 3 ≡ suc (suc (suc k)) % 3 = omega arith in
    placed_at_lem shape x y z k (omega arith) ∙ ap (λ m. get_or shape k (pos 0) +ℤ along x y z m) e

-- ---- the piece of a place
module _ {d : Store} {p : ℕ} {shape : List ℤ} {x y z : ℕ} (h : Holds d p shape x y z) where
  offset_is : (axis : ℕ) → axis < 3 → offset_at d p axis ≡ along x y z axis
  offset_is zero l = h.offset_x
  offset_is (suc zero) l = h.offset_y
  offset_is (suc (suc zero)) l = h.offset_z
  offset_is (suc (suc (suc axis))) l = absurd (omega arith)

  -- turn 0 leaves a corner as it is
  unturned : (i axis : ℕ) → axis < 3 → (o : ℤ)
      → placed_at 0 axis (shape_value d (shape_at d p) (3 * i)) (shape_value d (shape_at d p) (3 * i + 1)) (shape_value d (shape_at d p) (3 * i + 2)) o ≡ shape_value d (shape_at d p) (3 * i + axis) +ℤ o
  unfolding placed_at turned_at signed_axis turn_of
  unturned i zero l o = let e : 3 * i ≡ 3 * i + 0 = omega arith in ap (λ k. shape_value d (shape_at d p) k +ℤ o) e
  unturned i (suc zero) l o = refl
  unturned i (suc (suc zero)) l o = refl
  unturned i (suc (suc (suc axis))) l o = absurd (omega arith)

  corner_is : (i axis : ℕ) → i < count_at d p → axis < 3 → placed_corner d p i axis ≡ get_or (placed shape x y z) (3 * i + axis) (pos 0)
  unfolding placed_corner
  corner_is i axis hi ha =
      let n = h.count in
      let m = placed_length (count_at d p) shape x y z n in
      let e : (3 * i + axis) % 3 ≡ axis = omega arith in
      ap (λ t. placed_at t axis (shape_value d (shape_at d p) (3 * i)) (shape_value d (shape_at d p) (3 * i + 1)) (shape_value d (shape_at d p) (3 * i + 2)) (offset_at d p axis)) h.turn
      ∙ unturned i axis ha (offset_at d p axis)
      ∙ ap₂ ◌+ℤ◌ (h.corners (3 * i + axis) (omega arith)) (offset_is axis ha ∙ ap (along x y z) (sym e))
      ∙ sym (placed_at_lem shape x y z (3 * i + axis) (omega arith))

  pub piece_is : piece_at d p ≡ placed shape x y z
  piece_is =
      let n = h.count in
      let m = placed_length (count_at d p) shape x y z n in
      let l = list_length_lem (3 * count_at d p) (λ k. placed_corner d p (k / 3) (k % 3)) in
      ext_get_or (pos 0) (piece_at d p) (placed shape x y z) (l ∙ n ∙ sym m)
      (λ k hk.
      let lk : k < 3 * count_at d p = omega arith in
      let e : 3 * (k / 3) + k % 3 ≡ k = omega arith in
      list_at (3 * count_at d p) (λ j. placed_corner d p (j / 3) (j % 3)) (pos 0) k lk
      ∙ corner_is (k / 3) (k % 3) (omega arith) (omega arith)
      ∙ ap (λ j. get_or (placed shape x y z) j (pos 0)) e)

  pub low-is : (axis : ℕ) → axis < 3 → low_at d axis p ≡ low_of axis (placed shape x y z)
  low-is axis l = pieces.low-is d p axis l ∙ ap (low_of axis) piece_is

  pub high_is : (axis : ℕ) → axis < 3 → high_at d axis p ≡ high_of axis (placed shape x y z)
  high_is axis l = pieces.high_is d p axis l ∙ ap (high_of axis) piece_is

-- ---- the row of two places
abbrev pub is_apart : ℕ → List ℤ → List ℤ → Bool
is_apart axis A B = lt_z (high_of axis A) (low_of axis B)

abbrev pub is_mixed : List ℤ → List ℤ → Bool
is_mixed A B = below (λ axis. le_z (low_of axis B) (high_of axis A) && le_z (low_of axis A) (high_of axis B)) 3

module _ {d : Store} {p q : ℕ} {first second : List ℤ} {x y z u v w : ℕ} (h : Holds d p first x y z) (k : Holds d q second u v w) where
  -- the first is on the low side of the second along this axis
  pub apart_row : (axis : ℕ) → axis < 3 → T (is_apart axis (placed first x y z) (placed second u v w)) → RowRight 0 d p q 0
  apart_row axis l t =
      let there = subst (λ b. high_of axis (placed first x y z) <ℤ b) (sym (low-is k axis l)) (lt_z_yes t) in
      row_apart 0 d p q ((apart_plain d p q).1 (axis, l, inl (subst (λ a. a <ℤ low_at d axis q) (sym (high_is h axis l)) there)))

  pub not_apart : T (is_mixed (placed first x y z) (placed second u v w)) → Apart 0 d p q → ⊥
  not_apart t apart =
      let on = (apart_plain d p q).0 apart in
      let axis = on.0 in
      let l = on.1 in
      let A = placed first x y z in
      let B = placed second u v w in
      let both = number (λ axis. le_z (low_of axis B) (high_of axis A) && le_z (low_of axis A) (high_of axis B)) 3 t axis l in
      let reaches = le_z (low_of axis B) (high_of axis A) in
      ⊎_elim
      (λ c. clash_ℤ (subst (λ e. e <ℤ low_of axis B) (high_is h axis l) (subst (λ e. high_at d axis p <ℤ e) (low-is k axis l) c)) (le_z_yes (and_left reaches _ both)))
      (λ c. clash_ℤ (subst (λ e. e <ℤ low_of axis A) (high_is k axis l) (subst (λ e. high_at d axis q <ℤ e) (low-is h axis l) c)) (le_z_yes (and_right reaches _ both)))
      on.2

  pub verdict_row : {n : ℕ} → T (is_mixed (placed first x y z) (placed second u v w)) → VerdictIs 0 (placed first x y z) (placed second u v w) n → RowRight 0 d p q n
  verdict_row {n} t r =
      row_verdict 0 d p q (not_apart t) (subst (λ A. VerdictIs 0 A (piece_at d q) n) (sym (piece_is h)) (subst (λ B. VerdictIs 0 (placed first x y z) B n) (sym (piece_is k)) r))

-- A shape's numbers keep their range exactly where its box does: no corner is looked at for it. Each number lies between the ends on its axis, and each end is one of the numbers.
-- The ends along a signed axis keep it too, and are two of the six numbers of a box of the table.
use Rattle.std.specs.Prelude.{ℕ, zero, suc, ◌≤◌, ◌<◌, ◌+◌, ◌*◌, ◌/◌, ◌%◌, ◌≡◌, refl, Bool, true, false, cond, List, eqb, ℤ, pos, neg_ℤ, nat_abs, ◌+ℤ◌, ◌≤ℤ◌, get_or}
use Rattle.std.proofs.Common.{subst, arith}
use Rattle.std.specs.Int.Signed.{lt_z}
use Rattle.limits.specs.Limits
use Rattle.ints.specs.Bounds.{Within, within_upper, within_lower, within_of, nat_abs_neg, nat_abs_add}
use Rattle.ints.specs.Order.{≤ℤ-trans}
use Rattle.pieces.specs.EndLaws.{least_bound, greatest_bound}
use Rattle.pieces.specs.Placed.{least_within, greatest_within}
use Rattle.turns.specs.Turns.{axis_number}
use Rattle.pieces_box.specs.declared.boxes.Ends.{Ends}
use Rattle.pieces_box.specs.declared.boxes.ShapeBox.{ShapeBox}
use Rattle.pieces_box.specs.ShapeBox.{on_axis, ends_to, box_to, ends_on, opposed, ends_along, box_in, box_number, NearEnds, NearBox}

between_within : {n : ℕ} {l v h : ℤ} → Within n l → Within n h → l ≤ℤ v → v ≤ℤ h → Within n v
between_within a b p q = within_of (≤ℤ-trans (within_lower a) p) (≤ℤ-trans q (within_upper b))

module _ (shapes : List ℤ) (s n : ℕ) where
  -- number k of the shape
  abbrev number_of : ℕ → ℤ
  number_of k = get_or shapes (s * Limits.shape_cells + 1 + k) (pos 0)

  -- every number near: the box is
  pub near_box : 1 ≤ n → ((k : ℕ) → k < 3 * n → Within Limits.shape_reach (number_of k)) → NearBox (box_to shapes s n)
  near_box some w = record { x = on 0 (omega arith); y = on 1 (omega arith); z = on 2 (omega arith) }
    where
      on : (axis : ℕ) → axis < 3 → NearEnds (ends_to shapes s n axis)
      on axis h =
          let u : (i : ℕ) → i < n → Within Limits.shape_reach (on_axis shapes s axis i) = λ i l. w (3 * i + axis) (omega arith) in
          record { low = least_within n _ some u; high = greatest_within n _ some u }

  -- the box near: every number is
  pub box_near_lem : NearBox (box_to shapes s n) → (k : ℕ) → k < 3 * n → Within Limits.shape_reach (number_of k)
  box_near_lem b k h =
      let e : 3 * (k / 3) + k % 3 ≡ k = omega arith in
      let l : k % 3 < 3 = omega arith in
      subst (λ (j : ℕ). Within Limits.shape_reach (number_of j)) e (on (k % 3) l (k / 3) (omega arith))
    where
      of : (axis : ℕ) → NearEnds (ends_to shapes s n axis) → (i : ℕ) → i < n → Within Limits.shape_reach (number_of (3 * i + axis))
      of axis e i l = between_within e.low e.high (least_bound (on_axis shapes s axis) n i l) (greatest_bound (on_axis shapes s axis) n i l)

      on : (axis : ℕ) → axis < 3 → (i : ℕ) → i < n → Within Limits.shape_reach (number_of (3 * i + axis))
      on zero l = of 0 b.x
      on (suc zero) l = of 1 b.y
      on (suc (suc zero)) l = of 2 b.z
      on (suc (suc (suc axis))) l = absurd (omega arith)

-- ---- the ends of a near box, along a signed axis, are near; and moved by a near offset they stay within what is placed
pub near_on : {b : ShapeBox} → NearBox b → (m : ℕ) → NearEnds (ends_on b (axis_number m))
near_on {b} n m = go (eqb m 1) (eqb m 2)
  where
    go : (u v : Bool) → NearEnds (ends_on b (cond u 0 (cond v 1 2)))
    go true v = n.x
    go false true = n.y
    go false false = n.z

pub near_along : {b : ShapeBox} → NearBox b → (k : ℤ) → NearEnds (ends_along b k)
near_along {b} n k = signed (lt_z k (pos 0)) (ends_on b (axis_number (nat_abs k))) (near_on n (nat_abs k))
  where
    turned : {v : ℤ} → Within Limits.shape_reach v → Within Limits.shape_reach (neg_ℤ v)
    turned {v} h = record { abs = omega (arith, nat_abs_neg v, h.abs) }

    signed : (t : Bool) (e : Ends) → NearEnds e → NearEnds (cond t (opposed e) e)
    signed true e h = record { low = turned h.high; high = turned h.low }
    signed false e h = h

pub moved_near : {v o : ℤ} → Within Limits.shape_reach v → Within Limits.shape_reach o → Within Limits.placed_reach (v +ℤ o)
moved_near {v} {o} h k = record { abs = omega (arith, nat_abs_add v o, h.abs, k.abs) }

-- ---- the ends of a box on a named axis, as they are chosen
pub ends_named : (b : ShapeBox) (m : ℕ) → ends_on b (axis_number m) ≡ cond (eqb m 1) b.x (cond (eqb m 2) b.y b.z)
ends_named b m = go (eqb m 1) (eqb m 2)
  where
    go : (u v : Bool) → ends_on b (cond u 0 (cond v 1 2)) ≡ cond u b.x (cond v b.y b.z)
    go true v = refl
    go false true = refl
    go false false = refl

-- ---- the two numbers of the table that are the ends on a named axis
pub ends_read : (boxes : List ShapeBox) (s m : ℕ) → ends_on (box_in boxes s) (axis_number m) ≡ record { low = box_number boxes s (2 * axis_number m); high = box_number boxes s (2 * axis_number m + 1) }
ends_read boxes s m = go (eqb m 1) (eqb m 2)
  where
    go : (u v : Bool) → let a : ℕ = cond u 0 (cond v 1 2) in ends_on (box_in boxes s) a ≡ record { low = box_number boxes s (2 * a); high = box_number boxes s (2 * a + 1) }
    go true v = refl
    go false true = refl
    go false false = refl

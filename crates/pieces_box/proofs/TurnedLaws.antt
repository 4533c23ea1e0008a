-- The ends of a piece are its shape's box, turned and moved: no corner is looked at again (`ends_turned`).
-- For all 24 turns at once, from what each puts on an axis: one axis with a sign.
use Rattle.std.specs.Prelude.{ℕ, ◌≤◌, ◌+◌, ◌*◌, ◌≡◌, refl, Bool, true, false, cond, List, eqb, ℤ, pos, neg_ℤ, nat_abs, get_or}
use Rattle.std.proofs.Common.{ap, ◌∙◌, arith}
use Rattle.std.specs.Int.Signed.{lt_z}
use Rattle.limits.specs.Limits
use Rattle.turns.specs.Turns.{named_axis, axis_number, along, signed_axis, turned_at, placed_at}
use Rattle.pieces.specs.Pieces.{Store, shape_at, turn_at, offset_at, count_at, shape_value, placed_corner, least_to, greatest_to, low_at, high_at}
use Rattle.pieces.specs.Store.{least_same, greatest_same}
use Rattle.pieces_box.specs.declared.boxes.Ends.{Ends}
use Rattle.pieces_box.specs.ShapeBox.{on_axis, box_to, box_of, ends_on, opposed, ends_along, moved_by}
use Rattle.pieces_box.specs.EndsLaws.{least_plus, greatest_plus, least_neg, greatest_neg}

pub ends_eq : {a b c e : ℤ} → a ≡ b → c ≡ e → ◌≡◌ {A = Ends} (record { low = a; high = c }) (record { low = b; high = e })
ends_eq p q = λ i. record { low = p i; high = q i }

abbrev low_high : ℤ → ℤ → Ends
low_high u v = record { low = u; high = v }

-- the ends of the first n values of f
abbrev ends : ℕ → (ℕ → ℤ) → Ends
ends n f = record { low = least_to n f; high = greatest_to n f }

ends_same : (n : ℕ) (f g : ℕ → ℤ) → ((i : ℕ) → f i ≡ g i) → ends n f ≡ ends n g
ends_same n f g h = ends_eq (least_same n f g (λ i l. h i)) (greatest_same n f g (λ i l. h i))

module _ (shapes : List ℤ) (s : ℕ) where
  abbrev value : ℕ → ℤ
  value k = get_or shapes (s * Limits.shape_cells + 1 + k) (pos 0)

  -- of the three numbers of corner i, the one that an axis names
  abbrev named : ℕ → ℕ → ℤ
  named m i = named_axis m (value (3 * i)) (value (3 * i + 1)) (value (3 * i + 2))

  ends_named : (n m : ℕ) → ends n (named m) ≡ ends_on (box_to shapes s n) (axis_number m)
  ends_named n m = go (eqb m 1) (eqb m 2)
    where
      first : (i : ℕ) → value (3 * i) ≡ on_axis shapes s 0 i
      first i = let e : 3 * i ≡ 3 * i + 0 = omega arith in ap value e

      go : (a b : Bool)
          → ends n (λ i. cond a (value (3 * i)) (cond b (value (3 * i + 1)) (value (3 * i + 2))))
          ≡ ends_on (box_to shapes s n) (cond a 0 (cond b 1 2))
      go true b = ends_same n _ _ first
      go false true = refl
      go false false = refl

  ends_along_lem : (n : ℕ) (k : ℤ) → 1 ≤ n → ends n (λ i. along k (value (3 * i)) (value (3 * i + 1)) (value (3 * i + 2))) ≡ ends_along (box_to shapes s n) k
  ends_along_lem n k h = go (lt_z k (pos 0))
    where
      go : (b : Bool)
          → ends n (λ i. cond b (neg_ℤ (named (nat_abs k) i)) (named (nat_abs k) i))
          ≡ cond b (opposed (ends_on (box_to shapes s n) (axis_number (nat_abs k)))) (ends_on (box_to shapes s n) (axis_number (nat_abs k)))
      go true = ends_eq (least_neg (named (nat_abs k)) n h) (greatest_neg (named (nat_abs k)) n h) ∙ ap opposed (ends_named n (nat_abs k))
      go false = ends_named n (nat_abs k)

-- the ends of the piece at p
abbrev pub ends_of : Store → ℕ → ℕ → Ends
ends_of d axis p = record { low = low_at d axis p; high = high_at d axis p }

pub ends_turned : (d : Store) (p axis : ℕ) → 1 ≤ count_at d p
    → ends_of d axis p ≡ moved_by (ends_along (box_of d.shapes (shape_at d p)) (signed_axis (turn_at d p) axis)) (offset_at d p axis)
unfolding placed_corner placed_at turned_at
ends_turned d p axis h =
    let o = offset_at d p axis in
    let f : ℕ → ℤ = λ i. turned_at (turn_at d p) axis (shape_value d (shape_at d p) (3 * i)) (shape_value d (shape_at d p) (3 * i + 1)) (shape_value d (shape_at d p) (3 * i + 2)) in
    ends_eq (least_plus f o (count_at d p) h) (greatest_plus f o (count_at d p) h)
    ∙ ap (λ (e : Ends). moved_by e o) (ends_along_lem d.shapes (shape_at d p) (count_at d p) (signed_axis (turn_at d p) axis) h)

-- A shape's box, corner by corner: that of its first corner, and with one corner more.
-- `at` says where in the array a corner's number is read.
use Rattle.std.specs.Prelude.{ℕ, ◌≤◌, ◌<◌, ◌+◌, ◌*◌, ◌≡◌, List, ℤ, pos, length, get_or, set}
use Rattle.std.proofs.Common.{sym, ap, ◌∙◌, subst, arith, below_more, get_or-set_same, get_or-set_other}
use Rattle.limits.specs.Limits
use Rattle.pieces.specs.Pieces.{least_to, greatest_to, lesser, greater}
use Rattle.pieces.specs.Placed.{least_more, greatest_more}
use Rattle.pieces_box.specs.declared.boxes.Ends.{Ends}
use Rattle.pieces_box.specs.declared.boxes.ShapeBox.{ShapeBox}
use Rattle.pieces_box.specs.ShapeBox.{on_axis, ends_to, box_to, ends_from, stretched, box_from, widened, box_in, BoxAt}
use Rattle.pieces_box.proofs.TurnedLaws.{ends_eq}

pub box_eq : {a b c e f g : Ends} → a ≡ b → c ≡ e → f ≡ g → ◌≡◌ {A = ShapeBox} (record { x = a; y = c; z = f }) (record { x = b; y = e; z = g })
box_eq p q r = λ i. record { x = p i; y = q i; z = r i }

module _ (shapes : List ℤ) (s : ℕ) where
  pub at : {v : ℤ} (k axis i : ℕ) → k ≡ s * Limits.shape_cells + 1 + (3 * i + axis) → v ≡ get_or shapes k (pos 0) → v ≡ on_axis shapes s axis i
  at k axis i e h = h ∙ ap (λ (n : ℕ). get_or shapes n (pos 0)) e

  ends_first : {v : ℤ} (axis : ℕ) → v ≡ on_axis shapes s axis 0 → ends_from v ≡ ends_to shapes s 1 axis
  unfolding least_to greatest_to
  ends_first axis e = ends_eq e e

  ends_more : {v : ℤ} (axis i : ℕ) → 1 ≤ i → v ≡ on_axis shapes s axis i → stretched (ends_to shapes s i axis) v ≡ ends_to shapes s (i + 1) axis
  ends_more axis i h e =
      let f = on_axis shapes s axis in
      ends_eq (ap (λ (v : ℤ). lesser v (least_to i f)) e ∙ sym (least_more i f h)) (ap (λ (v : ℤ). greater v (greatest_to i f)) e ∙ sym (greatest_more i f h))

  pub box_first : {x y z : ℤ} → x ≡ on_axis shapes s 0 0 → y ≡ on_axis shapes s 1 0 → z ≡ on_axis shapes s 2 0 → box_from x y z ≡ box_to shapes s 1
  box_first p q r = box_eq (ends_first 0 p) (ends_first 1 q) (ends_first 2 r)

  pub box_more : {x y z : ℤ} {b : ShapeBox} (i : ℕ) → 1 ≤ i → b ≡ box_to shapes s i → x ≡ on_axis shapes s 0 i → y ≡ on_axis shapes s 1 i → z ≡ on_axis shapes s 2 i
      → widened b x y z ≡ box_to shapes s (i + 1)
  box_more {x} {y} {z} i h e p q r = ap (λ (b : ShapeBox). widened b x y z) e ∙ box_eq (ends_more 0 i h p) (ends_more 1 i h q) (ends_more 2 i h r)

-- ---- one box more in the table
pub boxes_more : (shapes : List ℤ) (boxes : List ShapeBox) (n : ℕ) {b : ShapeBox} → n < length boxes → ((k : ℕ) → k < n → BoxAt shapes k (box_in boxes k)) → BoxAt shapes n b
    → (k : ℕ) → k < n + 1 → BoxAt shapes k (box_in (set boxes n b) k)
boxes_more shapes boxes n {b} l h e = below_more (λ k. BoxAt shapes k (box_in (set boxes n b) k)) n
    (λ k m. subst (BoxAt shapes k) (sym (get_or-set_other boxes n k b _ (λ q. omega arith))) (h k m))
    (subst (BoxAt shapes n) (sym (get_or-set_same boxes n b _ l)) e)

-- Laws of a store whose shapes and places are in order: what the functions ask holds of its taken places, and its pieces are lists of placed corners.
-- And that a piece depends on its own place and shape alone.
use Rattle.std.specs.Prelude.{◌≡◌, [], ◌∷◌, ◌++◌, Bool, true, false, not, ℕ, zero, suc, ◌+◌, ◌*◌, ◌/◌, ◌%◌, ◌≤◌, ◌<◌, eqb, length, get_or, ℤ, pos}
use Rattle.std.proofs.Math.Path.{refl, ap₂}
use Rattle.std.proofs.Common.{sym, ap, ◌∙◌, subst, ⊎_elim, arith, add-one, length-append, get_or-append-add}
use Rattle.std.proofs.Math.ListN.{get_or-append}
use Rattle.std.proofs.Math.IntN.{nat_abs}
use Rattle.ints.specs.Bounds.{Within}
use Rattle.ints.specs.Order.{lt-or-ge}
use Rattle.limits.specs.Limits
use Rattle.space.specs.Lists.{Placed}
use Rattle.turns.specs.Turns.{placed_at}
use Rattle.marks.specs.Marks.{axis_of, mark_place, side_of, RangedMarks}
use Rattle.marks.proofs.Order.{mark_low}
use Rattle.pieces.specs.Pieces.{Store, Taken, PiecesInOrder, held_in, turn_in, shape_value, shape_at, turn_at, offset_at, count_at}
use Rattle.pieces.specs.Pieces.{placed_corner, list_to, piece_at, least_to, greatest_to, lesser, greater, low_at, high_at, taken_at, axes_of}
use Rattle.pieces.specs.Taking.{taken_decided}
use Rattle.pieces.specs.Placed.{number_at, PoseFits, pose_of, PoseAsked, number_within, pick, least_within, greatest_within, placed_eq}

-- ---- what a taken place is asked with
pub asked : {d : Store} → PiecesInOrder d → (p : ℕ) → Taken d.places p → PoseAsked d.shapes d.places p
asked {d} o p t =
    let k = o.places.all p t in
    record { place< = t.place; some = t.holds; shape = k.shape; turn = k.turn; count = o.shapes.few (shape_at d p) k.loaded.shape }

pub held : {d : Store} → PiecesInOrder d → (p : ℕ) → Taken d.places p → PoseFits d.shapes d.places (pose_of d.shapes d.places p) p
held {d} o p t =
    let k = o.places.all p t in
    let s = k.loaded.shape in
    let few = (o.shapes.few (shape_at d p) s).below in
    record {
      place< = t.place;
      some = omega (arith, k.loaded.some);
      few = omega arith;
      inside = omega arith;
      turn = k.turn.below;
      near = λ n h. o.shapes.near (shape_at d p) n s h;
      offset = k.offset;
    }

-- the numbers read are the placed corners
pub number_is : (d : Store) (p i axis : ℕ) → number_at d.shapes d.places (pose_of d.shapes d.places p) p i axis ≡ placed_corner d p i axis
unfolding number_at placed_corner
number_is d p i axis = refl

pub corner_within : {d : Store} → PiecesInOrder d → (p i axis : ℕ) → Taken d.places p → i < count_at d p → axis < 3 → Within Limits.placed_reach (placed_corner d p i axis)
corner_within {d} o p i axis t hi ha = subst (Within Limits.placed_reach) (number_is d p i axis) (number_within (held o p t) i axis hi ha)

-- ---- lists of the first n values
pub list_length_lem : {A : Type 0} (n : ℕ) (f : ℕ → A) → length (list_to n f) ≡ n
unfolding list_to
list_length_lem zero f = refl
list_length_lem (suc n) f = length-append (list_to n f) (f n ∷ []) ∙ ap (λ k. k + 1) (list_length_lem n f) ∙ add-one n

pub list_at : {A : Type 0} (n : ℕ) (f : ℕ → A) (d : A) (k : ℕ) → k < n → get_or (list_to n f) k d ≡ f k
unfolding list_to
list_at zero f d k h = absurd (omega arith)
list_at (suc n) f d k h = ⊎_elim
    (λ (l : k < n). get_or-append (list_to n f) (f n ∷ []) d k (subst (λ m. k < m) (sym (list_length_lem n f)) l) ∙ list_at n f d k l)
    (λ (l : n ≤ k).
    let e : k ≡ length (list_to n f) + 0 = (let g : k ≡ n = omega arith in let q = list_length_lem n f in omega arith) in
    let g : n ≡ k = omega arith in
    ap (λ m. get_or (list_to n f ++ (f n ∷ [])) m d) e ∙ get_or-append-add (list_to n f) (f n ∷ []) 0 d ∙ ap f g)
    (lt-or-ge k n)

pub list_same : {A : Type 0} (n : ℕ) (f g : ℕ → A) → ((k : ℕ) → k < n → f k ≡ g k) → list_to n f ≡ list_to n g
unfolding list_to
list_same zero f g h = refl
list_same (suc n) f g h = ap₂ (λ l x. l ++ (x ∷ [])) (list_same n f g (λ k l. h k (omega arith))) (h n (omega arith))

pub least_same : (n : ℕ) (f g : ℕ → ℤ) → ((k : ℕ) → k < n → f k ≡ g k) → least_to n f ≡ least_to n g
unfolding least_to
least_same zero f g h = refl
least_same (suc zero) f g h = h 0 (omega arith)
least_same (suc (suc n)) f g h = ap₂ lesser (h (suc n) (omega arith)) (least_same (suc n) f g (λ k l. h k (omega arith)))

pub greatest_same : (n : ℕ) (f g : ℕ → ℤ) → ((k : ℕ) → k < n → f k ≡ g k) → greatest_to n f ≡ greatest_to n g
unfolding greatest_to
greatest_same zero f g h = refl
greatest_same (suc zero) f g h = h 0 (omega arith)
greatest_same (suc (suc n)) f g h = ap₂ greater (h (suc n) (omega arith)) (greatest_same (suc n) f g (λ k l. h k (omega arith)))

-- ---- the piece at a taken place is a list of placed corners
pub piece_placed : {d : Store} → PiecesInOrder d → (p : ℕ) → Taken d.places p → Placed (piece_at d p)
piece_placed {d} o p t =
    let h = held o p t in
    let n = count_at d p in
    let size = list_length_lem (3 * n) (λ k. placed_corner d p (k / 3) (k % 3)) in
    record {
      fits = record { count = n; least = h.some; most = h.few; is = size };
      near =
          record {
            all = λ k l. subst (Within Limits.placed_reach) (sym (list_at (3 * n) (λ j. placed_corner d p (j / 3) (j % 3)) (pos 0) k (subst (λ m. k < m) size l)))
                (corner_within o p (k / 3) (k % 3) t (let l' : k < 3 * n = subst (λ m. k < m) size l in omega arith) (omega arith));
          };
    }

-- ---- a place is taken where the definition says so
pub taken_of : (d : Store) (p : ℕ) → p < Limits.places → taken_at d p ≡ true → Taken d.places p
taken_of d p h e = (taken_decided d.places p h).yes e

pub taken_is : (d : Store) (p : ℕ) → Taken d.places p → taken_at d p ≡ true
taken_is d p t = go (taken_at d p) refl
  where
    go : (b : Bool) → taken_at d p ≡ b → b ≡ true
    go true e = refl
    go false e = absurd ((taken_decided d.places p t.place).no e t)

pub empty-is : (d : Store) (p : ℕ) → p < Limits.places → (Taken d.places p → ⊥) → taken_at d p ≡ false
empty-is d p h f = go (taken_at d p) refl
  where
    go : (b : Bool) → taken_at d p ≡ b → b ≡ false
    go false e = refl
    go true e = absurd (f (taken_of d p h e))

-- ---- the ends of taken places are in range
pub low_within : {d : Store} → PiecesInOrder d → (p axis : ℕ) → Taken d.places p → axis < 3 → Within Limits.placed_reach (low_at d axis p)
low_within {d} o p axis t ha = least_within (count_at d p) (λ i. placed_corner d p i axis) (held o p t).some (λ i h. corner_within o p i axis t h ha)

pub high_within : {d : Store} → PiecesInOrder d → (p axis : ℕ) → Taken d.places p → axis < 3 → Within Limits.placed_reach (high_at d axis p)
high_within {d} o p axis t ha = greatest_within (count_at d p) (λ i. placed_corner d p i axis) (held o p t).some (λ i h. corner_within o p i axis t h ha)

pub ranged : {d : Store} → PiecesInOrder d → RangedMarks (axes_of d)
ranged {d} o axis ha mark m =
    let k = mark_low (axis_of (axes_of d) axis) mark m in
    let low = k.0 in
    let t = taken_of d (mark_place mark) (omega arith) k.1 in
    pick (eqb (side_of mark) 0) (low_within o (mark_place mark) axis t ha) (high_within o (mark_place mark) axis t ha)

-- ---- a piece depends on its own place and shape alone
pub record SameAt (d e : Store) (p : ℕ) : Type 0 where
  pub shape : held_in d.places p ≡ held_in e.places p
  pub turn : turn_in d.places p ≡ turn_in e.places p
  pub offset : (axis : ℕ) → axis < 3 → offset_at d p axis ≡ offset_at e p axis
  pub count : count_at d p ≡ count_at e p
  pub numbers : (k : ℕ) → k < 3 * count_at d p → shape_value d (shape_at d p) k ≡ shape_value e (shape_at e p) k

module _ {d e : Store} {p : ℕ} (s : SameAt d e p) where
  same_corner_lem : (i axis : ℕ) → i < count_at d p → axis < 3 → placed_corner d p i axis ≡ placed_corner e p i axis
  unfolding placed_corner
  same_corner_lem i axis hi ha =
      ap₂ (λ t o. placed_at t axis (shape_value d (shape_at d p) (3 * i)) (shape_value d (shape_at d p) (3 * i + 1)) (shape_value d (shape_at d p) (3 * i + 2)) o) (ap nat_abs s.turn) (s.offset axis ha)
      ∙ placed_eq (turn_at e p) axis (s.numbers (3 * i) (omega arith)) (s.numbers (3 * i + 1) (omega arith)) (s.numbers (3 * i + 2) (omega arith)) refl

  pub same_piece : piece_at d p ≡ piece_at e p
  same_piece =
      list_same (3 * count_at d p) (λ k. placed_corner d p (k / 3) (k % 3)) (λ k. placed_corner e p (k / 3) (k % 3)) (λ k h. same_corner_lem (k / 3) (k % 3) (omega arith) (omega arith))
      ∙ ap (λ n. list_to (3 * n) (λ k. placed_corner e p (k / 3) (k % 3))) s.count

  pub same_low : (axis : ℕ) → axis < 3 → low_at d axis p ≡ low_at e axis p
  same_low axis ha =
      least_same (count_at d p) (λ i. placed_corner d p i axis) (λ i. placed_corner e p i axis) (λ i h. same_corner_lem i axis h ha)
      ∙ ap (λ n. least_to n (λ i. placed_corner e p i axis)) s.count

  pub same_high : (axis : ℕ) → axis < 3 → high_at d axis p ≡ high_at e axis p
  same_high axis ha =
      greatest_same (count_at d p) (λ i. placed_corner d p i axis) (λ i. placed_corner e p i axis) (λ i h. same_corner_lem i axis h ha)
      ∙ ap (λ n. greatest_to n (λ i. placed_corner e p i axis)) s.count

  pub same_taken : taken_at d p ≡ taken_at e p
  same_taken = ap (λ (z : ℤ). not (eqb (nat_abs z) 0)) s.shape

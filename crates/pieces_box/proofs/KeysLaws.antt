-- What is worked out of the boxes is the desk's: the ends of its pieces, and so the keys of its marks (`keyed_in`).
-- Of shapes and places in order, everything that is asked of the boxes holds (`all_asked`).
use Rattle.std.specs.Prelude.{ℕ, ◌≤◌, ◌<◌, ◌+◌, ◌*◌, ◌/◌, ◌%◌, ◌≡◌, refl, Bool, true, false, cond, ◌&&◌, List, eqb, ℤ, nat_abs, length, get_or, set}
use Rattle.std.proofs.Common.{sym, ap, ◌∙◌, subst, arith, length-set, get_or-set_same, get_or-set_other, ext_get_or, below_more, lt-ltb, eq-eqb, ne_eqb}
use Rattle.limits.specs.Limits
use Rattle.ints.specs.Bounds.{Within}
use Rattle.turns.specs.Turns.{signed_axis}
use Rattle.marks.specs.Marks.{axis_of, is_mark, mark_value}
use Rattle.marks.specs.Keys.{key_for, no_key, key_at, Keyed}
use Rattle.marks.proofs.Order.{at_mark, at_none}
use Rattle.pieces.specs.Pieces.{Store, Taken, taken_in, turn_in, PiecesInOrder, axes_of, taken_at, shape_at, turn_at, offset_at, count_at}
use Rattle.pieces.specs.Store.{taken_of, ranged}
use Rattle.pieces_box.specs.declared.boxes.Ends.{Ends}
use Rattle.pieces_box.specs.declared.boxes.ShapeBox.{ShapeBox}
use Rattle.pieces_box.specs.ShapeBox.{ends_along, moved_by, box_of, box_held, ends_in, Boxed, NearBox, EndsAsked, AllAsked, key_in, KeysIn, KeysTo}
use Rattle.pieces_box.specs.NearLaws.{near_box, near_along, moved_near}
use Rattle.pieces_box.proofs.TurnedLaws.{ends_of, ends_turned}

module _ {d : Store} {boxes : List ShapeBox} (o : PiecesInOrder d) (b : Boxed d.shapes boxes) where
  module _ {p : ℕ} (t : Taken d.places p) where
    some : 1 ≤ count_at d p
    some = let l = (o.places.all p t).loaded.some in omega arith

    shape< : shape_at d p < Limits.shapes
    shape< = (o.places.all p t).loaded.shape

    box_is : box_held boxes d.places p ≡ box_of d.shapes (shape_at d p)
    box_is = b.is (shape_at d p) shape< (o.shapes.few (shape_at d p) shape<) (o.places.all p t).loaded.some

    pub ends_in_lem : (axis : ℕ) → ends_in boxes d.places axis p ≡ ends_of d axis p
    ends_in_lem axis =
        ap (λ (c : ShapeBox). moved_by (ends_along c (signed_axis (turn_at d p) axis)) (offset_at d p axis)) box_is
        ∙ sym (ends_turned d p axis some)

    pub asked : EndsAsked boxes d.places p
    asked =
        let q = o.places.all p t in
        record {
          place = t.place;
          some = t.holds;
          shape = q.shape;
          turn = q.turn;
          near = subst NearBox (sym box_is) (near_box d.shapes (shape_at d p) (count_at d p) some (λ k. o.shapes.near (shape_at d p) k shape<));
          offset = q.offset;
        }

  pub all_asked : AllAsked boxes d.places
  all_asked = record { all = λ p t. asked t }

  -- ---- the keys
  pub key_in_lem : (axis mark : ℕ) → mark < Limits.axis_marks → key_in boxes d.places axis mark ≡ key_at (axis_of (axes_of d) axis) mark
  key_in_lem axis mark h = go (taken_at d (mark / 2)) refl
    where
      is_mark_lem : (v : Bool) → taken_at d (mark / 2) ≡ v → is_mark (axis_of (axes_of d) axis) mark ≡ v
      is_mark_lem v e = ap (λ (u : Bool). u && taken_at d (mark / 2)) (lt-ltb mark Limits.axis_marks h) ∙ e

      value : (t : Taken d.places (mark / 2))
          → cond (eqb (mark % 2) 0) (ends_in boxes d.places axis (mark / 2)).low (ends_in boxes d.places axis (mark / 2)).high ≡ mark_value (axis_of (axes_of d) axis) mark
      value t = ap (λ (e : Ends). cond (eqb (mark % 2) 0) e.low e.high) (ends_in_lem t axis)

      go : (v : Bool) → taken_at d (mark / 2) ≡ v → key_in boxes d.places axis mark ≡ key_at (axis_of (axes_of d) axis) mark
      go true e =
          ap (λ (v : Bool). cond v (key_for (cond (eqb (mark % 2) 0) (ends_in boxes d.places axis (mark / 2)).low (ends_in boxes d.places axis (mark / 2)).high) mark) no_key) e
          ∙ ap (λ (z : ℤ). key_for z mark) (value (taken_of d (mark / 2) (omega arith) e))
          ∙ sym (at_mark (axis_of (axes_of d) axis) mark (is_mark_lem true e))
      go false e =
          ap (λ (v : Bool). cond v (key_for (cond (eqb (mark % 2) 0) (ends_in boxes d.places axis (mark / 2)).low (ends_in boxes d.places axis (mark / 2)).high) mark) no_key) e
          ∙ sym (at_none (axis_of (axes_of d) axis) mark (is_mark_lem false e))

  pub keyed_in : {axis : ℕ} {keys : List ℕ} → axis < 3 → KeysIn boxes d.places axis keys → Keyed (axis_of (axes_of d) axis) keys
  keyed_in {axis} h k = record { ranged = ranged o axis h; is = λ mark l. k.is mark l ∙ key_in_lem axis mark l }

-- ---- the keys of a place's two marks
module _ (boxes : List ShapeBox) (places : List ℤ) (axis : ℕ) where
  pub key_none : (mark : ℕ) → taken_in places (mark / 2) ≡ false → no_key ≡ key_in boxes places axis mark
  key_none mark e =
      sym (ap (λ (v : Bool). cond v (key_for (cond (eqb (mark % 2) 0) (ends_in boxes places axis (mark / 2)).low (ends_in boxes places axis (mark / 2)).high) mark) no_key) e)

  key_side : (p mark : ℕ) (b : Bool) → mark / 2 ≡ p → eqb (mark % 2) 0 ≡ b → taken_in places p ≡ true
      → key_for (cond b (ends_in boxes places axis p).low (ends_in boxes places axis p).high) mark ≡ key_in boxes places axis mark
  key_side p mark b q r e =
      sym
      (ap (λ (n : ℕ). cond (taken_in places n) (key_for (cond (eqb (mark % 2) 0) (ends_in boxes places axis n).low (ends_in boxes places axis n).high) mark) no_key) q
      ∙ ap (λ (v : Bool). cond v (key_for (cond (eqb (mark % 2) 0) (ends_in boxes places axis p).low (ends_in boxes places axis p).high) mark) no_key) e
      ∙ ap (λ (v : Bool). key_for (cond v (ends_in boxes places axis p).low (ends_in boxes places axis p).high) mark) r)

  pub key_low : (p : ℕ) → taken_in places p ≡ true → key_for (ends_in boxes places axis p).low (2 * p) ≡ key_in boxes places axis (2 * p)
  key_low p e = key_side p (2 * p) true (omega arith) (eq-eqb ((2 * p) % 2) 0 (omega arith)) e

  pub key_high : (p : ℕ) → taken_in places p ≡ true → key_for (ends_in boxes places axis p).high (2 * p + 1) ≡ key_in boxes places axis (2 * p + 1)
  key_high p e = key_side p (2 * p + 1) false (omega arith) (ne_eqb ((2 * p + 1) % 2) 0 (λ z. omega arith)) e

  -- the ends are those of a near box, moved by a near offset
  pub placed_ends : {p : ℕ} → EndsAsked boxes places p → axis < 3
      → Within Limits.placed_reach (ends_in boxes places axis p).low × Within Limits.placed_reach (ends_in boxes places axis p).high
  placed_ends {p} a h =
      let n = near_along a.near (signed_axis (nat_abs (turn_in places p)) axis) in
      let o = a.offset axis h in
      (moved_near n.low o, moved_near n.high o)

-- two keys more of the list
keys_two : (f : ℕ → ℕ) (keys : List ℕ) (p : ℕ) {a b : ℕ} → 2 * p + 1 < length keys → ((k : ℕ) → k < 2 * p → get_or keys k 0 ≡ f k) → a ≡ f (2 * p) → b ≡ f (2 * p + 1)
    → (k : ℕ) → k < 2 * (p + 1) → get_or (set (set keys (2 * p) a) (2 * p + 1) b) k 0 ≡ f k
keys_two f keys p {a} {b} l h ea eb k m =
    below_more (λ j. get_or (set (set keys (2 * p) a) (2 * p + 1) b) j 0 ≡ f j) (2 * p + 1)
    (λ j n. get_or-set_other (set keys (2 * p) a) (2 * p + 1) j b 0 (λ q. omega arith) ∙ first j n)
    (get_or-set_same (set keys (2 * p) a) (2 * p + 1) b 0 (omega (arith, length-set keys (2 * p) a)) ∙ eb)
    k
    (omega arith)
  where
    first : (j : ℕ) → j < 2 * p + 1 → get_or (set keys (2 * p) a) j 0 ≡ f j
    first = below_more (λ j. get_or (set keys (2 * p) a) j 0 ≡ f j) (2 * p)
        (λ j n. get_or-set_other keys (2 * p) j a 0 (λ q. omega arith) ∙ h j n)
        (get_or-set_same keys (2 * p) a 0 (omega arith) ∙ ea)

-- ---- the keys of the first places: of none, of one more, of all
module _ {boxes : List ShapeBox} {places : List ℤ} {axis : ℕ} {keys : List ℕ} where
  pub keys_none : length keys ≡ Limits.axis_marks → KeysTo boxes places axis 0 keys
  keys_none e = record { long = e; is = λ k h. absurd (omega arith) }

  pub keys_more : {p low high : ℕ} → p < Limits.places → KeysTo boxes places axis p keys → low ≡ key_in boxes places axis (2 * p) → high ≡ key_in boxes places axis (2 * p + 1)
      → KeysTo boxes places axis (p + 1) (set (set keys (2 * p) low) (2 * p + 1) high)
  keys_more {p} {low} {high} h t el eh = record {
    long = length-set (set keys (2 * p) low) (2 * p + 1) high ∙ length-set keys (2 * p) low ∙ t.long;
    is = keys_two (key_in boxes places axis) keys p (omega (arith, t.long)) t.is el eh;
  }

  pub keys_all : {p : ℕ} → Limits.places ≤ p → KeysTo boxes places axis p keys → KeysIn boxes places axis keys
  keys_all h t = record { long = t.long; is = λ mark l. t.is mark (omega arith) }

-- the keys of an axis are one list
pub keys_once : {boxes : List ShapeBox} {places : List ℤ} {axis : ℕ} {k l : List ℕ} → KeysIn boxes places axis k → KeysIn boxes places axis l → k ≡ l
keys_once {k} {l} x y = ext_get_or 0 k l (x.long ∙ sym y.long) (λ i h. x.is i (omega (arith, x.long)) ∙ sym (y.is i (omega (arith, x.long))))

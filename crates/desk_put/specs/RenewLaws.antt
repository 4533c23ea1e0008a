-- The keys of the marks while one place is handled: the others keep theirs, and its two are worked out anew (`keyed_put`).
-- So the marks, slid by their keys, are in place for the pieces as they are now (`renewed_marks`).
use Rattle.std.specs.Prelude.{◌≡◌, refl, Bool, true, false, cond, ◌&&◌, List, ℕ, ◌<◌, eqb, ℤ, length, get_or, set}
use Rattle.std.proofs.Common.{sym, ap, ◌∙◌, subst, arith, lt-ltb, length-set, get_or-set_same, get_or-set_other}
use Rattle.ints.specs.Cases.{by-same}
use Rattle.limits.specs.Limits
use Rattle.marks.specs.Marks.{Axis, axis_of, low_mark, high_mark, mark_place, side_of, mark_value, is_mark, Ranged, OthersStayOn, OthersStayMarks, InPlaceMarks}
use Rattle.marks.specs.declared.MarkKeys.{MarkKeys}
use Rattle.marks.specs.Keys.{key_for, key_at, Keyed, KeyedMarks, keys_put}
use Rattle.marks.specs.Promises.{ReorderedMarks}
use Rattle.marks.proofs.Order.{at_mark, at_none}
use Rattle.marks.proofs.Buffer.{on_axis_lem}
use Rattle.pieces.specs.Pieces.{Store, PiecesInOrder, axes_of}
use Rattle.pieces.specs.Store.{ranged}
use Rattle.pieces_box.specs.declared.boxes.ShapeBox.{ShapeBox}
use Rattle.pieces_box.specs.ShapeBox.{Boxed, key_in}
use Rattle.pieces_box.proofs.KeysLaws.{key_in_lem}
use Rattle.desk_state.specs.Worked.{Worked}
use Rattle.desk_put.specs.Handled.{keys_for, RenewedIn}

-- ---- on one axis
-- a mark of another place keeps its key
key_stays : (old new : Axis) (p : ℕ) → OthersStayOn p old new → (m : ℕ) → m < Limits.axis_marks → (mark_place m ≡ p → ⊥) → key_at old m ≡ key_at new m
key_stays old new p same m h f = go (old.taken (mark_place m)) refl
  where
    below : mark_place m < Limits.places
    below = omega arith

    mark : (a : Axis) (b : Bool) → a.taken (mark_place m) ≡ b → is_mark a m ≡ b
    mark a b e = ap (λ (c : Bool). c && a.taken (mark_place m)) (lt-ltb m Limits.axis_marks h) ∙ e

    value : old.taken (mark_place m) ≡ true → mark_value old m ≡ mark_value new m
    value e = side (eqb (side_of m) 0)
      where
        side : (b : Bool) → cond b (old.low (mark_place m)) (old.high (mark_place m)) ≡ cond b (new.low (mark_place m)) (new.high (mark_place m))
        side true = same.low (mark_place m) below f e
        side false = same.high (mark_place m) below f e

    taken : (b : Bool) → old.taken (mark_place m) ≡ b → new.taken (mark_place m) ≡ b
    taken b e = sym (same.taken (mark_place m) below f) ∙ e

    go : (b : Bool) → old.taken (mark_place m) ≡ b → key_at old m ≡ key_at new m
    go true e = at_mark old m (mark old true e) ∙ ap (λ (z : ℤ). key_for z m) (value e) ∙ sym (at_mark new m (mark new true (taken true e)))
    go false e = at_none old m (mark old false e) ∙ sym (at_none new m (mark new false (taken false e)))

keyed_put : {old new : Axis} {p : ℕ} {keys : List ℕ} {k : MarkKeys} → OthersStayOn p old new → p < Limits.places → length keys ≡ Limits.axis_marks → Keyed old keys → Ranged new
    → k.low ≡ key_at new (low_mark p) → k.high ≡ key_at new (high_mark p) → Keyed new (keys_put keys p k)
keyed_put {old} {new} {p} {keys} {k} same h l o r el eh =
    record { ranged = r; is = λ m b. by-same m (low_mark p) (low m) (λ f. by-same m (high_mark p) (high m) (other m b f)) }
  where
    low : (m : ℕ) → m ≡ low_mark p → get_or (keys_put keys p k) m 0 ≡ key_at new m
    low m e =
        subst (λ (n : ℕ). get_or (keys_put keys p k) n 0 ≡ key_at new n) (sym e)
        (get_or-set_same (set keys (high_mark p) k.high) (low_mark p) k.low 0 (omega (arith, length-set keys (high_mark p) k.high)) ∙ el)

    high : (m : ℕ) → m ≡ high_mark p → get_or (keys_put keys p k) m 0 ≡ key_at new m
    high m e =
        subst (λ (n : ℕ). get_or (keys_put keys p k) n 0 ≡ key_at new n) (sym e)
        (get_or-set_other (set keys (high_mark p) k.high) (low_mark p) (high_mark p) k.low 0 (λ q. omega arith) ∙ get_or-set_same keys (high_mark p) k.high 0 (omega arith) ∙ eh)

    other : (m : ℕ) → m < Limits.axis_marks → (m ≡ low_mark p → ⊥) → (m ≡ high_mark p → ⊥) → get_or (keys_put keys p k) m 0 ≡ key_at new m
    other m b f g =
        get_or-set_other (set keys (high_mark p) k.high) (low_mark p) m k.low 0 f
        ∙ get_or-set_other keys (high_mark p) m k.high 0 g
        ∙ o.is m b ∙ key_stays old new p same m b (λ q. omega (arith, f, g))

-- ---- on the three
-- the keys that were worked out are the place's
module _ (boxes : List ShapeBox) (places : List ℤ) (p : ℕ) where
  pub keys_are : (axis : ℕ) {k : MarkKeys} → (k.low ≡ key_in boxes places axis (low_mark p)) × (k.high ≡ key_in boxes places axis (high_mark p)) → k ≡ keys_for boxes places axis p
  keys_are axis e = λ i. record { low = e.0 i; high = e.1 i }

  pub renewed_in : {kx ky kz : MarkKeys} {x y z x' y' z' before after : List ℕ} → kx ≡ keys_for boxes places 0 p → ky ≡ keys_for boxes places 1 p → kz ≡ keys_for boxes places 2 p
      → ReorderedMarks p kx ky kz x y z x' y' z' before after → RenewedIn boxes places p x y z x' y' z' before after
  renewed_in ex ey ez r = rw (sym ex, sym ey, sym ez) r

module _ {d e : Store} {boxes : List ShapeBox} {p : ℕ} {x y z x' y' z' before after : List ℕ} (w : Worked d boxes x y z) (same : d.shapes ≡ e.shapes) (o : PiecesInOrder e)
    (h : p < Limits.places) (others : OthersStayMarks p (axes_of d) (axes_of e)) (r : RenewedIn boxes e.places p x y z x' y' z' before after) where
  boxed : Boxed e.shapes boxes
  boxed = subst (λ (s : List ℤ). Boxed s boxes) same w.boxed

  on : (axis : ℕ) → axis < 3 → (keys : List ℕ) → length keys ≡ Limits.axis_marks → Keyed (axis_of (axes_of d) axis) keys → Keyed (axis_of (axes_of e) axis) (keys_put keys p (keys_for boxes
      e.places axis p))
  on axis l keys n k =
      keyed_put (on_axis_lem p axis (axes_of d) (axes_of e) l others) h n k (ranged o axis l) (key_in_lem o boxed axis (low_mark p) (omega arith)) (key_in_lem o boxed axis (high_mark p) (omega arith))

  -- the keys are those of the pieces as they are now, and the marks are in place for them
  pub renewed_keys : KeyedMarks (axes_of e) x' y' z'
  renewed_keys = record {
    on_x_lem = subst (Keyed (axis_of (axes_of e) 0)) (sym r.put_x) (on 0 (omega arith) x w.long_x w.keyed.on_x_lem);
    on_y_lem = subst (Keyed (axis_of (axes_of e) 1)) (sym r.put_y) (on 1 (omega arith) y w.long-y w.keyed.on_y_lem);
    on_z_lem = subst (Keyed (axis_of (axes_of e) 2)) (sym r.put_z) (on 2 (omega arith) z w.long_z w.keyed.on_z_lem);
  }

  pub renewed_marks : InPlaceMarks (axes_of d) before → InPlaceMarks (axes_of e) after
  renewed_marks m = r.stays (axes_of d) (axes_of e) w.keyed renewed_keys m

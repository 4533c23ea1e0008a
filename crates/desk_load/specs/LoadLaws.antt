-- What becomes of the desk when a shape is loaded: every piece is the same, and the desk stays in order.
-- "A loaded shape is never altered", and a taken place names a loaded shape; so a shape that is not loaded yet may change.
use Rattle.std.specs.Prelude.{◌≡◌, refl, List, ◌∷◌, Bool, true, cond, ◌&&◌, ℕ, suc, ◌+◌, ◌*◌, ◌/◌, ◌≤◌, ◌<◌, eqb, ltb, length, get_or, ℤ, pos, nat_abs}
use Rattle.std.proofs.Common.{sym, ap, ap₂, ◌∙◌, subst, inl, inr, arith}
use Rattle.ints.specs.Bounds.{Within}
use Rattle.limits.specs.Limits
use Rattle.limits.specs.Numbered.{Numbered}
use Rattle.space.specs.Lists.{LengthFits, InReach}
use Rattle.ints.specs.Cases.{by-same, by_less}
use Rattle.marks.specs.Marks.{Axis, axis_of, mark_place, side_of, mark_value, is_mark, earlier, InPlace, InPlaceMarks, Agree}
use Rattle.marks.proofs.Order.{mark_low, no-mark}
use Rattle.pieces.specs.Pieces.{Store, store_of, Sized, Taken, Loaded, PiecesInOrder, count_in, corners_of, shape_value, shape_at, axes_of, loaded_in}
use Rattle.pieces.specs.Store.{SameAt, same_low, same_high, taken_of}
use Rattle.pieces.specs.Storing.{sets_other, sets_at}
use Rattle.desk_state.specs.Desk.{Desk, InOrder, loaded_at}

-- ---- the marks of axes that agree on the taken places
module _ {a b : Axis} (g : Agree a b) where
  mark_agrees : (m : ℕ) → is_mark a m ≡ is_mark b m
  mark_agrees m = by_less m Limits.axis_marks
      (λ h. ap (λ (t : Bool). ltb m Limits.axis_marks && t) (g.taken (mark_place m) (omega arith)))
      (λ h. no-mark a m h ∙ sym (no-mark b m h))

  value_agrees : (m : ℕ) → is_mark a m ≡ true → mark_value a m ≡ mark_value b m
  value_agrees m h =
      let l = mark_low a m h in
      let p : mark_place m < Limits.places = omega (arith, l.0) in
      ap₂ (λ (u v : ℤ). cond (eqb (side_of m) 0) u v) (g.low (mark_place m) p l.1) (g.high (mark_place m) p l.1)

  earlier_agrees : (m n : ℕ) → is_mark a m ≡ true → is_mark a n ≡ true → earlier a m n ≡ earlier b m n
  unfolding earlier
  earlier_agrees m n h k = rw (value_agrees m h, value_agrees n k)

  pub in_place_agrees : {part : List ℕ} → InPlace a part → InPlace b part
  in_place_agrees {part} p = record {
    long = p.long;
    each = λ i h. elim (p.each i h) [ inl e ↦ inl e | inr e ↦ inr (sym (mark_agrees (get_or part i 0)) ∙ e) ];
    all = λ m h. p.all m (mark_agrees m ∙ h);
    order = λ i j l h f.
        let o = p.order i j l h f in
        (o.0, sym (earlier_agrees (get_or part i 0) (get_or part j 0) (stands i (omega arith) o.0) (stands j h f)) ∙ o.1);
  }
    where
      stands : (i : ℕ) → i < Limits.axis_marks → (get_or part i 0 ≡ Limits.no_mark → ⊥) → is_mark a (get_or part i 0) ≡ true
      stands i h f = elim (p.each i h) [ inl e ↦ absurd (f e) | inr e ↦ e ]

-- ---- a shape loaded
module _ (d : Store) (s : ℕ) (numbers : List ℤ) (o : PiecesInOrder d) (new : Loaded d s → ⊥) (fits : length numbers ≤ Limits.shape_numbers) where
  -- the store once the shape is in it
  abbrev loads : Store
  loads = store_of (loaded_in d.shapes s numbers) d.places

  other_shape : (q : ℕ) → Taken d.places q → shape_at d q ≡ s → ⊥
  other_shape q t e = new (subst (Loaded d) e (o.places.all q t).loaded)

  other_cell : (i k : ℕ) → (i ≡ s → ⊥) → k < Limits.shape_cells → get_or loads.shapes (i * Limits.shape_cells + k) (pos 0) ≡ get_or d.shapes (i * Limits.shape_cells + k) (pos 0)
  other_cell i k f h =
      sets_other (pos (length numbers / 3) ∷ numbers) d.shapes (s * Limits.shape_cells) (i * Limits.shape_cells + k) (by_less i s (λ l. inl (omega arith)) (λ l. inr (omega (arith, f))))

  count_stays : (i : ℕ) → (i ≡ s → ⊥) → count_in loads.shapes i ≡ count_in d.shapes i
  count_stays i f =
      let e : i * Limits.shape_cells + 0 ≡ i * Limits.shape_cells = omega arith in
      subst (λ (k : ℕ). get_or loads.shapes k (pos 0) ≡ get_or d.shapes k (pos 0)) e (other_cell i 0 f (omega arith))

  pub load_count : (i : ℕ) → (i ≡ s → ⊥) → corners_of loads i ≡ corners_of d i
  load_count i f = ap nat_abs (count_stays i f)

  pub load_number : (i k : ℕ) → (i ≡ s → ⊥) → k < Limits.shape_numbers → shape_value loads i k ≡ shape_value d i k
  load_number i k f h =
      let e : i * Limits.shape_cells + (1 + k) ≡ i * Limits.shape_cells + 1 + k = omega arith in
      subst (λ (n : ℕ). get_or loads.shapes n (pos 0) ≡ get_or d.shapes n (pos 0)) e (other_cell i (1 + k) f (omega arith))

  pub load_same : (q : ℕ) → Taken d.places q → SameAt d loads q
  load_same q t =
      let f = other_shape q t in
      let few = (o.shapes.few (shape_at d q) (o.places.all q t).loaded.shape).below in
      record {
        shape = refl;
        turn = refl;
        offset = λ axis h. refl;
        count = sym (load_count (shape_at d q) f);
        numbers = λ k h. sym (load_number (shape_at d q) k f (omega arith));
      }

  load_agree : (axis : ℕ) → axis < 3 → Agree (axis_of (axes_of d) axis) (axis_of (axes_of loads) axis)
  load_agree axis h = record {
    taken = λ p l. refl;
    low = λ p l e. same_low (load_same p (taken_of d p l e)) axis h;
    high = λ p l e. same_high (load_same p (taken_of d p l e)) axis h;
  }

  pub load_marks : {marks : List ℕ} → InPlaceMarks (axes_of d) marks → InPlaceMarks (axes_of loads) marks
  load_marks m = record {
    long = m.long;
    on_x_lem = in_place_agrees (load_agree 0 (omega arith)) m.on_x_lem;
    on_y_lem = in_place_agrees (load_agree 1 (omega arith)) m.on_y_lem;
    on_z_lem = in_place_agrees (load_agree 2 (omega arith)) m.on_z_lem;
  }

  module _ (size : Sized d) (h : s < Limits.shapes) where
    -- the count first, then the numbers
    here_cell : (k : ℕ) → k < 1 + length numbers → get_or loads.shapes (s * Limits.shape_cells + k) (pos 0) ≡ get_or (pos (length numbers / 3) ∷ numbers) k (pos 0)
    here_cell k l = sets_at (pos (length numbers / 3) ∷ numbers) d.shapes (s * Limits.shape_cells) k (let n = size.shapes in omega arith) (omega arith)

    count_here : count_in loads.shapes s ≡ pos (length numbers / 3)
    count_here =
        let e : s * Limits.shape_cells ≡ s * Limits.shape_cells + 0 = omega arith in
        ap (λ (k : ℕ). get_or loads.shapes k (pos 0)) e ∙ here_cell 0 (omega arith)

    pub load_count_here : corners_of loads s ≡ length numbers / 3
    load_count_here = ap nat_abs count_here

    pub load_number_here : (k : ℕ) → k < length numbers → shape_value loads s k ≡ get_or numbers k (pos 0)
    load_number_here k l =
        let e : s * Limits.shape_cells + 1 + k ≡ s * Limits.shape_cells + suc k = omega arith in
        ap (λ (n : ℕ). get_or loads.shapes n (pos 0)) e ∙ here_cell (suc k) (omega arith)

    pub load_pieces : LengthFits (length numbers) → InReach Limits.shape_reach numbers → PiecesInOrder loads
    load_pieces w r = record {
      shapes = record { few = few; near = near };
      places = record {
        all = λ q t. record {
          shape = (o.places.all q t).shape;
          loaded = record { shape = (o.places.all q t).loaded.shape; some = λ e. (o.places.all q t).loaded.some ((load_same q t).count ∙ e) };
          turn = (o.places.all q t).turn;
          offset = (o.places.all q t).offset;
        };
      };
    }
      where
        here : Numbered (Limits.corners + 1) (pos (length numbers / 3))
        here = record { natural = refl; below = omega (arith, w.most, w.is) }

        few : (i : ℕ) → i < Limits.shapes → Numbered (Limits.corners + 1) (count_in loads.shapes i)
        few i l = by-same i s
            (λ e. subst (λ n. Numbered (Limits.corners + 1) (count_in loads.shapes n)) (sym e) (subst (Numbered (Limits.corners + 1)) (sym count_here) here))
            (λ f. subst (Numbered (Limits.corners + 1)) (sym (count_stays i f)) (o.shapes.few i l))

        near : (i k : ℕ) → i < Limits.shapes → k < 3 * corners_of loads i → Within Limits.shape_reach (shape_value loads i k)
        near i k l h = by-same i s
            (λ e. subst (λ n. Within Limits.shape_reach (shape_value loads n k)) (sym e)
            (let below : k < length numbers = (let c = ap (corners_of loads) e ∙ load_count_here in omega arith) in
            subst (Within Limits.shape_reach) (sym (load_number_here k below)) (r.all k below)))
            (λ f.
            let c = load_count i f in
            let m = (o.shapes.few i l).below in
            subst (Within Limits.shape_reach) (sym (load_number i k f (omega arith))) (o.shapes.near i k l (omega arith)))

-- "every accepted command leaves one in order"
pub load_order : {d : Desk} {s : ℕ} {numbers : List ℤ} → InOrder d → Sized d.store → s < Limits.shapes → (Loaded d.store s → ⊥)
    → LengthFits (length numbers) → InReach Limits.shape_reach numbers → InOrder (loaded_at d s numbers)
load_order {d} {s} {numbers} o size h new w r =
    let fits : length numbers ≤ Limits.shape_numbers = (let m = w.most in let is = w.is in omega arith) in
    record {
      pieces = load_pieces d.store s numbers o.pieces new fits size h w r;
      marks = load_marks d.store s numbers o.pieces new fits o.marks;
      rows = o.rows;
      book = o.book;
    }

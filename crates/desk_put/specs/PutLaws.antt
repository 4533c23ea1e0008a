-- What becomes of the pieces when one place is put or emptied: every other piece is the same, and the store stays in order.
-- "An accepted command stores exactly the shape or placement it names, or empties the place it names; every other shape and place stays."
use Rattle.std.specs.Prelude.{◌≡◌, refl, List, [], ◌∷◌, ℕ, zero, suc, ◌+◌, ◌-◌, ◌*◌, ◌≤◌, ◌<◌, length, get_or, ℤ, pos, negsuc, nat_abs, ◌+ℤ◌}
use Rattle.std.proofs.Common.{sym, ap, ◌∙◌, subst, inl, inr, arith}
use Rattle.std.proofs.lemmas.List.Edits.{sets}
use Rattle.ints.specs.Bounds.{Within}
use Rattle.limits.specs.Limits
use Rattle.limits.specs.Numbered.{Numbered}
use Rattle.ints.specs.Cases.{by-same, by_less}
use Rattle.marks.specs.Marks.{OthersStayMarks}
use Rattle.pieces.specs.declared.placement.Placement.{Placement}
use Rattle.pieces.specs.Pieces.{Store, store_of, Sized, Taken, OthersStay, Loaded, PiecesInOrder, PlaceInOrder, held_in, turn_in, count_in, offset_at, axes_of}
use Rattle.pieces.specs.Store.{SameAt, same_low, same_high, same_taken}
use Rattle.pieces.specs.Storing.{sets_other, sets_at}
use Rattle.desk_state.specs.Desk.{OffsetFits, put_at, emptied_at}

-- ---- a run of stores at one place leaves the cells of every other
module _ (d : Store) (p : ℕ) (cells : List ℤ) (few : length cells ≤ Limits.place_cells) where
  abbrev stored : Store
  stored = store_of d.shapes (sets d.places (Limits.place_cells * p) cells)

  other_cell : (q k : ℕ) → (q ≡ p → ⊥) → k < Limits.place_cells → get_or d.places (Limits.place_cells * q + k) (pos 0) ≡ get_or stored.places (Limits.place_cells * q + k) (pos 0)
  other_cell q k f h = sym (sets_other cells d.places (Limits.place_cells * p) (Limits.place_cells * q + k) (by_less q p (λ l. inl (omega arith)) (λ l. inr (omega (arith, f)))))

  held_same : (q : ℕ) → (q ≡ p → ⊥) → held_in d.places q ≡ held_in stored.places q
  held_same q f =
      let e : Limits.place_cells * q + 0 ≡ Limits.place_cells * q = omega arith in
      subst (λ (k : ℕ). get_or d.places k (pos 0) ≡ get_or stored.places k (pos 0)) e (other_cell q 0 f (omega arith))

  same_at : (q : ℕ) → (q ≡ p → ⊥) → SameAt d stored q
  same_at q f = record {
    shape = held_same q f;
    turn = other_cell q 1 f (omega arith);
    offset = offset;
    count = ap (λ (z : ℤ). nat_abs (count_in d.shapes (nat_abs z - 1))) (held_same q f);
    numbers = λ k h. ap (λ (z : ℤ). get_or d.shapes ((nat_abs z - 1) * Limits.shape_cells + 1 + k) (pos 0)) (held_same q f);
  }
    where
      offset : (axis : ℕ) → axis < 3 → offset_at d q axis ≡ offset_at stored q axis
      offset axis h =
          let e : Limits.place_cells * q + (2 + axis) ≡ Limits.place_cells * q + 2 + axis = omega arith in
          subst (λ (k : ℕ). get_or d.places k (pos 0) ≡ get_or stored.places k (pos 0)) e (other_cell q (2 + axis) f (omega arith))

  others : OthersStay p d.places stored.places
  others = record { same = λ q h f. ap nat_abs (sym (held_same q f)) }

  others_marks : OthersStayMarks p (axes_of d) (axes_of stored)
  others_marks = record {
    taken = λ q h f. same_taken (same_at q f);
    low = λ axis q ha h f u. same_low (same_at q f) axis ha;
    high = λ axis q ha h f u. same_high (same_at q f) axis ha;
  }

  -- every other place that is taken is in order as it was
  there : PiecesInOrder d → (q : ℕ) → (q ≡ p → ⊥) → Taken stored.places q → PlaceInOrder stored q
  there o q f k =
      let same = same_at q f in
      let was = o.places.all q (record { place = k.place; holds = λ n. k.holds (ap nat_abs (sym same.shape) ∙ n) }) in
      let g = ap (λ (z : ℤ). nat_abs z - 1) same.shape in
      record {
        shape = subst (Numbered (Limits.shapes + 1)) same.shape was.shape;
        loaded = record { shape = subst (λ (n : ℕ). n < Limits.shapes) g was.loaded.shape; some = λ n. was.loaded.some (ap (λ (m : ℕ). nat_abs (count_in d.shapes m)) g ∙ n) };
        turn = subst (Numbered Limits.turns) same.turn was.turn;
        offset = λ axis l. subst (Within Limits.shape_reach) (same.offset axis l) (was.offset axis l);
      }

  in_order_lem : PiecesInOrder d → (Taken stored.places p → PlaceInOrder stored p) → PiecesInOrder stored
  in_order_lem o here = record {
    shapes = record { few = o.shapes.few; near = o.shapes.near };
    places = record { all = λ q k. by-same q p (λ g. subst (PlaceInOrder stored) (sym g) (here (subst (Taken stored.places) g k))) (λ f. there o q f k) };
  }

-- ---- a placement put
-- a shape number and one more
held_by : (z : ℤ) → z ≡ pos (nat_abs z) → z +ℤ pos 1 ≡ pos (nat_abs z + 1)
held_by (pos n) e = refl
held_by (negsuc n) e = absurd (let k : ◌≡◌ {A = ℕ} 0 1 = cc in omega arith)

module _ (d : Store) (p : ℕ) (q : Placement) where
  abbrev cells : List ℤ
  cells = (q.shape +ℤ pos 1) ∷ q.turn ∷ q.x ∷ q.y ∷ q.z ∷ []

  pub put_same : (r : ℕ) → (r ≡ p → ⊥) → SameAt d (put_at d p q) r
  put_same = same_at d p cells (omega arith)

  pub put_others : OthersStay p d.places (put_at d p q).places
  put_others = others d p cells (omega arith)

  pub put_others_marks : OthersStayMarks p (axes_of d) (axes_of (put_at d p q))
  put_others_marks = others_marks d p cells (omega arith)

  module _ (size : Sized d) (h : p < Limits.places) where
    put_cell : (k : ℕ) → k < 5 → get_or (put_at d p q).places (Limits.place_cells * p + k) (pos 0) ≡ get_or cells k (pos 0)
    put_cell k l = sets_at cells d.places (Limits.place_cells * p) k (let n = size.places in omega arith) l

    pub put_shape_lem : held_in (put_at d p q).places p ≡ q.shape +ℤ pos 1
    put_shape_lem =
        let e : Limits.place_cells * p + 0 ≡ Limits.place_cells * p = omega arith in
        ap (λ (k : ℕ). get_or (put_at d p q).places k (pos 0)) (sym e) ∙ put_cell 0 (omega arith)

    pub put_turn : turn_in (put_at d p q).places p ≡ q.turn
    put_turn = put_cell 1 (omega arith)

    pub put_x : offset_at (put_at d p q) p 0 ≡ q.x
    put_x =
        let e : Limits.place_cells * p + 2 + 0 ≡ Limits.place_cells * p + 2 = omega arith in
        ap (λ (k : ℕ). get_or (put_at d p q).places k (pos 0)) e ∙ put_cell 2 (omega arith)

    pub put_y : offset_at (put_at d p q) p 1 ≡ q.y
    put_y =
        let e : Limits.place_cells * p + 2 + 1 ≡ Limits.place_cells * p + 3 = omega arith in
        ap (λ (k : ℕ). get_or (put_at d p q).places k (pos 0)) e ∙ put_cell 3 (omega arith)

    pub put_z : offset_at (put_at d p q) p 2 ≡ q.z
    put_z =
        let e : Limits.place_cells * p + 2 + 2 ≡ Limits.place_cells * p + 4 = omega arith in
        ap (λ (k : ℕ). get_or (put_at d p q).places k (pos 0)) e ∙ put_cell 4 (omega arith)

    put_offset : OffsetFits q.x q.y q.z → (axis : ℕ) → axis < 3 → Within Limits.shape_reach (offset_at (put_at d p q) p axis)
    put_offset w zero l = subst (Within Limits.shape_reach) (sym put_x) w.on_x_lem
    put_offset w (suc zero) l = subst (Within Limits.shape_reach) (sym put_y) w.on_y_lem
    put_offset w (suc (suc zero)) l = subst (Within Limits.shape_reach) (sym put_z) w.on_z_lem
    put_offset w (suc (suc (suc n))) l = absurd (omega arith)

    module _ (s : Numbered Limits.shapes q.shape) where
      put_held : held_in (put_at d p q).places p ≡ pos (nat_abs q.shape + 1)
      put_held = put_shape_lem ∙ held_by q.shape s.natural

      -- the shape that the place holds now
      pub put_names : nat_abs (held_in (put_at d p q).places p) - 1 ≡ nat_abs q.shape
      put_names = let e = ap nat_abs put_held in omega arith

      pub put_taken : Taken (put_at d p q).places p
      put_taken = record { place = h; holds = λ k. let e = ap nat_abs put_held in omega arith }

      -- the store stays in order where what is put is
      pub put_order : PiecesInOrder d → Loaded d (nat_abs q.shape) → Numbered Limits.turns q.turn → OffsetFits q.x q.y q.z → PiecesInOrder (put_at d p q)
      put_order o l t w = in_order_lem d p cells (omega arith) o (λ _. here)
        where
          here : PlaceInOrder (put_at d p q) p
          here = record {
            shape = subst (Numbered (Limits.shapes + 1)) (sym put_held) (record { natural = refl; below = let b = s.below in omega arith });
            loaded = record { shape = subst (λ (n : ℕ). n < Limits.shapes) (sym put_names) l.shape; some = λ k. l.some (ap (λ (n : ℕ). nat_abs (count_in d.shapes n)) (sym put_names) ∙ k) };
            turn = subst (Numbered Limits.turns) (sym put_turn) t;
            offset = put_offset w;
          }

-- ---- a place emptied
module _ (d : Store) (p : ℕ) where
  pub empty_same : (q : ℕ) → (q ≡ p → ⊥) → SameAt d (emptied_at d p) q
  empty_same = same_at d p (pos 0 ∷ []) (omega arith)

  pub empty_others : OthersStay p d.places (emptied_at d p).places
  empty_others = others d p (pos 0 ∷ []) (omega arith)

  pub empty_others_marks : OthersStayMarks p (axes_of d) (axes_of (emptied_at d p))
  empty_others_marks = others_marks d p (pos 0 ∷ []) (omega arith)

  pub empty_gone : Sized d → p < Limits.places → Taken (emptied_at d p).places p → ⊥
  empty_gone size h t =
      let e : Limits.place_cells * p + 0 ≡ Limits.place_cells * p = omega arith in
      t.holds (ap (λ (k : ℕ). nat_abs (get_or (emptied_at d p).places k (pos 0))) (sym e) ∙ ap nat_abs
      (sets_at (pos 0 ∷ []) d.places (Limits.place_cells * p) 0 (let l = size.places in omega arith) (omega arith)))

  pub empty_order : Sized d → p < Limits.places → PiecesInOrder d → PiecesInOrder (emptied_at d p)
  empty_order size h o = in_order_lem d p (pos 0 ∷ []) (omega arith) o (λ k. absurd (empty_gone size h k))

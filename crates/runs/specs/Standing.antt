-- What stands after every command: the desk in order, its pieces the plan's, each row of two pieces right. One law for each command that keeps it so.
-- What an accepted command has been asked is read off its refusals.
use Rattle.std.specs.Prelude.{◌≡◌, refl, List, [], ◌∷◌, cond, ℕ, ◌-◌, ◌*◌, ◌/◌, ◌≤◌, ◌<◌, ℤ, pos, negsuc, nat_abs, ◌+ℤ◌, length}
use Rattle.std.proofs.Common.{sym, ap, ◌∙◌, subst, inl, inr, arith, eq-eqb, ne_eqb, length-set}
use Rattle.std.proofs.lemmas.List.{length-replicate}
use Rattle.std.proofs.Math.Seq.{length-sets}
use Rattle.limits.specs.Limits
use Rattle.limits.specs.Lowest.{Rule, Lowest, Positive}
use Rattle.limits.specs.Numbered.{Numbered}
use Rattle.space.specs.Lists.{LengthFits}
use Rattle.pieces.specs.declared.placement.Placement.{Placement}
use Rattle.pieces.specs.Pieces.{Store, store_of, Sized, Loaded, Taken, held_in, turn_in, shape_at, offset_at, loaded_in}
use Rattle.pieces.specs.Store.{SameAt}
use Rattle.rows.specs.Rows.{PairOf, row_at, Handled}
use Rattle.ints.specs.Cases.{by-same, by_less}
use Rattle.rows.proofs.Handling.{pair_stayed, handled_right, handled_other}
use Rattle.rows_tally.specs.Counting.{filled_at}
use Rattle.desk_state.specs.Desk.{Desk, gap_of, InOrder, put_at, emptied_at, loaded_at, gap_at}
use Rattle.rows_right.specs.Right.{RowRight}
use Rattle.rows_right.specs.RowLaws.{right_same}
use Rattle.desk_put.specs.Handled.{PutDown, Emptied}
use Rattle.desk_put.specs.PutLaws.{put_same, put_others, put_turn, put_x, put_y, put_z, empty_same, empty_others, empty_gone}
use Rattle.desk_load.specs.LoadLaws.{load_same, load_count, load_number, load_count_here, load_number_here}
use Rattle.desk.specs.Commands.{fresh_desk, SomeTaken}
use Rattle.desk.specs.CommandLaws.{fresh_order, fresh_gap, gap_set_order, gap_set}
use Rattle.runs.specs.Log.{Spot, free, held, Plan, empty_plan, with_at}
use Rattle.runs.specs.Reached.{ShapeIs, PlaceIs, HoldsPlan}

-- ---- what an accepted command has been asked: none of its refusals applies
abbrev pub None : List Rule → Type 0
None [] = Unit {0}
None (r ∷ rest) = (r.applies → ⊥) × None rest

pub none_applies : (l : List Rule) → Positive l → Lowest l 0 → None l
none_applies [] p h = tt
none_applies (r ∷ l) p (inl h) = absurd (omega (arith, p.0, h.1))
none_applies (r ∷ l) p (inr h) = (h.0, none_applies l p.1 h.1)

pub numbered_of : (n : ℕ) (z : ℤ) → ((Numbered n z → ⊥) → ⊥) → Numbered n z
numbered_of n (pos m) f = record { natural = refl; below = by_less m n (λ h. h) (λ h. absurd (f (λ k. omega (arith, k.below)))) }
numbered_of n (negsuc m) f = absurd (f (λ k. let e = k.natural in let c : ◌≡◌ {A = ℕ} 0 1 = cc in omega arith))

pub whole_of : (n : ℕ) → ((LengthFits n → ⊥) → ⊥) → 3 * (n / 3) ≡ n
whole_of n f = by-same (3 * (n / 3)) n (λ e. e) (λ g. absurd (f (λ k. g (omega (arith, k.is)))))

pub few_of : (n : ℕ) → ((LengthFits n → ⊥) → ⊥) → n ≤ Limits.shape_numbers
few_of n f = by_less Limits.shape_numbers n (λ h. absurd (f (λ k. omega (arith, k.is, k.most)))) (λ h. h)

-- ---- one entry of a plan
pub at_each : {A : Type 0} (P : ℕ → A → Type 0) (f : ℕ → A) (n : ℕ) (v : A) → P n v → ((k : ℕ) → (k ≡ n → ⊥) → P k (f k)) → (k : ℕ) → P k (with_at f n v k)
at_each P f n v here there k =
    by-same k n
    (λ e. subst (λ b. P k (cond b v (f k))) (sym (eq-eqb k n e)) (subst (λ m. P m v) (sym e) here))
    (λ g. subst (λ b. P k (cond b v (f k))) (sym (ne_eqb k n g)) (there k g))

place-stays : (d e : Store) (p : ℕ) (spot : Spot) → held_in d.places p ≡ held_in e.places p → turn_in d.places p ≡ turn_in e.places p
    → ((axis : ℕ) → axis < 3 → offset_at d p axis ≡ offset_at e p axis) → PlaceIs d p spot → PlaceIs e p spot
place-stays d e p free s t o h = λ k. h (record { place = k.place; holds = λ z. k.holds (ap nat_abs (sym s) ∙ z) })
place-stays d e p (held q) s t o h = record {
  taken = record { place = h.taken.place; holds = λ k. h.taken.holds (ap nat_abs s ∙ k) };
  shape = ap (λ (z : ℤ). nat_abs z - 1) (sym s) ∙ h.shape;
  turn = ap nat_abs (sym t) ∙ h.turn;
  on_x_lem = sym (o 0 (omega arith)) ∙ h.on_x_lem;
  on_y_lem = sym (o 1 (omega arith)) ∙ h.on_y_lem;
  on_z_lem = sym (o 2 (omega arith)) ∙ h.on_z_lem;
}

place_same : {d e : Store} {p : ℕ} (spot : Spot) → SameAt d e p → PlaceIs d p spot → PlaceIs e p spot
place_same {d} {e} {p} spot s = place-stays d e p spot s.shape s.turn s.offset

-- ---- what stands after every command: the rows are right for the desk's own pieces, and its pieces are the plan's
pub record Standing (d : Desk) (plan : Plan) : Type 0 where
  pub order : InOrder d
  pub size : Sized d.store
  pub holds : HoldsPlan d.store plan
  pub gap : gap_of d ≡ plan.gap
  pub right : (low high : ℕ) → PairOf d.store.places low high → RowRight (gap_of d) d.store low high (row_at d.rows low high)

pub fresh_standing : Standing fresh_desk empty_plan
fresh_standing = record {
  order = fresh_order;
  size = record { shapes = length-replicate {A = ℤ} Limits.shapes_length (pos 0); places = length-replicate {A = ℤ} Limits.places_length (pos 0) };
  holds = record {
    shapes = λ s h. record { count = ap (λ (z : ℤ). 3 * nat_abs z) (filled_at {A = ℤ} (pos 0) Limits.shapes_length (s * Limits.shape_cells)); each = λ k l. absurd (omega arith) };
    places = no_place;
  };
  gap = fresh_gap;
  right = λ low high q. absurd (no_place low q.first);
}
  where
    no_place : (p : ℕ) → Taken fresh_desk.store.places p → ⊥
    no_place p t = t.holds (ap nat_abs (filled_at {A = ℤ} (pos 0) Limits.places_length (Limits.place_cells * p)))

-- a shape loaded
module _ {d : Desk} {plan : Plan} (s : ℕ) (numbers : List ℤ) (old : Standing d plan) (h : s < Limits.shapes) (new : Loaded d.store s → ⊥)
    (whole : 3 * (length numbers / 3) ≡ length numbers) (few : length numbers ≤ Limits.shape_numbers) where
  abbrev loads : Store
  loads = store_of (loaded_in d.store.shapes s numbers) d.store.places

  load_shapes : (i : ℕ) → i < Limits.shapes → ShapeIs loads i (with_at plan.shape s numbers i)
  load_shapes = at_each (λ i l. i < Limits.shapes → ShapeIs loads i l) plan.shape s numbers
      (λ _. record {
        count = ap (λ n. 3 * n) (load_count_here d.store s numbers old.order.pieces new few old.size h) ∙ whole;
        each = load_number_here d.store s numbers old.order.pieces new few old.size h;
      })
      (λ i f l.
      let was = old.holds.shapes i l in
      let most = (old.order.pieces.shapes.few i l).below in
      let c = was.count in
      record {
        count = ap (λ n. 3 * n) (load_count d.store s numbers old.order.pieces new few i f) ∙ c;
        each = λ k g. load_number d.store s numbers old.order.pieces new few i k f (omega arith) ∙ was.each k g;
      })

  pub load_standing : InOrder (loaded_at d s numbers) → Standing (loaded_at d s numbers) (record { shape = with_at plan.shape s numbers; place = plan.place; gap = plan.gap })
  load_standing o = record {
    order = o;
    size = record { shapes = length-sets d.store.shapes (s * Limits.shape_cells) (pos (length numbers / 3) ∷ numbers) ∙ old.size.shapes; places = old.size.places };
    holds = record { shapes = load_shapes; places = λ p. place-stays d.store loads p (plan.place p) refl refl (λ axis l. refl) (old.holds.places p) };
    gap = old.gap;
    right = λ low high q.
        let same = load_same d.store s numbers old.order.pieces new few in
        right_same (gap_of d) (same low q.first) (same high q.second) (old.right low high q);
  }

-- a gap set while no place is taken: no pair has a row
pub gap_standing : {d : Desk} {plan : Plan} (gap : ℕ) → Standing d plan → gap ≤ Limits.gap_most → (SomeTaken d.store.places → ⊥)
    → Standing (gap_at d gap) (record { shape = plan.shape; place = plan.place; gap = gap })
gap_standing gap old h none = record {
  order = gap_set_order h old.order;
  size = old.size;
  holds = record { shapes = old.holds.shapes; places = old.holds.places };
  gap = gap_set gap old.order;
  right = λ low high q. absurd (none (record { place = low; taken = q.first }));
}

-- the rows are right for a desk with this store and this gap
right_at_lem : (e : Desk) {S : Store} {g : ℕ} → e.store ≡ S → gap_of e ≡ g → ((low high : ℕ) → PairOf S.places low high → RowRight g S low high (row_at e.rows low high))
    → (low high : ℕ) → PairOf e.store.places low high → RowRight (gap_of e) e.store low high (row_at e.rows low high)
right_at_lem e {S} {g} es eg h =
    subst (λ (n : ℕ). (low high : ℕ) → PairOf e.store.places low high → RowRight n e.store low high (row_at e.rows low high)) (sym eg)
    (subst (λ (T : Store). (low high : ℕ) → PairOf T.places low high → RowRight g T low high (row_at e.rows low high)) (sym es) h)

pub put_sized : {d : Store} (p : ℕ) (q : Placement) → Sized d → Sized (put_at d p q)
put_sized {d} p q size = record { shapes = size.shapes; places = length-sets d.places (Limits.place_cells * p) ((q.shape +ℤ pos 1) ∷ q.turn ∷ q.x ∷ q.y ∷ q.z ∷ []) ∙ size.places }

-- a piece put down: the plan's placement names the shape that the place holds now
module _ {d e : Desk} {plan : Plan} (p : ℕ) (q : Placement) (s : ℤ) (old : Standing d plan) (h : p < Limits.places) (put : PutDown d p q e) (names : shape_at (put_at d.store p q) p ≡ nat_abs s) where
  abbrev puts : Store
  puts = put_at d.store p q

  abbrev spot : Spot
  spot = held (record { shape = s; turn = q.turn; x = q.x; y = q.y; z = q.z })

  put_piece : PlaceIs puts p spot
  put_piece = record {
    taken = subst (λ (S : Store). Taken S.places p) put.store put.taken;
    shape = names;
    turn = ap nat_abs (put_turn d.store p q old.size h);
    on_x_lem = put_x d.store p q old.size h;
    on_y_lem = put_y d.store p q old.size h;
    on_z_lem = put_z d.store p q old.size h;
  }

  put_holds : HoldsPlan puts (record { shape = plan.shape; place = with_at plan.place p spot; gap = plan.gap })
  put_holds = record {
    shapes = λ i l. record { count = (old.holds.shapes i l).count; each = (old.holds.shapes i l).each };
    places = at_each (PlaceIs puts) plan.place p spot put_piece (λ i f. place_same (plan.place i) (put_same d.store p q i f) (old.holds.places i));
  }

  put_right : Handled (RowRight (gap_of d) puts) puts.places p Limits.places d.rows e.rows → (low high : ℕ) → PairOf puts.places low high
      → RowRight (gap_of d) puts low high (row_at e.rows low high)
  put_right rows low high k =
      by-same low p
      (λ g. handled_right rows low high k (inl g))
      (λ a.
      by-same high p
      (λ g. handled_right rows low high k (inr g))
      (λ b.
      subst (RowRight (gap_of d) puts low high) (sym (handled_other rows low high k.first.place k.second.place a b))
      (right_same (gap_of d) (put_same d.store p q low a) (put_same d.store p q high b) (old.right low high (pair_stayed (put_others d.store p q) a b k)))))

  pub put_standing : Standing e (record { shape = plan.shape; place = with_at plan.place p spot; gap = plan.gap })
  put_standing = record {
    order = put.order;
    size = subst Sized (sym put.store) (put_sized p q old.size);
    holds = subst (λ (S : Store). HoldsPlan S (record { shape = plan.shape; place = with_at plan.place p spot; gap = plan.gap })) (sym put.store) put_holds;
    gap = put.gap ∙ old.gap;
    right = right_at_lem e put.store put.gap (put_right (subst (λ (S : Store). Handled (RowRight (gap_of d) S) S.places p Limits.places d.rows e.rows) put.store put.rows));
  }

-- a place emptied
module _ {d e : Desk} {plan : Plan} (p : ℕ) (old : Standing d plan) (h : p < Limits.places) (put : Emptied d p e) where
  abbrev empties : Store
  empties = emptied_at d.store p

  empty_holds : HoldsPlan empties (record { shape = plan.shape; place = with_at plan.place p free; gap = plan.gap })
  empty_holds = record {
    shapes = λ i l. record { count = (old.holds.shapes i l).count; each = (old.holds.shapes i l).each };
    places = at_each (PlaceIs empties) plan.place p free (empty_gone d.store p old.size h) (λ q f. place_same (plan.place q) (empty_same d.store p q f) (old.holds.places q));
  }

  empty_right : (low high : ℕ) → PairOf empties.places low high → RowRight (gap_of d) empties low high (row_at e.rows low high)
  empty_right low high q =
      let gone = empty_gone d.store p old.size h in
      let a : low ≡ p → ⊥ = λ g. gone (subst (Taken empties.places) g q.first) in
      let b : high ≡ p → ⊥ = λ g. gone (subst (Taken empties.places) g q.second) in
      subst (RowRight (gap_of d) empties low high) (sym (put.rows.kept low high q.first.place q.second.place a b))
      (right_same (gap_of d) (empty_same d.store p low a) (empty_same d.store p high b) (old.right low high (pair_stayed (empty_others d.store p) a b q)))

  pub empty_standing : Standing e (record { shape = plan.shape; place = with_at plan.place p free; gap = plan.gap })
  empty_standing = record {
    order = put.order;
    size = subst Sized (sym put.store) (record { shapes = old.size.shapes; places = length-set d.store.places (Limits.place_cells * p) (pos 0) ∙ old.size.places });
    holds = subst (λ (S : Store). HoldsPlan S (record { shape = plan.shape; place = with_at plan.place p free; gap = plan.gap })) (sym put.store) empty_holds;
    gap = put.gap ∙ old.gap;
    right = right_at_lem e put.store put.gap empty_right;
  }

-- THE THEOREM over runs of commands, and what one command changes: the laws of what Stands.antt says.
-- Every command keeps what stands; so it stands on every desk that was reached.
use Rattle.std.specs.Prelude.{◌≡◌, refl, List, [], ◌∷◌, true, ℕ, zero, suc, ◌-◌, ◌≤◌, ◌<◌, T, ℤ, pos, nat_abs, ◌+ℤ◌, ◌-ℤ◌, length, Ok, Err}
use Rattle.std.proofs.Common.{sym, ap, ◌∙◌, subst, inl, inr, arith}
use Rattle.ints.proofs.Quote.{sides, by_ring}
use Rattle.limits.specs.Limits
use Rattle.limits.specs.Lowest.{Rule, Lowest}
use Rattle.marks.specs.Marks.{Agree, axis_of, changed_marks}
use Rattle.marks.proofs.Buffer.{one_buffer}
use Rattle.pieces.specs.declared.placement.Placement.{Placement}
use Rattle.pieces.specs.declared.placement.Offset.{Offset}
use Rattle.pieces.specs.Pieces.{Taken, held_in, piece_at, taken_at, axes_of}
use Rattle.pieces.specs.Store.{taken_of, taken_is, empty-is, ranged}
use Rattle.pieces.specs.Taking.{by_taken}
use Rattle.rows.specs.Rows.{PairOf, row_at}
use Rattle.rows.proofs.Handling.{handled_other}
use Rattle.rows_tally.specs.Tallies.{BookInOrder}
use Rattle.rows_tally.specs.Counting.{book_once}
use Rattle.desk_state.specs.Desk.{Desk, gap_of, InOrder, loaded_at, gap_at}
use Rattle.desk_put.specs.Handled.{PutDown, Emptied}
use Rattle.desk_put.specs.PutLaws.{put_shape_lem, put_names}
use Rattle.desk_load.specs.LoadLaws.{in_place_agrees}
use Rattle.desk.specs.Commands.{Outcome, number_of, outcome_count, Commanded, load_refusals, place_refusals, move_refusals, moved_to, remove_refusals, gap_refusals, Does}
use Rattle.desk.specs.declared.Command.{Command}
use Rattle.desk.specs.declared.Command.TheVariants.{Start, Load, Place, Move, Remove, Gap}
use Rattle.runs.specs.Log.{Entry, ◌with◌, Spot, free, held, is_held, Plan, empty_plan, with_at, turned, plan_by, plan_after, plan_of}
use Rattle.runs.specs.Afresh.{corners_in, piece_of, low_of, high_of, RowOf, PairIn, Afresh}
use Rattle.runs.proofs.AfreshLaws.{afresh_once}
use Rattle.runs.specs.Count.{axes_in, reported_by}
use Rattle.runs.specs.CountLaws.{count_same}
use Rattle.runs.specs.PieceLaws.{piece_is, low-is, high_is, row_is}
use Rattle.runs.specs.Reached.{logged, Reached, started, told, PlaceIs}
use Rattle.runs.specs.Standing.{at_each, Standing, None, none_applies, numbered_of, whole_of, few_of, fresh_standing, load_standing, put_standing, empty_standing, gap_standing}
use Rattle.runs.specs.Stands.{Stands, SameStanding, Changes}

-- ---- every command keeps what stands
-- what is refused is not logged
pub logged_none : (n : ℕ) (e : Entry) (log : List Entry) → 0 < n → logged n e log ≡ log
logged_none zero e log h = absurd (omega arith)
logged_none (suc n) e log h = refl

-- refused: the desk and the log are as they were. Accepted: the command's own law
commanded : {l : List Rule} {Accepted : ℕ → Type 0} {d after : Desk} (log : List Entry) (e : Entry) (r : Outcome) → Commanded l Accepted d after r → Standing d (plan_of log)
    → (Lowest l 0 → Accepted (outcome_count r) → Standing after (plan_after e (plan_of log))) → Standing after (plan_of (logged (number_of r) e log))
commanded log e (Ok n) k old f = f k.refusal (k.done refl)
commanded {after = after} log e (Err r) k old f =
    subst (λ (l : List Entry). Standing after (plan_of l)) (sym (logged_none (number_of (Err r)) e log k.named)) (subst (λ (x : Desk). Standing x (plan_of log)) (sym (k.kept k.named)) old)

-- one less and one more: a moved piece keeps its shape
pub less_more : (z : ℤ) → (z -ℤ pos 1) +ℤ pos 1 ≡ z
less_more z = by_ring (z ∷ []) (search sides depth 40) refl

module _ {d : Desk} {plan : Plan} (old : Standing d plan) where
  after_load : {after : Desk} (shape : ℤ) (numbers : List ℤ) → Lowest (load_refusals d shape numbers) 0 → (after ≡ loaded_at d (nat_abs shape) numbers) → InOrder after
      → Standing after (plan_by (Load shape) numbers plan)
  after_load shape numbers h is o =
      let a = none_applies (load_refusals d shape numbers) (omega arith, (omega arith, (omega arith, (omega arith, (omega arith, tt))))) h in
      let n = numbered_of Limits.shapes shape a.1.0 in
      subst (λ (x : Desk). Standing x (plan_by (Load shape) numbers plan)) (sym is)
      (load_standing (nat_abs shape) numbers old n.below a.1.1.1.1.0 (whole_of (length numbers) a.1.1.0) (few_of (length numbers) a.1.1.0) (subst InOrder is o))

  after_place : {after : Desk} (place : ℤ) (q : Placement) (numbers : List ℤ) → Lowest (place_refusals d place q) 0 → PutDown d (nat_abs place) q after
      → Standing after (plan_by (Place place q) numbers plan)
  after_place place q numbers h put =
      let a = none_applies (place_refusals d place q) (omega arith, (omega arith, (omega arith, (omega arith, (omega arith, (omega arith, (omega arith, tt))))))) h in
      let at = (numbered_of Limits.places place a.1.1.1.0).below in
      put_standing (nat_abs place) q q.shape old at put (put_names d.store (nat_abs place) q old.size at (numbered_of Limits.shapes q.shape a.1.0))

  module _ (place turn : ℤ) (o : Offset) (numbers : List ℤ) where
    abbrev here : ℕ
    here = nat_abs place

    abbrev goes : Placement
    goes = moved_to d.store.places here turn o

    after_move : {after : Desk} → Lowest (move_refusals d place turn o) 0 → PutDown d here goes after → Standing after (plan_by (Move place turn o) numbers plan)
    after_move {after} h put = go (plan.place here) (old.holds.places here)
      where
        a : None (move_refusals d place turn o)
        a = none_applies (move_refusals d place turn o) (omega arith, (omega arith, (omega arith, (omega arith, (omega arith, tt))))) h

        at : here < Limits.places
        at = (numbered_of Limits.places place a.1.0).below

        taken : Taken d.store.places here
        taken = by_taken d.store.places here at (λ t. t) (λ f. absurd (a.1.1.0 f))

        go : (spot : Spot) → PlaceIs d.store here spot → Standing after (record { shape = plan.shape; place = with_at plan.place here (turned spot turn o); gap = plan.gap })
        go free f = absurd (f taken)
        go (held q) k =
            put_standing here goes q.shape old at put
            (ap (λ (z : ℤ). nat_abs z - 1) (put_shape_lem d.store here goes old.size at ∙ less_more (held_in d.store.places here)) ∙ k.shape)

  after_remove : {after : Desk} (place : ℤ) (numbers : List ℤ) → Lowest (remove_refusals d place) 0 → Emptied d (nat_abs place) after → Standing after (plan_by (Remove place) numbers plan)
  after_remove place numbers h put =
      let a = none_applies (remove_refusals d place) (omega arith, (omega arith, (omega arith, tt))) h in
      empty_standing (nat_abs place) old (numbered_of Limits.places place a.1.0).below put

  after_gap : {after : Desk} (gap : ℤ) (numbers : List ℤ) → Lowest (gap_refusals d gap) 0 → after ≡ gap_at d (nat_abs gap) → Standing after (plan_by (Gap gap) numbers plan)
  after_gap gap numbers h is =
      let a = none_applies (gap_refusals d gap) (omega arith, (omega arith, tt)) h in
      let fits = numbered_of (suc Limits.gap_most) gap (λ f. a.1.0 (inl f)) in
      subst (λ (x : Desk). Standing x (plan_by (Gap gap) numbers plan)) (sym is) (gap_standing (nat_abs gap) old (omega (arith, fits.below)) (λ t. a.1.0 (inr t)))

step_by : {d after : Desk} (log : List Entry) (c : Command) (numbers : List ℤ) (r : Outcome) → Standing d (plan_of log) → Does c numbers d after r
    → Standing after (plan_of (logged (number_of r) (c with numbers) log))
step_by log Start numbers r old k = commanded log (Start with numbers) r k old (λ h a. subst (λ (x : Desk). Standing x empty_plan) (sym a.0) fresh_standing)
step_by log (Load shape) numbers r old k = commanded log (Load shape with numbers) r k old (λ h a. after_load old shape numbers h a.0 a.1)
step_by log (Place place q) numbers r old k = commanded log (Place place q with numbers) r k old (λ h a. after_place old place q numbers h a.0)
step_by log (Move place turn o) numbers r old k = commanded log (Move place turn o with numbers) r k old (λ h a. after_move old place turn o numbers h a.put)
step_by log (Remove place) numbers r old k = commanded log (Remove place with numbers) r k old (λ h a. after_remove old place numbers h a.0)
step_by log (Gap gap) numbers r old k = commanded log (Gap gap with numbers) r k old (λ h a. after_gap old gap numbers h a.0)

pub step : {d after : Desk} (log : List Entry) (e : Entry) (r : Outcome) → Standing d (plan_of log) → Does e.command e.numbers d after r → Standing after (plan_of (logged (number_of r) e log))
step log e = step_by log e.command e.numbers

pub standing : {d : Desk} {log : List Entry} → Reached d log → Standing d (plan_of log)
standing (started r k e) = subst (λ (x : Desk). Standing x empty_plan) (sym (k.done e).0) fresh_standing
standing (told {log} e r h k) = step log e r (standing h) k

-- ---- the rows afresh
module _ {d : Desk} {plan : Plan} (s : Standing d plan) where
  spot_taken : (p : ℕ) (spot : Spot) → PlaceIs d.store p spot → T (is_held spot) → Taken d.store.places p
  spot_taken p (held q) k h = k.taken
  spot_taken p free k h = absurd h

  spot_held : (p : ℕ) (spot : Spot) → PlaceIs d.store p spot → Taken d.store.places p → T (is_held spot)
  spot_held p (held q) k h = tt
  spot_held p free k h = k h

  spot_piece : (p : ℕ) (spot : Spot) → PlaceIs d.store p spot → T (is_held spot) → piece_at d.store p ≡ corners_in plan spot
  spot_piece p free k h = absurd h
  spot_piece p (held q) k h = piece_is k (s.holds.shapes (nat_abs q.shape) (subst (λ n. n < Limits.shapes) k.shape (s.order.pieces.places.all p k.taken).loaded.shape))

  place_taken_lem : (p : ℕ) → T (is_held (plan.place p)) → Taken d.store.places p
  place_taken_lem p = spot_taken p (plan.place p) (s.holds.places p)

  place_held : (p : ℕ) → Taken d.store.places p → T (is_held (plan.place p))
  place_held p = spot_held p (plan.place p) (s.holds.places p)

  place_piece : (p : ℕ) → T (is_held (plan.place p)) → piece_at d.store p ≡ piece_of plan p
  place_piece p = spot_piece p (plan.place p) (s.holds.places p)

  pair_of : (low high : ℕ) → PairIn plan low high → PairOf d.store.places low high
  pair_of low high q = record { rising = q.rising; first = place_taken_lem low q.first; second = place_taken_lem high q.second }

  pair_in : (low high : ℕ) → PairOf d.store.places low high → PairIn plan low high
  pair_in low high q = record { rising = q.rising; first = place_held low q.first; second = place_held high q.second }

  pub afresh : Afresh plan d.rows
  afresh = record {
    size = s.order.rows.size;
    pairs = λ low high q.
        subst (λ (A : List ℤ). RowOf plan.gap A (piece_of plan high) (row_at d.rows low high)) (place_piece low q.first)
        (subst (λ (B : List ℤ). RowOf plan.gap (piece_at d.store low) B (row_at d.rows low high)) (place_piece high q.second)
        (subst (λ (g : ℕ). RowOf g (piece_at d.store low) (piece_at d.store high) (row_at d.rows low high)) s.gap
        (row_is (gap_of d) d.store low high (s.right low high (pair_of low high q)))));
    others = λ low high h k f. s.order.rows.others low high h k (λ q. f (pair_in low high q));
  }

  -- the desk's marks are those of the plan: the same places are taken, and they have the same ends
  spot_is : (p : ℕ) (spot : Spot) → p < Limits.places → PlaceIs d.store p spot → taken_at d.store p ≡ is_held spot
  spot_is p free h k = empty-is d.store p h k
  spot_is p (held q) h k = taken_is d.store p k.taken

  taken_piece : (p : ℕ) → p < Limits.places → taken_at d.store p ≡ true → piece_at d.store p ≡ piece_of plan p
  taken_piece p h t = place_piece p (place_held p (taken_of d.store p h t))

  pub axis_is : (axis : ℕ) → axis < 3 → Agree (axis_of (axes_of d.store) axis) (axis_of (axes_in plan) axis)
  axis_is axis h = record {
    taken = λ p l. spot_is p (plan.place p) l (s.holds.places p);
    low = λ p l t. low-is d.store p axis h ∙ ap (low_of axis) (taken_piece p l t);
    high = λ p l t. high_is d.store p axis h ∙ ap (high_of axis) (taken_piece p l t);
  }

-- ---- THE THEOREM
pub stands_of : {d : Desk} (log : List Entry) → Standing d (plan_of log) → Stands d log
stands_of log s = record { order = s.order; holds = s.holds; gap = s.gap; rows = afresh s }

pub reached_stands : {d : Desk} {log : List Entry} → Reached d log → Stands d log
reached_stands {log = log} h = stands_of log (standing h)

-- the standing rows equal whatever list is worked out afresh
pub rows_are : {d : Desk} {log : List Entry} → Reached d log → (rows : List ℕ) → Afresh (plan_of log) rows → d.rows ≡ rows
rows_are h rows a = afresh_once (reached_stands h).rows a

-- ---- the same accepted commands, the same rows, tallies and marks, whatever was refused between them
module _ {d e : Desk} {plan : Plan} (s : Standing d plan) (u : Standing e plan) where
  same_axis : (axis : ℕ) → axis < 3 → Agree (axis_of (axes_of d.store) axis) (axis_of (axes_of e.store) axis)
  same_axis axis h =
      let a = axis_is s axis h in
      let b = axis_is u axis h in
      let also : (p : ℕ) → p < Limits.places → taken_at d.store p ≡ true → taken_at e.store p ≡ true = λ p l t. b.taken p l ∙ sym (a.taken p l) ∙ t in
      record {
        taken = λ p l. a.taken p l ∙ sym (b.taken p l);
        low = λ p l t. a.low p l t ∙ sym (b.low p l (also p l t));
        high = λ p l t. a.high p l t ∙ sym (b.high p l (also p l t));
      }

  same_marks : d.marks ≡ e.marks
  same_marks =
      let m = s.order.marks in
      one_buffer (axes_of e.store) (ranged u.order.pieces) d.marks e.marks
      (record {
        long = m.long;
        on_x_lem = in_place_agrees (same_axis 0 (omega arith)) m.on_x_lem;
        on_y_lem = in_place_agrees (same_axis 1 (omega arith)) m.on_y_lem;
        on_z_lem = in_place_agrees (same_axis 2 (omega arith)) m.on_z_lem;
      })
      u.order.marks

pub reached_once : {d e : Desk} {log : List Entry} → Reached d log → Reached e log → SameStanding d e
reached_once {d} {e} h k =
    let s = standing h in
    let u = standing k in
    let rows = afresh_once (afresh s) (afresh u) in
    record { rows = rows; book = book_once (subst (λ (l : List ℕ). BookInOrder l d.book) rows s.order.book) u.order.book (s.gap ∙ sym u.gap); marks = same_marks s u }

-- ---- what one command changes
none_counted : {n : ℕ} → n ≡ 0 → n ≤ Limits.move_most
none_counted e = omega arith

accepted_standing : {before after : Desk} (log : List Entry) (c : Command) (numbers : List ℤ) (r : Outcome) → Reached before log → Does c numbers before after r → number_of r ≡ 0
    → Standing after (plan_by c numbers (plan_of log))
accepted_standing {after} log c numbers r h k e = subst (λ (n : ℕ). Standing after (plan_of (logged n (c with numbers) log))) e (step_by log c numbers r (standing h) k)

-- a move takes no place and empties none
turned_held : (spot : Spot) (turn : ℤ) (o : Offset) → is_held spot ≡ is_held (turned spot turn o)
turned_held free turn o = refl
turned_held (held q) turn o = refl

module _ (plan : Plan) (place turn : ℤ) (o : Offset) (numbers : List ℤ) where
  abbrev plan_moved : Plan
  plan_moved = plan_by (Move place turn o) numbers plan

  move_held : (p : ℕ) → is_held (plan.place p) ≡ is_held (plan_moved.place p)
  move_held =
      at_each (λ p spot. is_held (plan.place p) ≡ is_held spot) plan.place (nat_abs place) (turned (plan.place (nat_abs place)) turn o)
      (turned_held (plan.place (nat_abs place)) turn o)
      (λ p f. refl)

  -- the count of the desk's marks is that of the plan's
  move_count : {before after : Desk} → Standing before plan → Standing after plan_moved → Taken after.store.places (nat_abs place)
      → changed_marks (axes_of before.store) (axes_of after.store) (nat_abs place) ≡ reported_by (Move place turn o) numbers plan
  move_count {before} {after} s u taken = count_same (nat_abs place) taken.place (axis_is s) (axis_is u) stay (stay (nat_abs place) taken.place ∙ taken_is after.store (nat_abs place) taken)
    where
      stay : (p : ℕ) → p < Limits.places → taken_at before.store p ≡ taken_at after.store p
      stay p h = (axis_is s 0 (omega arith)).taken p h ∙ move_held p ∙ sym ((axis_is u 0 (omega arith)).taken p h)

changes_by : {before after : Desk} (c : Command) (numbers : List ℤ) (r : Outcome) → Does c numbers before after r → number_of r ≡ 0 → Changes (c with numbers) before after (outcome_count r)
changes_by Start numbers r k e = let a = k.done e in record { rows = λ low high h l f g. absurd (f tt); counted = λ log h. a.1; most = none_counted a.1 }
changes_by (Load shape) numbers r k e =
    let a = k.done e in
    record { rows = λ low high h l f g. ap (λ (d : Desk). row_at d.rows low high) a.0; counted = λ log h. a.2; most = none_counted a.2 }
changes_by (Place place q) numbers r k e = let a = k.done e in record { rows = handled_other a.0.rows; counted = λ log h. a.1; most = none_counted a.1 }
changes_by (Move place turn o) numbers r k e =
    let a = k.done e in
    record {
      rows = handled_other a.put.rows;
      counted = λ log h. a.counted ∙ move_count (plan_of log) place turn o numbers (standing h) (accepted_standing log (Move place turn o) numbers r h k e) a.put.taken;
      most = a.most;
    }
changes_by (Gap gap) numbers r k e =
    let a = k.done e in
    record { rows = λ low high h l f g. ap (λ (d : Desk). row_at d.rows low high) a.0; counted = λ log h. a.2; most = none_counted a.2 }
changes_by (Remove place) numbers r k e = let a = k.done e in record { rows = a.0.rows.kept; counted = λ log h. a.1; most = none_counted a.1 }

pub accepted_changes : {before after : Desk} (e : Entry) (r : Outcome) → Does e.command e.numbers before after r → number_of r ≡ 0 → Changes e before after (outcome_count r)
accepted_changes e = changes_by e.command e.numbers

-- refused: "desk, marks and room stay as they were", and the count is zero
module _ {l : List Rule} {Accepted : ℕ → Type 0} {before after : Desk} where
  refused : (r : Outcome) → Commanded l Accepted before after r → 0 < number_of r → (after ≡ before) × (outcome_count r ≡ 0)
  refused (Ok n) k h = absurd (omega arith)
  refused (Err r) k h = (k.kept h, refl)

refused_by : {before after : Desk} (c : Command) (numbers : List ℤ) (r : Outcome) → Does c numbers before after r → 0 < number_of r → (after ≡ before) × (outcome_count r ≡ 0)
refused_by Start numbers r k h = refused r k h
refused_by (Load shape) numbers r k h = refused r k h
refused_by (Place place q) numbers r k h = refused r k h
refused_by (Move place turn o) numbers r k h = refused r k h
refused_by (Remove place) numbers r k h = refused r k h
refused_by (Gap gap) numbers r k h = refused r k h

pub refused_changes : {before after : Desk} (e : Entry) (r : Outcome) → Does e.command e.numbers before after r → 0 < number_of r → (after ≡ before) × (outcome_count r ≡ 0)
refused_changes e = refused_by e.command e.numbers

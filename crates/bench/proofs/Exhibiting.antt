-- The proof of what is exhibited: a desk is started, B is loaded and placed three times, and place 2 is moved; each desk is the one before it with one piece put down.
-- The rows that are put are those of the table, so the listings are the table's.
use Rattle.std.specs.Prelude.{◌≡◌, refl, List, [], ◌∷◌, ℕ, ◌+◌, ◌*◌, ◌≤◌, ◌<◌, ℤ, pos, nat_abs, ◌-ℤ◌, length, set, Ok}
use Rattle.std.proofs.Common.{sym, ap, ◌∙◌, subst, inr, arith, length-set}
use Rattle.std.proofs.lemmas.List.{length-replicate}
use Rattle.limits.specs.Limits
use Rattle.limits.specs.Lowest.{Lowest}
use Rattle.limits.specs.Numbered.{Numbered}
use Rattle.space.specs.Lists.{LengthFits, InReach}
use Rattle.pieces.specs.declared.placement.Placement.{Placement}
use Rattle.pieces.specs.Pieces.{Store, Sized, Loaded, Taken, held_in, least_to, greatest_to}
use Rattle.rows.specs.Rows.{cell, row_at, Handled}
use Rattle.ints.specs.Cases.{by-same}
use Rattle.rows.specs.Changes.{put}
use Rattle.rows.proofs.Handling.{handled_none}
use Rattle.rows_tally.specs.Counting.{filled_at}
use Rattle.rows_right.specs.Right.{RowRight}
use Rattle.rows_right.specs.RowLaws.{one_below}
use Rattle.desk_state.specs.Desk.{Desk, gap_of, OffsetFits, put_at, loaded_at}
use Rattle.desk_put.specs.Handled.{PutDown}
use Rattle.desk_put.specs.PutLaws.{put_same}
use Rattle.desk_load.specs.LoadLaws.{load_order}
use Rattle.desk.specs.Commands.{fresh_desk, place_refusals, moved_to, Does}
use Rattle.desk.specs.CommandLaws.{accepts, fresh_order}
use Rattle.runs.specs.Log.{Entry, plan_of}
use Rattle.runs.specs.Reached.{Reached, started, told, ShapeIs}
use Rattle.runs.specs.Standing.{fresh_standing}
use Rattle.runs.proofs.Theorem.{standing, accepted_changes}
use Rattle.bench.specs.Table.{B, Holds, HoldsThree, upright, new_offset, moved, RightRows}
use Rattle.bench.specs.Holding.{verdict_row}
use Rattle.bench.proofs.Lists as lists
use Rattle.bench.specs.Standing.{holds_same, put_holds}
use Rattle.bench.specs.Two.{near_by}
use Rattle.bench.proofs.Three.{right_before, right_after, listing, move_listing}
use Rattle.bench.proofs.Moving.{move_holds, move_count}
use Rattle.bench.specs.Putting.{handled_all, desk_after, can_put}
use Rattle.bench.specs.Exhibited.{the_box, box_at, three_boxes, the_move, Exhibited}

-- ---- a desk that was told a log which sets no gap, has B as shape 0, and of whose places those below n alone may be taken
record Shelf (d : Desk) (log : List Entry) (n : ℕ) : Type 0 where
  reached : Reached d log
  plain : (plan_of log).gap ≡ 0
  shape : ShapeIs d.store 0 B
  others : (q : ℕ) → Taken d.store.places q → q < n

gapless : {d : Desk} {log : List Entry} → Reached d log → (plan_of log).gap ≡ 0 → gap_of d ≡ 0
gapless h e = (standing h).gap ∙ e

-- one of the first numbers is no refusal
numbered : {n : ℕ} (k : ℕ) → k < n → (Numbered n (pos k) → ⊥) → ⊥
numbered k h f = f (record { natural = refl; below = h })

-- ---- started and loaded
fresh_reached : Reached fresh_desk []
fresh_reached = started {before = fresh_desk} (Ok 0) (accepts (inr (λ f. f (length-replicate {A = ℕ} Limits.marks Limits.no_mark), refl)) (refl, refl)) refl

none_loaded : Loaded fresh_desk.store 0 → ⊥
none_loaded l = l.some (ap nat_abs (filled_at {A = ℤ} (pos 0) Limits.shapes_length 0))

none_taken : (q : ℕ) → Taken fresh_desk.store.places q → ⊥
none_taken q t = t.holds (ap nat_abs (filled_at {A = ℤ} (pos 0) Limits.places_length (Limits.place_cells * q)))

box_fits : LengthFits (length B)
box_fits = record { count = 8; least = omega arith; most = omega arith; is = refl }

box_near_lem : InReach Limits.shape_reach B
box_near_lem = near_by Limits.shape_reach B tt

loaded_desk : Shelf (loaded_at fresh_desk 0 B) (the_box ∷ []) 0
loaded_desk =
    let r = told {after = loaded_at fresh_desk 0 B} the_box (Ok 0) fresh_reached (accepts
    (inr (λ f. f fresh_order, inr (numbered 0 (omega arith), inr (λ f. f box_fits, inr (λ f. f box_near_lem, inr (none_loaded, refl))))))
    (refl, load_order fresh_order fresh_standing.size (omega arith) none_loaded box_fits box_near_lem, refl)) in
    record { reached = r; plain = refl; shape = (standing r).holds.shapes 0 (omega arith); others = λ q t. absurd (none_taken q t) }

-- ---- a box put down at place p, which is the next or the last
module _ {d : Desk} {log : List Entry} {n : ℕ} (k : Shelf d log n) (p x : ℕ) (h : p < Limits.places) (last : n ≤ p + 1) (near : x ≤ Limits.shape_reach) where
  abbrev box : Placement
  box = upright (pos 0) x 0 0

  abbrev puts : Store
  puts = put_at d.store p box

  -- the box is there, the others are where they were, and no place above it is taken
  here : Holds puts p B x 0 0
  here = put_holds (pos 0) (standing k.reached).size h refl (λ e. omega arith) k.shape

  there : {q y : ℕ} → (q ≡ p → ⊥) → Holds d.store q B y 0 0 → Holds puts q B y 0 0
  there {q} f = holds_same (put_same d.store p box q f)

  below : (q : ℕ) → Taken puts.places q → (q ≡ p → ⊥) → q < p
  below q t f =
      let l = k.others q (record { place = t.place; holds = λ z. t.holds (ap nat_abs (sym (put_same d.store p box q f).shape) ∙ z) }) in
      omega arith

  up_to : (q : ℕ) → Taken puts.places q → q < p + 1
  up_to q t = by-same q p (λ e. omega arith) (λ f. omega (arith, below q t f))

  -- its rows: the right one with the place q, after those with the places below q
  row_with : {q v : ℕ} {rows : List ℕ} → length rows ≡ Limits.rows → q < p → Taken puts.places q → RowRight 0 puts q p v → Handled (RowRight 0 puts) puts.places p q d.rows rows
      → Handled (RowRight 0 puts) puts.places p (q + 1) d.rows (set rows (cell q p) v)
  row_with {q} {v} {rows} size l t r w = (one_below 0 puts l t here.taken r (put rows q p v size (omega arith) h)).step d.rows w

  box_loaded : Loaded d.store 0
  box_loaded = record { shape = omega arith; some = λ e. let c = k.shape.count in let size : length B ≡ 24 = refl in omega arith }

  offset_fits_lem : OffsetFits (pos x) (pos 0) (pos 0)
  offset_fits_lem = record { on_x_lem = record { abs = near }; on_y_lem = record { abs = omega arith }; on_z_lem = record { abs = omega arith } }

  puts_down : {rows : List ℕ} → Handled (RowRight 0 puts) puts.places p p d.rows rows → PutDown d p box (desk_after d p box rows)
  puts_down w =
      can_put (standing k.reached).size
      (record {
        order = (standing k.reached).order;
        place = h;
        shape = record { natural = refl; below = omega arith };
        loaded = box_loaded;
        turn = record { natural = refl; below = omega arith };
        offset = offset_fits_lem;
      })
      (gapless k.reached k.plain)
      (handled_all (omega arith) below w)

-- ---- B placed at the next place
places : {d : Desk} {log : List Entry} {n : ℕ} (k : Shelf d log n) (x : ℕ) (h : n < Limits.places) (near : x ≤ Limits.shape_reach) {rows : List ℕ}
    → Handled (RowRight 0 (put_at d.store n (upright (pos 0) x 0 0))) (put_at d.store n (upright (pos 0) x 0 0)).places n n d.rows rows
    → Shelf (desk_after d n (upright (pos 0) x 0 0) rows) (box_at n x ∷ log) (n + 1)
places {d} {n = n} k x h near w = record {
  reached = told (box_at n x) (Ok 0) k.reached (accepts asked (puts_down k n x h (omega arith) near w, refl));
  plain = k.plain;
  shape = record { count = k.shape.count; each = k.shape.each };
  others = up_to k n x h (omega arith) near;
}
  where
    asked : Lowest (place_refusals d (pos n) (upright (pos 0) x 0 0)) 0
    asked =
        inr (
          λ f. f (standing k.reached).order,
          inr (
            numbered 0 (omega arith),
            inr (
              λ f. f (box_loaded k n x h (omega arith) near),
              inr (numbered n h, inr (λ t. omega (arith, k.others n t), inr (numbered 0 (omega arith), inr (λ f. f (offset_fits_lem k n x h (omega arith) near), refl)))),
            ),
          ),
        )

-- ---- one box, two, three
one : (d : Desk) × Shelf d (box_at 0 0 ∷ the_box ∷ []) 1 × Holds d.store 0 B 0 0 0
one = (_, places loaded_desk 0 (omega arith) (omega arith) (handled_none _), here loaded_desk 0 0 (omega arith) (omega arith) (omega arith))

rows_size : {d : Desk} {log : List Entry} {n : ℕ} → Shelf d log n → length d.rows ≡ Limits.rows
rows_size k = (standing k.reached).order.rows.size

module _ {d : Desk} {log : List Entry} (k : Shelf d log 1) (first : Holds d.store 0 B 0 0 0) where
  abbrev two : Store
  two = puts k 1 64 (omega arith) (omega arith) (omega arith)

  two_first : Holds two 0 B 0 0 0
  two_first = there k 1 64 (omega arith) (omega arith) (omega arith) (λ e. omega arith) first

  two_second : Holds two 1 B 64 0 0
  two_second = here k 1 64 (omega arith) (omega arith) (omega arith)

  two_row : RowRight 0 two 0 1 2
  unfolding least_to greatest_to
  two_row = verdict_row two_first two_second tt lists.boxes-64

  next_two : (e : Desk) × Shelf e (box_at 1 64 ∷ log) 2 × Holds e.store 0 B 0 0 0 × Holds e.store 1 B 64 0 0
  next_two =
      let w = row_with k 1 64 (omega arith) (omega arith) (omega arith) (rows_size k) (omega arith) two_first.taken two_row (handled_none d.rows) in
      (_, places k 64 (omega arith) (omega arith) w, two_first, two_second)

module _ {d : Desk} {log : List Entry} (k : Shelf d log 2) (first : Holds d.store 0 B 0 0 0) (second : Holds d.store 1 B 64 0 0) where
  three_hold : HoldsThree (puts k 2 32 (omega arith) (omega arith) (omega arith)) 0 64 32
  three_hold = record {
    place-0 = there k 2 32 (omega arith) (omega arith) (omega arith) (λ e. omega arith) first;
    place-1 = there k 2 32 (omega arith) (omega arith) (omega arith) (λ e. omega arith) second;
    place-2 = here k 2 32 (omega arith) (omega arith) (omega arith);
    others = up_to k 2 32 (omega arith) (omega arith) (omega arith);
  }

  next_three : (e : Desk) × Shelf e (box_at 2 32 ∷ log) 3 × HoldsThree e.store 0 64 32
  next_three =
      let r = right_before three_hold in
      let w = row_with k 2 32 (omega arith) (omega arith) (omega arith) (rows_size k) (omega arith) three_hold.place-0.taken r.second (handled_none d.rows) in
      let v = row_with k 2 32 (omega arith) (omega arith) (omega arith) (length-set d.rows (cell 0 2) 3 ∙ rows_size k) (omega arith) three_hold.place-1.taken r.third w in
      (_, places k 32 (omega arith) (omega arith) v, three_hold)

-- ---- the move: the place holds shape 0, and so it is put down as a box is
module _ {d : Desk} (k : Shelf d three_boxes 3) (t : HoldsThree d.store 0 64 32) where
  abbrev goes : Placement
  goes = moved_to d.store.places 2 (pos 0) new_offset

  held_is : held_in d.store.places 2 ≡ pos 1
  held_is =
      let s = standing k.reached in
      let shape = (s.holds.places 2).shape in
      (s.order.pieces.places.all 2 t.place-2.taken).shape.natural ∙ ap pos (omega (arith, shape, t.place-2.taken.holds))

  goes_is : upright (pos 0) 128 0 0 ≡ goes
  goes_is = ap (λ (z : ℤ). upright (z -ℤ pos 1) 128 0 0) (sym held_is)

  moved_hold : HoldsThree (moved d.store) 0 64 128
  moved_hold = move_holds d.store (standing k.reached).size t

  abbrev rows_moved : List ℕ
  rows_moved = set (set d.rows (cell 0 2) 0) (cell 1 2) 2

  moved_put : PutDown d 2 goes (desk_after d 2 goes rows_moved)
  moved_put =
      let u = subst (λ (q : Placement). HoldsThree (put_at d.store 2 q) 0 64 128) (sym goes_is) moved_hold in
      let r = right_after u in
      let w = row_with k 2 128 (omega arith) (omega arith) (omega arith) (rows_size k) (omega arith) u.place-0.taken r.second (handled_none d.rows) in
      let v = row_with k 2 128 (omega arith) (omega arith) (omega arith) (length-set d.rows (cell 0 2) 0 ∙ rows_size k) (omega arith) u.place-1.taken r.third w in
      subst (λ (q : Placement). PutDown d 2 q (desk_after d 2 q rows_moved)) goes_is (puts_down k 2 128 (omega arith) (omega arith) (omega arith) v)

  next_moved : (e : Desk) × Does the_move.command the_move.numbers d e (Ok 3) × HoldsThree e.store 0 64 128
  next_moved = (
    desk_after d 2 goes rows_moved,
    accepts
        (inr (
          λ f. f (standing k.reached).order,
          inr (
            numbered 2 (omega arith),
            inr (λ f. f t.place-2.taken, inr (numbered 0 (omega arith), inr (λ f. f (offset_fits_lem k 2 128 (omega arith) (omega arith) (omega arith)), refl))),
          ),
        ))
        (record { put = moved_put; counted = sym (move_count d.store (standing k.reached).size t); most = omega arith }),
    moved_hold,
  )

-- ---- what is exhibited: the rows of a reached desk are right, and so its listing is the table's
right_rows : {d : Desk} {log : List Entry} → Reached d log → (plan_of log).gap ≡ 0 → RightRows d.store d.rows
right_rows {d} h e = record {
  order = (standing h).order.rows;
  right = λ low high q. subst (λ g. RowRight g d.store low high (row_at d.rows low high)) (gapless h e) ((standing h).right low high q);
}

three : (d : Desk) × Shelf d three_boxes 3 × HoldsThree d.store 0 64 32
three = let a = one in let b = next_two a.1 a.2 in next_three b.1 b.2 b.3

after_three : (d : Desk) × Does the_move.command the_move.numbers three.0 d (Ok 3) × HoldsThree d.store 0 64 128
after_three = next_moved three.1 three.2

reached_after : Reached after_three.0 (the_move ∷ three_boxes)
reached_after = told the_move (Ok 3) three.1.reached after_three.1

pub exhibited : Exhibited
exhibited = record {
  before = three.0;
  after = after_three.0;
  reached = three.1.reached;
  listing = listing three.0.store three.0.rows three.2 (right_rows three.1.reached refl);
  moves = after_three.1;
  counted = sym ((accepted_changes the_move (Ok 3) after_three.1 refl).counted three_boxes three.1.reached);
  move_reached = reached_after;
  move_listing = move_listing after_three.0.store after_three.0.rows after_three.2 (right_rows reached_after refl);
}

-- so the table speaks of a desk that there is
pub three_stand : (d : Store) × Sized d × HoldsThree d 0 64 32 × ((rows : List ℕ) × RightRows d rows) × ((rows : List ℕ) × RightRows (moved d) rows)
unfolding after_three next_moved
three_stand = (three.0.store, (standing three.1.reached).size, three.2, (three.0.rows, right_rows three.1.reached refl), (after_three.0.rows, right_rows reached_after refl))

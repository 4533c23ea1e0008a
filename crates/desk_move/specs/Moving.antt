-- A move, from its tests to its record: what each part of the tests has asked, how the parts make the command's own list, and the true count.
-- A callee sees a signed number through its bits; each law is told that what was handed on is what was handed in.
use Rattle.std.specs.Prelude.{◌≡◌, refl, List, ◌++◌, ℕ, zero, suc, ◌+◌, ◌-◌, ℤ, pos, negsuc, nat_abs, Ok, Err}
use Rattle.std.proofs.Common.{sym, ap, ◌∙◌, subst, inr, arith}
use Rattle.std.proofs.Math.IntN.{◌-ℤ◌, -ℤ_one}
use Rattle.limits.specs.Limits
use Rattle.limits.specs.Lowest.{Lowest}
use Rattle.limits.specs.Refusals.{number_of}
use Rattle.limits.specs.declared.Refusal.{Refusal}
use Rattle.limits.proofs.LowestLaws.{positive, lowest_first, lowest_then}
use Rattle.limits.proofs.RefusalLaws.{number_some}
use Rattle.limits.specs.Numbered.{Numbered}
use Rattle.marks.specs.Marks.{OthersStayMarks}
use Rattle.marks.specs.Keys.{KeyedMarks}
use Rattle.marks.specs.Promises.{CountedMarks}
use Rattle.pieces.specs.declared.placement.Placement.{Placement}
use Rattle.pieces.specs.declared.placement.Offset.{Offset}
use Rattle.pieces.specs.Pieces.{Store, Taken, Loaded, held_in, axes_of}
use Rattle.pieces.specs.Store.{taken_is}
use Rattle.desk_state.specs.Desk.{Desk, InOrder, OffsetFits}
use Rattle.desk_put.specs.PutLaws.{put_others_marks}
use Rattle.desk_put.specs.Handled.{MayPut, PutDown}
use Rattle.desk_refusals.specs.Parts.{taken_refusals, placement_refusals}
use Rattle.desk_refusals.specs.Asked.{Asked, asked_refused, TakenAsked, PlacementAsked, placement_handed}
use Rattle.desk.specs.Commands.{moved_to, MovedBy, move_refusals, Moves}
use Rattle.desk.specs.CommandLaws.{refuses, accepts}

-- ---- what a move may go on with
pub record MayMove (places : List ℤ) (place turn : ℤ) (o : Offset) : Type 0 where
  pub numbered : Numbered Limits.places place
  pub taken : Taken places (nat_abs place)
  pub turned : Numbered Limits.turns turn
  pub offset : OffsetFits o.x o.y o.z

abbrev pub MoveAsked : List ℤ → ℤ → ℤ → Offset → ℕ → Type 0
MoveAsked places place turn o n = Asked (taken_refusals places place ++ placement_refusals turn o.x o.y o.z) (MayMove places place turn o) n

-- the piece of a taken place put down anew
pub record MayTurn (d : Desk) (p : ℕ) (turn : ℤ) (o : Offset) : Type 0 where
  pub taken : Taken d.store.places p
  pub put : MayPut d p (moved_to d.store.places p turn o)

-- ---- a move's numbers
module _ (places : List ℤ) (place turn : ℤ) (o : Offset) {a c u v w : ℤ} (ea : a ≡ place) (ec : c ≡ turn) (eu : u ≡ o.x) (ev : v ≡ o.y) (ew : w ≡ o.z) where
  taken_at_lem : (n : ℕ) → TakenAsked places a n → TakenAsked places place n
  taken_at_lem n h = subst (λ (i : ℤ). TakenAsked places i n) ea h

  pub move_by_place : (n : ℕ) → TakenAsked places a n → (n ≡ 0 → ⊥) → MoveAsked places place turn o n
  move_by_place n h f = asked_refused (lowest_first (taken_refusals places place) (placement_refusals turn o.x o.y o.z) (taken_at_lem n h).refusal (positive f)) (positive f)

  pub move_by_rest : TakenAsked places a 0 → (n : ℕ) → PlacementAsked c u v w n → MoveAsked places place turn o n
  move_by_rest p n h =
      let q = taken_at_lem 0 p in
      let r = placement_handed ec eu ev ew h in
      record {
        refusal = lowest_then (taken_refusals places place) (placement_refusals turn o.x o.y o.z) n (omega arith, (omega arith, tt)) q.refusal r.refusal;
        given = λ e. record { numbered = (q.given refl).0; taken = (q.given refl).1; turned = (r.given e).0; offset = (r.given e).1 };
      }

-- ---- the placement that a move puts down
pub moved_eq : {s s' t t' x x' y y' z z' : ℤ} → s ≡ s' → t ≡ t' → x ≡ x' → y ≡ y' → z ≡ z'
    → ◌≡◌ {A = Placement} (record { shape = s; turn = t; x = x; y = y; z = z }) (record { shape = s'; turn = t'; x = x'; y = y'; z = z' })
moved_eq es et ex ey ez = λ i. record { shape = es i; turn = et i; x = ex i; y = ey i; z = ez i }

-- what a taken place holds, less one, is its shape
pub held_less : {n : ℕ} (z : ℤ) → Numbered (n + 1) z → (nat_abs z ≡ 0 → ⊥) → Numbered n (z -ℤ pos 1) × (nat_abs (z -ℤ pos 1) ≡ nat_abs z - 1)
held_less (pos zero) h f = absurd (f refl)
held_less {n} (pos (suc k)) h f =
    let e : pos (suc k) -ℤ pos 1 ≡ pos k = -ℤ_one (pos (suc k)) in
    (subst (Numbered n) (sym e) (record { natural = refl; below = let b = h.below in omega arith }), ap nat_abs e ∙ less)
  where
    less : k ≡ nat_abs (pos (suc k)) - 1
    less = omega arith
held_less (negsuc k) h f = absurd (let e = h.natural in let z : ◌≡◌ {A = ℕ} 0 1 = cc in omega arith)

-- what was handed on is what was handed in
pub may_be : {d : Desk} {p : ℕ} {q r : Placement} → q ≡ r → MayPut d p r → MayPut d p q
may_be {d} {p} e h = subst (MayPut d p) (sym e) h

pub put_be : {d after : Desk} {p : ℕ} {q r : Placement} → q ≡ r → PutDown d p q after → PutDown d p r after
put_be {d} {after} {p} e h = subst (λ (q : Placement). PutDown d p q after) e h

-- the count of a move, by the keys before and after
pub moved_by_lem : {d after : Desk} {p : ℕ} {turn : ℤ} {o : Offset} {ox oy oz nx ny nz : List ℕ} {count : ℕ} → MayTurn d p turn o → PutDown d p (moved_to d.store.places p turn o) after
    → KeyedMarks (axes_of d.store) ox oy oz → KeyedMarks (axes_of after.store) nx ny nz → CountedMarks ox oy oz nx ny nz p count → MovedBy d p turn o after count
moved_by_lem {d} {after} {p} {turn} {o} m h old new k = record {
  put = h;
  counted =
      k.true_count (axes_of d.store) (axes_of after.store) old new
      (subst (λ (s : Store). OthersStayMarks p (axes_of d.store) (axes_of s)) (sym h.store) (put_others_marks d.store p (moved_to d.store.places p turn o)))
      (taken_is d.store p m.taken) (taken_is after.store p h.taken);
  most = k.most;
}

module _ (d : Desk) (place turn : ℤ) (o : Offset) {a c : ℤ} (ea : a ≡ place) (ec : c ≡ turn) (order : InOrder d) where
  move_asked : {n : ℕ} → MoveAsked d.store.places a c o n → MoveAsked d.store.places place turn o n
  move_asked k = rw (sym ea, sym ec) k

  move_lowest : {n : ℕ} → MoveAsked d.store.places a c o n → Lowest (move_refusals d place turn o) n
  move_lowest k = inr (λ f. f order, (move_asked k).refusal)

  pub move_refused : {r : Refusal} → MoveAsked d.store.places a c o (number_of r) → Moves d place turn o d (Err r)
  move_refused k = refuses (move_lowest k)

  module _ {i : ℕ} (k : MoveAsked d.store.places a c o 0) (is : i ≡ nat_abs a) where
    move_given : MayMove d.store.places place turn o
    move_given = (move_asked k).given refl

    at-is : i ≡ nat_abs place
    at-is = is ∙ ap nat_abs ea

    pub may_move : MayTurn d i c o
    may_move =
        let there = subst (Taken d.store.places) (sym at-is) move_given.taken in
        let was = order.pieces.places.all i there in
        let held = held_less (held_in d.store.places i) was.shape there.holds in
        record {
          taken = there;
          put = record {
            order = order;
            place = there.place;
            shape = held.0;
            loaded = subst (Loaded d.store) (sym held.1) was.loaded;
            turn = subst (Numbered Limits.turns) (sym ec) move_given.turned;
            offset = move_given.offset;
          };
        }

    pub moved : {after : Desk} {count : ℕ} → MovedBy d i c o after count → Moves d place turn o after (Ok count)
    moved {after} {count} p = accepts (move_lowest k) (rw (sym at-is, sym ec) p)

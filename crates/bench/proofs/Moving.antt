-- The move of the table: what place 2 and the others hold after it, and its count.
-- The ends of three boxes are those of `marks` Bench, where the count is computed.
use Rattle.std.specs.Prelude.{◌≡◌, refl, [], ◌∷◌, true, cond, ℕ, zero, suc, ◌<◌, eqb, ltb, get_or, pos, nat_abs, ◌+ℤ◌, ◌-ℤ◌}
use Rattle.std.proofs.Common.{sym, ap, ◌∙◌, arith, ltb-true, le-ltb}
use Rattle.limits.specs.Limits
use Rattle.marks.specs.Marks.{axis_of, changed_marks, Agree}
use Rattle.marks.specs.Bench.{boxes, count-is}
use Rattle.ints.specs.Cases.{by-same}
use Rattle.pieces.specs.Pieces.{Store, Sized, held_in, taken_at, axes_of, low_at, high_at, least_to, greatest_to}
use Rattle.pieces.specs.Store.{SameAt, taken_is, empty-is}
use Rattle.desk_put.specs.PutLaws.{put_same}
use Rattle.bench.specs.Table.{B, placed, HoldsThree, new_offset, moved}
use Rattle.bench.specs.Holding.{low-is, high_is}
use Rattle.desk.specs.Commands.{moved_to}
use Rattle.runs.specs.Afresh.{low_of, high_of}
use Rattle.runs.specs.CountLaws.{count_same}
use Rattle.runs.proofs.Theorem.{less_more}
use Rattle.bench.specs.Standing.{holds_same, put_holds}

-- ---- what the places hold after the move
module _ (d : Store) (size : Sized d) (t : HoldsThree d 0 64 32) where
  other : (q : ℕ) → (q ≡ 2 → ⊥) → SameAt d (moved d) q
  other q f = put_same d 2 (moved_to d.places 2 (pos 0) new_offset) q f

  pub move_holds : HoldsThree (moved d) 0 64 128
  move_holds = record {
    place-0 = holds_same (other 0 (λ k. omega arith)) t.place-0;
    place-1 = holds_same (other 1 (λ k. omega arith)) t.place-1;
    place-2 =
        let cell = held_in d.places 2 in
        put_holds (cell -ℤ pos 1) size (omega arith) (less_more cell) t.place-2.taken.holds (record { count = t.place-2.count; each = t.place-2.corners });
    others = λ p k. by-same p 2 (λ e. omega arith) (λ f. t.others p (record { place = k.place; holds = λ n. k.holds (ap nat_abs (sym (other p f).shape) ∙ n) }));
  }

-- ---- the count
-- the ends of B at x: x and x + 64 along x, 0 and 64 along y and z
abbrev EndsOn : ℕ → ℕ → Type 0
EndsOn x axis = (low_of axis (placed B x 0 0) ≡ cond (eqb axis 0) (pos x) (pos 0)) × (high_of axis (placed B x 0 0) ≡ cond (eqb axis 0) (pos x) (pos 0) +ℤ pos 64)

abbrev Ends : ℕ → Type 0
Ends x = (axis : ℕ) → axis < 3 → EndsOn x axis

by_axis : (C : ℕ → Type 0) (axis : ℕ) → axis < 3 → C 0 → C 1 → C 2 → C axis
by_axis C zero l a b c = a
by_axis C (suc zero) l a b c = b
by_axis C (suc (suc zero)) l a b c = c
by_axis C (suc (suc (suc axis))) l a b c = absurd (omega arith)

module _ {d : Store} {x0 x1 x2 : ℕ} (t : HoldsThree d x0 x1 x2) where
  taken_three : (p : ℕ) → p < Limits.places → taken_at d p ≡ ltb p 3
  taken_three zero l = taken_is d 0 t.place-0.taken
  taken_three (suc zero) l = taken_is d 1 t.place-1.taken
  taken_three (suc (suc zero)) l = taken_is d 2 t.place-2.taken
  taken_three (suc (suc (suc p))) l = empty-is d (suc (suc (suc p))) l (λ k. omega (arith, t.others (suc (suc (suc p))) k)) ∙ sym (le-ltb (suc (suc (suc p))) 3 (omega arith))

  agree : Ends x0 → Ends x1 → Ends x2 → (axis : ℕ) → axis < 3 → Agree (axis_of (axes_of d) axis) (axis_of (boxes (pos x0 ∷ pos x1 ∷ pos x2 ∷ [])) axis)
  agree e0 e1 e2 axis l = record { taken = taken_three; low = λ p h k. low p (within p h k); high = λ p h k. high p (within p h k) }
    where
      within : (p : ℕ) → p < Limits.places → taken_at d p ≡ true → p < 3
      within p h k = ltb-true p 3 (sym (taken_three p h) ∙ k)

      low : (p : ℕ) → p < 3 → low_at d axis p ≡ cond (eqb axis 0) (get_or (pos x0 ∷ pos x1 ∷ pos x2 ∷ []) p (pos 0)) (pos 0)
      low zero h = low-is t.place-0 axis l ∙ (e0 axis l).0
      low (suc zero) h = low-is t.place-1 axis l ∙ (e1 axis l).0
      low (suc (suc zero)) h = low-is t.place-2 axis l ∙ (e2 axis l).0
      low (suc (suc (suc p))) h = absurd (omega arith)

      high : (p : ℕ) → p < 3 → high_at d axis p ≡ cond (eqb axis 0) (get_or (pos x0 ∷ pos x1 ∷ pos x2 ∷ []) p (pos 0)) (pos 0) +ℤ pos 64
      high zero h = high_is t.place-0 axis l ∙ (e0 axis l).1
      high (suc zero) h = high_is t.place-1 axis l ∙ (e1 axis l).1
      high (suc (suc zero)) h = high_is t.place-2 axis l ∙ (e2 axis l).1
      high (suc (suc (suc p))) h = absurd (omega arith)

ends-0 : Ends 0
unfolding least_to greatest_to
ends-0 axis l = by_axis (EndsOn 0) axis l (refl, refl) (refl, refl) (refl, refl)

ends-64 : Ends 64
unfolding least_to greatest_to
ends-64 axis l = by_axis (EndsOn 64) axis l (refl, refl) (refl, refl) (refl, refl)

ends-32 : Ends 32
unfolding least_to greatest_to
ends-32 axis l = by_axis (EndsOn 32) axis l (refl, refl) (refl, refl) (refl, refl)

ends-128 : Ends 128
unfolding least_to greatest_to
ends-128 axis l = by_axis (EndsOn 128) axis l (refl, refl) (refl, refl) (refl, refl)

pub move_count : (d : Store) → Sized d → HoldsThree d 0 64 32 → changed_marks (axes_of d) (axes_of (moved d)) 2 ≡ 3
move_count d size t =
    let u = move_holds d size t in
    count_same 2 (omega arith) (agree t ends-0 ends-64 ends-32) (agree u ends-0 ends-64 ends-128) (λ p h. taken_three t p h ∙ sym (taken_three u p h)) (taken_three t 2 (omega arith)) ∙ count-is

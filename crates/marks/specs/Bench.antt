-- Document 01's bench case: places 0, 1, 2 hold the box of 64 steps at x = 0, 64, 32; place 2 moves to x = 128, and the count is 3.
-- On x low 2 passes low 1 and high 0, and high 2 passes high 1; on y and z nothing changes its order.
use Rattle.std.specs.Prelude.{◌≡◌, refl, cond, List, [], ◌∷◌, eqb, ltb, ℤ, pos, ◌+ℤ◌, get_or}
use Rattle.std.proofs.Math.Bool.{xor}
use Rattle.marks.specs.Marks.{Axes, earlier, changed, changed_marks}
use Rattle.ints.specs.Counts.{sum_to}

-- boxes of 64 steps at these offsets along x
abbrev pub boxes : List ℤ → Axes
boxes xs = record {
  taken = λ place. ltb place 3;
  low = λ axis place. cond (eqb axis 0) (get_or xs place (pos 0)) (pos 0);
  high = λ axis place. cond (eqb axis 0) (get_or xs place (pos 0)) (pos 0) +ℤ pos 64;
}

abbrev pub before : Axes
before = boxes (pos 0 ∷ pos 64 ∷ pos 32 ∷ [])

abbrev pub after : Axes
after = boxes (pos 0 ∷ pos 64 ∷ pos 128 ∷ [])

pub count-is : changed_marks before after 2 ≡ 3
unfolding changed sum_to earlier xor
count-is = refl

-- What the helpers of this crate give: the sizes that a table's letters stand for, and the three sizes in steps.
-- The contract of `corners` cites nothing of this file.
use Rattle.std.specs.Prelude.{ℕ, ◌≡◌, Bool, ◌&&◌, cond, List, [], ◌∷◌, eqb, ℤ, pos}
use Rattle.std.specs.Int.Signed.{lt_z}
use Rattle.limits.specs.Limits
use Rattle.limits.specs.Lowest.{Lowest}
use Rattle.scans.specs.Floats.{InSteps}
use Rattle.scans.specs.declared.Point.{Point}
use Rattle.scans.specs.Scanned.{Scanned}
use Rattle.blanks.specs.Blanks.{size_refusals}

-- the letters of a table, as bytes: w stands for the width, d for the depth, h for the height, and any other for 0
abbrev pub chosen : ℤ → ℤ → ℤ → ℕ → ℤ
chosen w d h k = cond (eqb k 119) w (cond (eqb k 100) d (cond (eqb k 104) h (pos 0)))

abbrev pub chosen_all : List ℕ → ℤ → ℤ → ℤ → List ℤ
chosen_all [] w d h = []
chosen_all (k ∷ rest) w d h = chosen w d h k ∷ chosen_all rest w d h

abbrev pub all_positive : ℤ → ℤ → ℤ → Bool
all_positive x y z = lt_z (pos 0) x && lt_z (pos 0) y && lt_z (pos 0) z

-- the lowest refusal of three sizes, or their steps
pub record SizesAs (p : Point) (r : Scanned) : Type 0 where
  pub number : Lowest (size_refusals p) r.number
  pub steps : r.number ≡ Limits.done → InSteps p.x r.x × InSteps p.y r.y × InSteps p.z r.z

-- The verdicts of the table, of lists of placed corners: each by its witnesses, and the tests of Judging are computed.
-- A pair names a corner of the first list, a corner of the second and a weight (with no gap, cube corner 0); a touching names two corners that its direction parts.
use Rattle.std.specs.Prelude.{[], ◌∷◌, ℕ, ℤ, pos}
use Rattle.space.specs.declared.Vec3.{Vec3}
use Rattle.space.specs.declared.Pair.{Pair}
use Rattle.space.specs.Verdicts.{Below, VerdictIs, corner_at, separate, touching, penetrating}
use Rattle.space.specs.NoGap.{plain_weighted}
use Rattle.space.proofs.NoGapLaws.{below_plain}
use Rattle.bench.specs.Judging.{below_by, separate_by, touching_by, penetrating_by, whole_by}
use Rattle.bench.specs.Table.{B, T, P, along_x, along_y, placed}

abbrev vec : ℤ → ℤ → ℤ → Vec3
vec x y z = record { x = x; y = y; z = z }

abbrev pair : ℕ → ℕ → ℕ → Pair
pair a b weight = record { first = a; cube = 0; second = b; weight = pos weight }

pub boxes-64 : VerdictIs 0 (placed B 0 0 0) (placed B 64 0 0) touching
unfolding corner_at plain_weighted
boxes-64 = touching_by (vec (pos 1) (pos 0) (pos 0)) 0 0 (pair 4 0 1 ∷ []) tt

pub boxes-63 : VerdictIs 0 (placed B 0 0 0) (placed B 63 0 0) penetrating
unfolding corner_at plain_weighted
boxes-63 = penetrating_by (pair 0 0 1) (pair 7 0 21) (pair 4 2 21) (pair 4 1 21) tt

pub boxes-65 : VerdictIs 0 (placed B 0 0 0) (placed B 65 0 0) separate
unfolding corner_at
boxes-65 = separate_by (vec (pos 1) (pos 0) (pos 0)) tt

pub corner_on_face : VerdictIs 0 (placed T 0 0 0) (placed P 22 21 21) touching
unfolding corner_at plain_weighted
corner_on_face = touching_by (vec (pos 1) (pos 1) (pos 1)) 0 0 (pair 1 0 22 ∷ pair 2 0 21 ∷ pair 3 0 21 ∷ []) tt

pub corner_inside : VerdictIs 0 (placed T 0 0 0) (placed P 21 21 21) penetrating
unfolding corner_at plain_weighted
corner_inside = penetrating_by (pair 0 0 1) (pair 1 0 21) (pair 2 0 21) (pair 3 0 21) tt

pub corner_by : Below (vec (pos 1) (pos 1) (pos 1)) 0 (placed T 0 0 0) (placed P 22 21 22)
unfolding corner_at
corner_by = (below_plain (placed T 0 0 0) (placed P 22 21 22)).1 (below_by (vec (pos 1) (pos 1) (pos 1)) (placed T 0 0 0) (placed P 22 21 22) tt)

pub corner_outside : VerdictIs 0 (placed T 0 0 0) (placed P 22 21 22) separate
unfolding corner_at
corner_outside = separate_by (vec (pos 1) (pos 1) (pos 1)) tt

pub points : VerdictIs 0 (placed P 0 0 0) (placed P 0 0 0) penetrating
unfolding corner_at plain_weighted
points = whole_by (pair 0 0 1 ∷ []) tt

pub segments : VerdictIs 0 (placed along_x 0 0 0) (placed along_y 0 0 0) penetrating
unfolding corner_at plain_weighted
segments = whole_by (pair 0 0 1 ∷ pair 0 1 1 ∷ pair 1 0 1 ∷ pair 1 1 1 ∷ []) tt

pub segments_raised : VerdictIs 0 (placed along_x 0 0 0) (placed along_y 0 0 1) separate
unfolding corner_at
segments_raised = separate_by (vec (pos 0) (pos 0) (pos 1)) tt

-- ---- the other pairs of the three boxes
pub boxes-0-32 : VerdictIs 0 (placed B 0 0 0) (placed B 32 0 0) penetrating
unfolding corner_at plain_weighted
boxes-0-32 = penetrating_by (pair 0 4 1) (pair 7 0 1) (pair 4 2 1) (pair 4 1 1) tt

pub boxes-64-32 : VerdictIs 0 (placed B 64 0 0) (placed B 32 0 0) penetrating
unfolding corner_at plain_weighted
boxes-64-32 = penetrating_by (pair 0 4 3) (pair 7 4 1) (pair 4 6 1) (pair 4 5 1) tt

pub boxes-64-128 : VerdictIs 0 (placed B 64 0 0) (placed B 128 0 0) touching
unfolding corner_at plain_weighted
boxes-64-128 = touching_by (vec (pos 1) (pos 0) (pos 0)) 0 0 (pair 4 0 1 ∷ []) tt

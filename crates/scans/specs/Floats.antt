-- What a float means in steps: document 01, "Lengths that arrive as text or as floats", in the logic's account of IEEE 754 (`lib.Ieee`).
-- A float is `nan` (not a number), an infinity `inf s`, or `fin s m e`: m times 2 to the e, negative where s is true; 2 to the e is the fraction `up e / down e`.
use Rattle.std.specs.Prelude.{ℕ, ◌*◌, ◌/◌, ◌<◌, ◌≡◌, Bool, true, false, List, [], ◌∷◌, ℤ, pos, neg_ℤ, ◌*ℤ◌, Float}
use Rattle.std.specs.Float.{nan, inf, fin}
use Rattle.std.specs.Float.Ieee.{up, down}
use Rattle.limits.specs.Limits
use Rattle.limits.specs.Lowest.{Rule, ◌when◌}

-- a size with its sign: minus zero is 0
abbrev pub with_sign : Bool → ℕ → ℤ
with_sign true n = neg_ℤ (pos n)
with_sign false n = pos n

-- "its value times 64 is a whole number": the number z, both sides multiplied by the fraction's lower part
abbrev pub InSteps : Float → ℤ → Type 0
InSteps nan z = ⊥
InSteps (inf s) z = ⊥
InSteps (fin s m e) z = with_sign s (m * up e * Limits.steps) ≡ z *ℤ pos (down e)

-- the steps of a float that is a whole number of them (TakenWhen, `steps_are`): its value times 64. Any other has none, and is refused before it is asked
unfoldable pub steps_of : Float → ℤ
steps_of nan = pos 0
steps_of (inf s) = pos 0
steps_of (fin s m e) = with_sign s (m * up e * Limits.steps / down e)

-- 16: "a float is infinite or not a number"
abbrev pub NotFinite : Float → Type 0
NotFinite nan = Unit {0}
NotFinite (inf s) = Unit {0}
NotFinite (fin s m e) = ⊥

-- 17: "a finite float isn't a whole number of steps"
abbrev pub NotWhole : Float → Type 0
NotWhole x = (NotFinite x → ⊥) × ((z : ℤ) → InSteps x z → ⊥)

-- 18: "a float's value is beyond ±1024 mm", which are 65,536 steps: the value times 64 is the larger
abbrev pub Beyond : Float → Type 0
Beyond nan = ⊥
Beyond (inf s) = ⊥
Beyond (fin s m e) = Limits.shape_reach * down e < m * up e * Limits.steps

-- the refusals of what holds floats, where `of C` says that C is so of one of its floats
abbrev pub refusals : ((Float → Type 0) → Type 0) → List Rule
refusals of = Limits.not_finite when of NotFinite ∷ Limits.not_whole when of NotWhole ∷ Limits.float_range when of Beyond ∷ []

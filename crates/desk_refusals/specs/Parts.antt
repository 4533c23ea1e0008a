-- WHAT A COMMAND'S NUMBERS ARE REFUSED FOR, as document 01 has it, part by part: a shape, a place, two places, a turn and an offset.
-- The list of each command is made of these parts (crate `desk`, Commands.antt).
use Rattle.std.specs.Prelude.{◌≡◌, List, [], ◌∷◌, ◌⊎◌, ℤ, nat_abs}
use Rattle.limits.specs.Limits
use Rattle.limits.specs.Lowest.{Rule, ◌when◌}
use Rattle.limits.specs.Numbered.{Numbered}
use Rattle.pieces.specs.Pieces.{Store, Loaded, Taken}
use Rattle.desk_state.specs.Desk.{OffsetFits}

-- ---- the parts: 2 "shape number not 0 to 31", 6 "place: shape not loaded"
abbrev pub shape_refusals : Store → ℤ → List Rule
shape_refusals d shape = Limits.shape_number when (Numbered Limits.shapes shape → ⊥) ∷ Limits.shape_missing when (Loaded d (nat_abs shape) → ⊥) ∷ []

-- 7 "a place number not 0 to 63" (to 127 since W4), 8 "place: already taken"
abbrev pub empty_refusals : List ℤ → ℤ → List Rule
empty_refusals places place = Limits.place_number when (Numbered Limits.places place → ⊥) ∷ Limits.place_taken when (Taken places (nat_abs place)) ∷ []

-- 7, and 9 "move, remove, pair: a place is empty"
abbrev pub taken_refusals : List ℤ → ℤ → List Rule
taken_refusals places place = Limits.place_number when (Numbered Limits.places place → ⊥) ∷ Limits.place_empty when (Taken places (nat_abs place) → ⊥) ∷ []

-- 10 "turn not 0 to 23", 11 "offset number beyond ±65,536"
abbrev pub placement_refusals : ℤ → ℤ → ℤ → ℤ → List Rule
placement_refusals turn x y z = Limits.turn_number when (Numbered Limits.turns turn → ⊥) ∷ Limits.offset_range when (OffsetFits x y z → ⊥) ∷ []

-- 7, 9 of two places, and 12 "the same place twice"
abbrev pub two_refusals : List ℤ → ℤ → ℤ → List Rule
two_refusals places first second =
    Limits.place_number when ((Numbered Limits.places first → ⊥) ⊎ (Numbered Limits.places second → ⊥))
    ∷ Limits.place_empty when ((Taken places (nat_abs first) → ⊥) ⊎ (Taken places (nat_abs second) → ⊥))
    ∷ Limits.same_place when (first ≡ second)
    ∷ []

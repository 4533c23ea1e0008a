-- A shape from the scanner's file (document 02, W2): "Corners distinct in steps are kept in order of first appearance."
-- And what reading a whole file into lent room may answer and leave there, by the request's own order of refusals.
use Rattle.std.specs.Prelude.{ℕ, ◌*◌, ◌<◌, ◌≡◌, Bool, false, ◌&&◌, ◌||◌, cond, List, [], ◌∷◌, ◌++◌, map, eqb, ℤ, pos, negsuc, length, drop, Result, Ok, Err}
use Rattle.limits.specs.Limits
use Rattle.limits.specs.Lowest.{Rule, Lowest, ◌when◌}
use Rattle.limits.specs.Refusals.{number_of}
use Rattle.limits.specs.declared.Refusal.{Refusal}
use Rattle.scans.specs.Floats.{refusals}
use Rattle.scans_stl.specs.Stl.{file_corners, AnyOf, Corner, in_steps, numbers_of, file_refusals}

-- ---- corners that are the same in steps; minus zero is 0 there
abbrev pub equal_numbers : ℤ → ℤ → Bool
equal_numbers (pos m) (pos n) = eqb m n
equal_numbers (pos m) (negsuc n) = false
equal_numbers (negsuc m) (pos n) = false
equal_numbers (negsuc m) (negsuc n) = eqb m n

abbrev pub same_corner : Corner → Corner → Bool
same_corner a b = equal_numbers a.x b.x && (equal_numbers a.y b.y && equal_numbers a.z b.z)

abbrev pub among : Corner → List Corner → Bool
among c [] = false
among c (d ∷ rest) = same_corner d c || among c rest

-- ---- the first appearances
-- one corner more: nothing where it is among those kept, else it is kept behind them
abbrev pub keep_one : List Corner → Corner → List Corner
keep_one kept c = cond (among c kept) kept (kept ++ c ∷ [])

abbrev pub keep_all : List Corner → List Corner → List Corner
keep_all kept [] = kept
keep_all kept (c ∷ rest) = keep_all (keep_one kept c) rest

abbrev pub first_appearances : List Corner → List Corner
first_appearances corners = keep_all [] corners

-- what is kept of a file
abbrev pub kept_of : List ℕ → List Corner
kept_of file = first_appearances (map in_steps (file_corners file))

-- no two corners of a list are alike
abbrev pub Distinct : List Corner → Type 0
Distinct [] = Unit {0}
Distinct (c ∷ rest) = (among c rest ≡ false) × Distinct rest

-- ---- the answer
-- 23: "more distinct corners than a shape may have"; 13 "for short room"
abbrev pub kept_refusals : List Corner → List ℤ → List Rule
kept_refusals kept room = Limits.many_corners when (Limits.corners < length kept) ∷ Limits.short_room when (length room < 3 * length kept) ∷ []

-- "Order: 21, 22, the lowest of 16 to 18 over all corners, 23, then 13 for short room."
abbrev pub whole_refusals : List ℕ → List ℤ → List Rule
whole_refusals file room = file_refusals file ++ (refusals (λ C. AnyOf C (file_corners file)) ++ kept_refusals (kept_of file) room)

-- what is written: three numbers a corner that is kept, and "the room past what is written keeps its value"
pub record RoomFilled (kept : List Corner) (before after : List ℤ) (count : ℕ) : Type 0 where
  pub room : after ≡ numbers_of kept ++ drop (3 * length kept) before
  pub counted : count ≡ 3 * length kept

-- what reading a file gives: 0 and how many numbers were written, or the number of the refusal and 0
pub record ShapeRead : Type 0 where
  pub number : ℕ
  pub count : ℕ

abbrev pub shape_of : Result ℕ Refusal → ShapeRead
shape_of (Ok n) = record { number = Limits.done; count = n }
shape_of (Err r) = record { number = number_of r; count = 0 }

-- what reading a file may answer and leave
pub record ShapeReadAs (file : List ℕ) (before after : List ℤ) (r : ShapeRead) : Type 0 where
  pub number : Lowest (whole_refusals file before) r.number
  pub filled : r.number ≡ Limits.done → RoomFilled (kept_of file) before after r.count
  pub stays : (r.number ≡ Limits.done → ⊥) → (after ≡ before) × (r.count ≡ 0)

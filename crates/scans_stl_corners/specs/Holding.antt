-- What the helpers of this crate give: an array that holds the corners kept so far, as many as a shape may have, and a count that goes one further.
-- The contract of `corners` cites nothing of this file.
use Rattle.std.specs.Prelude.{ℕ, zero, suc, ◌+◌, ◌*◌, ◌≤◌, min, ◌≡◌, List, [], ◌∷◌, ◌++◌, map, ℤ, pos, length, get_or, set, Result, Ok, Err}
use Rattle.limits.specs.Limits
use Rattle.limits.specs.Lowest.{Lowest}
use Rattle.limits.specs.Refusals.{number_of}
use Rattle.limits.specs.declared.Refusal.{Refusal}
use Rattle.scans.specs.Floats.{refusals}
use Rattle.scans_stl.specs.Stl.{first_at, triangle_bytes, triangle_count, corners_from, file_corners, AnyOf, Corner, in_steps}
use Rattle.scans_stl_corners.specs.Kept.{keep_all, first_appearances, kept_of, kept_refusals, ShapeRead, RoomFilled}

abbrev pub corner_of : ℤ → ℤ → ℤ → Corner
corner_of x y z = record { x = x; y = y; z = z }

-- corner i of numbers, three a corner, and the first n
abbrev pub corner_held : List ℤ → ℕ → Corner
corner_held a i = corner_of (get_or a (3 * i) (pos 0)) (get_or a (3 * i + 1) (pos 0)) (get_or a (3 * i + 2) (pos 0))

abbrev pub corners_held : List ℤ → ℕ → List Corner
corners_held a zero = []
corners_held a (suc n) = corners_held a n ++ corner_held a n ∷ []

-- a corner stored as corner n
abbrev pub with_corner : List ℤ → ℕ → ℤ → ℤ → ℤ → List ℤ
with_corner a n x y z = set (set (set a (3 * n) x) (3 * n + 1) y) (3 * n + 2) z

-- the array holds the corners of the list where a shape may have so many; where there are more, the count alone says so
pub record Holding (a : List ℤ) (n : ℕ) (kept : List Corner) : Type 0 where
  pub counted : n ≡ min (length kept) (suc Limits.corners)
  pub held : length kept ≤ Limits.corners → corners_held a n ≡ kept

-- whatever was held, with these corners kept too
abbrev pub Keeps : List ℤ → ℕ → List Corner → List ℤ → ℕ → Type 0
Keeps a m more b n = (kept : List Corner) → Holding a m kept → Holding b n (keep_all kept more)

-- the first so many triangles, read up to a position
pub record ReadUpTo (file : List ℕ) (at : ℕ) (a : List ℤ) (number count : ℕ) : Type 0 where
  pub nth : ℕ
  pub below : nth ≤ triangle_count file
  pub place : at ≡ first_at + triangle_bytes * nth
  pub lowest : Lowest (refusals (λ C. AnyOf C (corners_from file first_at nth))) number
  pub holding : number ≡ Limits.done → Holding a count (first_appearances (map in_steps (corners_from file first_at nth)))

-- the lowest refusal of all floats, and how many corners were kept: one more than a shape may have where there are too many
pub record Collected : Type 0 where
  pub number : ℕ
  pub count : ℕ

abbrev pub collected_of : Result ℕ Refusal → Collected
collected_of (Ok n) = record { number = Limits.done; count = n }
collected_of (Err r) = record { number = number_of r; count = 0 }

-- all triangles
pub record CollectedAs (file : List ℕ) (a : List ℤ) (r : Collected) : Type 0 where
  pub lowest : Lowest (refusals (λ C. AnyOf C (file_corners file))) r.number
  pub holding : r.number ≡ Limits.done → Holding a r.count (kept_of file)

-- what is held, written to room
pub record FillsAs (kept : List Corner) (before after : List ℤ) (r : ShapeRead) : Type 0 where
  pub number : Lowest (kept_refusals kept before) r.number
  pub filled : r.number ≡ Limits.done → RoomFilled kept before after r.count
  pub stays : (r.number ≡ Limits.done → ⊥) → (after ≡ before) × (r.count ≡ 0)

abbrev pub Fills : List ℤ → ℕ → List ℤ → List ℤ → ShapeRead → Type 0
Fills a n before after r = (kept : List Corner) → Holding a n kept → FillsAs kept before after r

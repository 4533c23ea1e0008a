-- That what is read from a line lies within it.
-- Nothing here says which answer is right: that is said of the functions that the program calls.
use Rattle.std.specs.Prelude.{ℕ, ◌≤◌, ◌<◌, Option, Some, None}

-- of a line of n bytes: two words from `start` on end before a third
abbrev pub Parted : ℕ → ℕ → Option (ℕ × ℕ) → Type 0
Parted start n (Some (first, second)) = (start ≤ first) × (first < second) × (second < n)
Parted start n None = Unit {0}

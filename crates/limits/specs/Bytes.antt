-- How many bytes the five lent buffers of a desk take: "every desk buffer stays below 64 KiB" (W4).
-- A cell of shapes and places is an i32, of rows a u8, of the book a u32, of the marks a u16 (crates/desk_state/src/lib.rt).
use Rattle.std.specs.Prelude.{List, [], ◌∷◌, Bool, true, ◌&&◌, ℕ, ◌*◌, T, ltb}
use Rattle.limits.specs.Limits

-- shapes, places, rows, book, marks
abbrev pub buffer_bytes : List ℕ
buffer_bytes = 4 * Limits.shapes_length ∷ 4 * Limits.places_length ∷ 1 * Limits.rows ∷ 4 * Limits.book ∷ 2 * Limits.marks ∷ []

abbrev pub each_below : ℕ → List ℕ → Bool
each_below k [] = true
each_below k (n ∷ rest) = ltb n k && each_below k rest

-- "below 64 KiB"
abbrev pub Below64K : List ℕ → Type 0
Below64K l = T (each_below (64 * 1024) l)

-- What the counts of places and corners come to: the numbers that request W4 names, and the bytes of each lent buffer of a desk.
-- "Raise places to 128 and corners per shape to 64. The marks buffer becomes 768 numbers, .. the move count's limit becomes 1,524, and every desk buffer stays below 64 KiB."
use Rattle.std.specs.Prelude.{◌≡◌, refl, [], ◌∷◌, ◌*◌}
use Rattle.limits.specs.Limits
use Rattle.limits.specs.Bytes.{buffer_bytes, Below64K}

pub places_are : Limits.places ≡ 128
places_are = refl

pub corners_are : Limits.corners ≡ 64
corners_are = refl

pub marks_are : Limits.marks ≡ 768
marks_are = refl

-- where the second and the third part of the marks start
pub parts_start : (Limits.axis_marks ≡ 256) × (2 * Limits.axis_marks ≡ 512)
parts_start = (refl, refl)

pub move_most_is : Limits.move_most ≡ 1524
move_most_is = refl

-- shapes, places, rows, book, marks
pub buffer_bytes_lem : buffer_bytes ≡ 24704 ∷ 2560 ∷ 16384 ∷ 64 ∷ 1536 ∷ []
buffer_bytes_lem = refl

pub buffers_below : Below64K buffer_bytes
buffers_below = tt

-- A shape written back as an OFF text (document 02, W7): "Write a shape back with no faces, each number as the shortest exact decimal (a step is 0.015625), one
-- space between numbers, byte 10 after each line". A shape is the list of its corners' numbers, three each.
use Rattle.std.specs.Prelude.{ℕ, ◌/◌, List, [], ◌∷◌, ◌++◌, ℤ, length}
use Rattle.text_put.specs.Print.{digits_of}
use Rattle.off_number.specs.Shortest.{decimal_of}

-- "the word OFF, three counts": so many corners, no faces, and no edges; each line with its byte 10
abbrev pub head_of : ℕ → List ℕ
head_of corners = (79 ∷ 70 ∷ 70 ∷ 10 ∷ []) ++ digits_of corners ++ (32 ∷ 48 ∷ 32 ∷ 48 ∷ 10 ∷ [])

-- a number and the byte behind it: 32, a space, or 10 at the line's end
abbrev pub ended : ℤ → ℕ → List ℕ
ended z byte = decimal_of z ++ (byte ∷ [])

abbrev pub line_of : ℤ → ℤ → ℤ → List ℕ
line_of x y z = ended x 32 ++ ended y 32 ++ ended z 10

-- a line for each corner
abbrev pub lines_of : List ℤ → List ℕ
lines_of [] = []
lines_of (x ∷ []) = []
lines_of (x ∷ y ∷ []) = []
lines_of (x ∷ y ∷ z ∷ numbers) = line_of x y z ++ lines_of numbers

abbrev pub off_text : List ℤ → List ℕ
off_text numbers = head_of (length numbers / 3) ++ lines_of numbers

-- Which cell a `spoil` names: "`spoil PART I V`: puts V into cell I" of a part (docs/COMMANDS.md). The parts' names are given letter by letter.
-- `CellOf` is all that is promised of the cell of the words behind `spoil`.
use Rattle.std.specs.Prelude.{ℕ, ◌≤◌, ◌≡◌, List, [], ◌∷◌, ◌⊎◌, ℤ, pos, length}
use Rattle.text_words.specs.Words.{AreNumbers}
use Rattle.line.specs.Behind.{Finds}
use Rattle.line_spoil.specs.declared.Cell.{Cell}
use Rattle.line_spoil.specs.declared.Cell.TheVariants.{Shapes, Places, Rows, Book, Marks, Bad}

-- "shapes"
abbrev pub shapes_part : List ℕ
shapes_part = 115 ∷ 104 ∷ 97 ∷ 112 ∷ 101 ∷ 115 ∷ []

-- "places"
abbrev pub places_part : List ℕ
places_part = 112 ∷ 108 ∷ 97 ∷ 99 ∷ 101 ∷ 115 ∷ []

-- "rows"
abbrev pub rows_part : List ℕ
rows_part = 114 ∷ 111 ∷ 119 ∷ 115 ∷ []

-- "book"
abbrev pub book_part : List ℕ
book_part = 98 ∷ 111 ∷ 111 ∷ 107 ∷ []

-- "marks"
abbrev pub marks_part : List ℕ
marks_part = 109 ∷ 97 ∷ 114 ∷ 107 ∷ 115 ∷ []

-- the parts, and their cell i with the number v
abbrev pub parts : ℕ → ℤ → List (List ℕ × Cell)
parts i v =
    (shapes_part, Shapes i v)
    ∷ (places_part, Places i v)
    ∷ (rows_part, Rows i v)
    ∷ (book_part, Book i v)
    ∷ (marks_part, Marks i v)
    ∷ []

abbrev pub NoCell : Cell → Type 0
NoCell c = c ≡ Bad

-- the cell that a part's name and two numbers give: its number, which is not negative, and what is put there
abbrev pub CellAt : List ℕ → ℤ → ℤ → Cell → Type 0
CellAt part number v c =
    ((i : ℕ) × (number ≡ pos i) × Finds part (parts i v) NoCell c)
    ⊎ (((i : ℕ) → number ≡ pos i → ⊥) × (c ≡ Bad))

-- a part's name, and behind it a number that is not negative and another; else there is no cell
abbrev pub CellOf : List (List ℕ) → List ℤ → Cell → Type 0
CellOf words room c =
    ((part : List ℕ) × (rest : List (List ℕ)) × (i : ℕ) × (v : ℤ) × (words ≡ part ∷ rest) × AreNumbers rest (pos i ∷ v ∷ []) × (2 ≤ length room) × Finds part (parts i v) NoCell c)
    ⊎ (((part : List ℕ) (rest : List (List ℕ)) (i : ℕ) (v : ℤ) → words ≡ part ∷ rest → AreNumbers rest (pos i ∷ v ∷ []) → 2 ≤ length room → ⊥) × (c ≡ Bad))

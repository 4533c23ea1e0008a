-- A line's words: they "are separated by exactly one space" (docs/COMMANDS.md). The space is the byte 32.
-- The line is cut at each space, so a double space and a space at either end leave an empty word.
use Rattle.std.specs.Prelude.{ℕ, ◌≤◌, ◌≡◌, List, [], ◌∷◌, ◌++◌, ◌⊎◌, length, drop, ℤ, Option, Some, None}
use Rattle.text_cut.specs.Cuts.{first_part, parts_of}
use Rattle.text_number.specs.Numbers.{Reads}

-- the byte at which a line is cut into its words
abbrev pub space_byte : ℕ
space_byte = 32

-- the bytes before the first space
abbrev pub first_word : List ℕ → List ℕ
first_word = first_part space_byte

-- the words: a space ends one, and what follows the last space is a word too
abbrev pub words_of : List ℕ → List (List ℕ)
words_of = parts_of space_byte

-- each word is a number, and these are the numbers
abbrev pub AreNumbers : List (List ℕ) → List ℤ → Type 0
AreNumbers [] [] = Unit {0}
AreNumbers [] (v ∷ vs) = ⊥
AreNumbers (w ∷ ws) [] = ⊥
AreNumbers (w ∷ ws) (v ∷ vs) = Reads w (Some v) × AreNumbers ws vs

-- the room with values in its first cells
abbrev pub filled : List ℤ → List ℤ → List ℤ
filled vs room = vs ++ drop (length vs) room

-- some words are numbers and stand in the room; the word after them is none, or finds the room full
pub record Stuck (text : List ℕ) (room exit : List ℤ) : Type 0 where
  pub words : List (List ℕ)
  pub values : List ℤ
  pub next : List ℕ
  pub rest : List (List ℕ)
  pub cut : words_of text ≡ words ++ next ∷ rest
  pub numbers : AreNumbers words values
  pub fits : length values ≤ length room
  pub left : exit ≡ filled values room
  pub stuck : Reads next None ⊎ (length values ≡ length room)

-- what is answered of a text, and left in the room: how many numbers its words are, or that it is stuck
abbrev pub Listed : List ℕ → List ℤ → List ℤ → Option ℕ → Type 0
Listed text room exit (Some n) =
    (values : List ℤ) × AreNumbers (words_of text) values × (n ≡ length values) × (n ≤ length room) × (exit ≡ filled values room)
Listed text room exit None = Stuck text room exit

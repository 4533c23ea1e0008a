-- The words behind a command's own, the numbers that they are, and which of a table's words a word is.
-- `end` is where the command's own word ends: at a space, or at the line's end.
use Rattle.std.specs.Prelude.{ℕ, ◌+◌, ◌≤◌, ◌≡◌, List, [], ◌∷◌, ◌⊎◌, ℤ, pos, length, drop, Option, Some, None}
use Rattle.std.proofs.Math.Logic.{ite}
use Rattle.std.proofs.Math.Decide.{dec_lt}
use Rattle.text_words.specs.Words.{words_of, AreNumbers, filled}

-- the words after the space at `end`, and none where the line ends there
unfoldable pub behind : List ℕ → ℕ → List (List ℕ)
unfolding dec_lt
behind line end = ite (dec_lt end (length line)) (words_of (drop (end + 1) line)) []

-- each word is a number and they stand in the room's first cells, n of them; or one is none, or the room does not hold them
abbrev pub NumbersIn : List (List ℕ) → List ℤ → List ℤ → Option ℕ → Type 0
NumbersIn words room exit (Some n) = (values : List ℤ) × AreNumbers words values × (n ≡ length values) × (n ≤ length room) × (exit ≡ filled values room)
NumbersIn words room exit None = (values : List ℤ) → AreNumbers words values → length values ≤ length room → ⊥

-- a number that is not negative
abbrev pub NotNegative : ℤ → Option ℕ → Type 0
NotNegative v (Some n) = v ≡ pos n
NotNegative v None = (n : ℕ) → v ≡ pos n → ⊥

-- ---- tables of words
-- the value beside the first word of the table that is w; where none is, `Else` says what is right
abbrev pub Finds : {A : Type 0} → List ℕ → List (List ℕ × A) → (A → Type 0) → A → Type 0
Finds w [] Else r = Else r
Finds w (entry ∷ table) Else r = ((w ≡ entry.0) × (r ≡ entry.1)) ⊎ ((w ≡ entry.0 → ⊥) × Finds w table Else r)

-- w is no word of the table
abbrev pub NotIn : {A : Type 0} → List ℕ → List (List ℕ × A) → Type 0
NotIn w [] = Unit {0}
NotIn w (entry ∷ table) = (w ≡ entry.0 → ⊥) × NotIn w table

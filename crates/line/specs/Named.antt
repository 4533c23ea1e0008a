-- The number of a word among names, and a table's value of that number.
-- A word that is none of them has as its number how many they are.
use Rattle.std.specs.Prelude.{ℕ, zero, suc, ◌≡◌, List, [], ◌∷◌, ◌⊎◌}

-- the first name that w is, counted from 0
abbrev pub NameOf : List ℕ → List (List ℕ) → ℕ → Type 0
NameOf w [] k = k ≡ 0
NameOf w (name ∷ names) k = ((w ≡ name) × (k ≡ 0)) ⊎ ((w ≡ name → ⊥) × ((j : ℕ) × (k ≡ suc j) × NameOf w names j))

-- the names of a table, and the value at number k: `none` past its end
abbrev pub names_of : {A : Type 0} → List (List ℕ × A) → List (List ℕ)
names_of [] = []
names_of (entry ∷ table) = entry.0 ∷ names_of table

abbrev pub value_of : {A : Type 0} → List (List ℕ × A) → A → ℕ → A
value_of [] none k = none
value_of (entry ∷ table) none zero = entry.1
value_of (entry ∷ table) none (suc k) = value_of table none k

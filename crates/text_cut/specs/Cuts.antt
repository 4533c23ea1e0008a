-- A text cut at a byte c, which belongs to no part; what follows the last one is a part too.
-- `Cut c text parts` says it of a text and its parts; `parts_of c` works the parts out, and `first_part c` the first of them.
use Rattle.std.specs.Prelude.{ℕ, ◌≡◌, List, [], ◌∷◌, ◌++◌}
use Rattle.std.proofs.Math.Logic.{ite}
use Rattle.std.proofs.Math.Decide.{ℕ_discrete}

-- the byte c is not in a part
abbrev pub Uncut : ℕ → List ℕ → Type 0
Uncut c [] = Unit {0}
Uncut c (b ∷ part) = (b ≡ c → ⊥) × Uncut c part

pub data Cut (c : ℕ) : List ℕ → List (List ℕ) → Type 0 where
  last : (part : List ℕ) → Uncut c part → Cut c part (part ∷ [])
  cut : (part : List ℕ) {rest : List ℕ} {parts : List (List ℕ)} → Uncut c part → Cut c rest parts → Cut c (part ++ c ∷ rest) (part ∷ parts)

-- the bytes before the first c, all of them where there is none
unfoldable pub first_part : ℕ → List ℕ → List ℕ
unfolding ℕ_discrete
first_part c [] = []
first_part c (b ∷ s) = ite (ℕ_discrete b c) [] (b ∷ first_part c s)

-- a byte goes to the front of the first part of what follows it
abbrev pub onto : ℕ → List (List ℕ) → List (List ℕ)
onto b [] = (b ∷ []) ∷ []
onto b (part ∷ parts) = (b ∷ part) ∷ parts

unfoldable pub parts_of : ℕ → List ℕ → List (List ℕ)
unfolding ℕ_discrete
parts_of c [] = [] ∷ []
parts_of c (b ∷ s) = ite (ℕ_discrete b c) ([] ∷ parts_of c s) (onto b (parts_of c s))

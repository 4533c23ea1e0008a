-- "0 is done. Otherwise the lowest number that applies is given, and only where it applies." (document 01, "When the desk says no")
-- A call lists its refusals in the order that decides. The laws stand in LowestLaws.
use Rattle.std.specs.Prelude.{◌≡◌, List, [], ◌∷◌, ◌⊎◌, Bool, true, ◌&&◌, ℕ, ◌<◌, T, ltb}

-- a refusal's number, and when it applies: a statement of what was handed in
pub record Rule : Type 1 where
  pub number : ℕ
  pub applies : Type 0

infix 70 ◌when◌
abbrev pub ◌when◌ : ℕ → Type 0 → Rule
n when C = record { number = n; applies = C }

-- n is the number of the first refusal of the list that applies, or 0 where none does
abbrev pub Lowest : List Rule → ℕ → Type 0
Lowest [] n = n ≡ 0
Lowest (r ∷ rest) n = (r.applies × (n ≡ r.number)) ⊎ ((r.applies → ⊥) × Lowest rest n)

-- the numbers of a list rise: the first is above 0, and each is above the one before. The first refusal that applies is then the lowest that does
-- (LowestLaws.antt). Every list of document 01 rises; the list of a request that gives an order of its own is not bound to, and says so by its name
abbrev pub rises_above : ℕ → List Rule → Bool
rises_above k [] = true
rises_above k (r ∷ rest) = ltb k r.number && rises_above r.number rest

abbrev pub Rising : List Rule → Type 0
Rising l = T (rises_above 0 l)

-- "0 is done": no refusal of the list has that number
abbrev pub Positive : List Rule → Type 0
Positive [] = Unit {0}
Positive (r ∷ rest) = (0 < r.number) × Positive rest

-- n is the number of a refusal of the list that applies, be there others or not
abbrev pub Applies : List Rule → ℕ → Type 0
Applies [] n = ⊥
Applies (r ∷ rest) n = (r.applies × (n ≡ r.number)) ⊎ Applies rest n

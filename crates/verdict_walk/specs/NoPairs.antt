-- The four pairs of an answer that carries none, as document 01 has them.
-- They stand below the answer itself, since the pairs of a meeting are gathered over them.
use Rattle.std.specs.Prelude.{List, [], ◌∷◌, pos}
use Rattle.space.specs.declared.Pair.{Pair}

-- "Fields that a verdict doesn't carry are zero."
abbrev pub no_pair : Pair
no_pair = record { first = 0; cube = 0; second = 0; weight = pos 0 }

abbrev pub no_pairs : List Pair
no_pairs = no_pair ∷ no_pair ∷ no_pair ∷ no_pair ∷ []

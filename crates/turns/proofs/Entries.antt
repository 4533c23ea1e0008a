-- The constant table's entries are the turns of document 01's numbering: one test over all of them, which is computed.
-- The list is the table of src/lib.rt as proofs see it.
use Prim.Native.Nat.{ℕ, ◌<◌}
use mathlib.Core.Path.{◌≡◌}
use mathlib.Core.Bool.{Bool}
use mathlib.Core.List.{List, [], ◌∷◌}
use lib.IntN.{pos, negsuc}
use lib.ListN.{get_or}
use Rattle.limits.specs.Limits
use Rattle.turns.specs.declared.Turn.{Turn}
use Rattle.turns.specs.Turns.{row, turn_of}
use Rattle.turns.specs.Table.{entry}
use Rattle.turns.proofs.Rule.{equal, equal→eq}

abbrev pub table : List Turn
table =
    row (pos 1) (pos 2) (pos 3)
    ∷ row (pos 1) (negsuc 1) (negsuc 2)
    ∷ row (negsuc 0) (pos 2) (negsuc 2)
    ∷ row (negsuc 0) (negsuc 1) (pos 3)
    ∷ row (pos 2) (pos 3) (pos 1)
    ∷ row (pos 2) (negsuc 2) (negsuc 0)
    ∷ row (negsuc 1) (pos 3) (negsuc 0)
    ∷ row (negsuc 1) (negsuc 2) (pos 1)
    ∷ row (pos 3) (pos 1) (pos 2)
    ∷ row (pos 3) (negsuc 0) (negsuc 1)
    ∷ row (negsuc 2) (pos 1) (negsuc 1)
    ∷ row (negsuc 2) (negsuc 0) (pos 2)
    ∷ row (negsuc 0) (negsuc 2) (negsuc 1)
    ∷ row (negsuc 0) (pos 3) (pos 2)
    ∷ row (pos 1) (negsuc 2) (pos 2)
    ∷ row (pos 1) (pos 3) (negsuc 1)
    ∷ row (negsuc 2) (negsuc 1) (negsuc 0)
    ∷ row (negsuc 2) (pos 2) (pos 1)
    ∷ row (pos 3) (negsuc 1) (pos 1)
    ∷ row (pos 3) (pos 2) (negsuc 0)
    ∷ row (negsuc 1) (negsuc 0) (negsuc 2)
    ∷ row (negsuc 1) (pos 1) (pos 3)
    ∷ row (pos 2) (negsuc 0) (pos 3)
    ∷ row (pos 2) (pos 1) (negsuc 2)
    ∷ []

right : ℕ → Turn → Bool
right turn m = equal m (turn_of turn)

pub table_right : (d : Turn) (turn : ℕ) → turn < Limits.turns → get_or table turn d ≡ turn_of turn
unfolding turn_of right
table_right d turn h = equal→eq (get_or table turn d) (turn_of turn) (entry right d table tt turn h)

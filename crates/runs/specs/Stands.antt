-- WHAT THE THEOREM SAYS of a desk and its log, and of one command. Nothing in it looks at code: the functions' contracts are what `Does` says.
-- "its standing list of pairs and verdicts equals the list worked out afresh from the pieces as the accepted commands put them"; W6: "takes the gap last set". The laws: Theorem.antt.
use Rattle.std.specs.Prelude.{◌≡◌, List, ℕ, ◌≤◌, ◌<◌, nat_abs}
use Rattle.limits.specs.Limits
use Rattle.rows.specs.Rows.{row_at}
use Rattle.desk_state.specs.Desk.{Desk, gap_of, InOrder}
use Rattle.desk.specs.declared.Command.{Command}
use Rattle.desk.specs.declared.Command.TheVariants.{Start, Load, Place, Move, Remove, Gap}
use Rattle.runs.specs.Log.{Entry, plan_of}
use Rattle.runs.specs.Afresh.{Afresh}
use Rattle.runs.specs.Count.{reported}
use Rattle.runs.specs.Reached.{Reached, HoldsPlan}

pub record Stands (d : Desk) (log : List Entry) : Type 0 where
  pub order : InOrder d
  pub holds : HoldsPlan d.store (plan_of log)
  pub gap : gap_of d ≡ (plan_of log).gap
  pub rows : Afresh (plan_of log) d.rows

-- the same accepted commands, the same rows, tallies and marks, whatever was refused between them
pub record SameStanding (d e : Desk) : Type 0 where
  pub rows : d.rows ≡ e.rows
  pub book : d.book ≡ e.book
  pub marks : d.marks ≡ e.marks

-- ---- what one command changes
-- "every other row stays": a load and a setting of the gap handle no place, a start all of them
abbrev pub Handles : Command → ℕ → Type 0
Handles Start p = Unit {0}
Handles (Load shape) p = ⊥
Handles (Place place q) p = p ≡ nat_abs place
Handles (Move place turn o) p = p ≡ nat_abs place
Handles (Remove place) p = p ≡ nat_abs place
Handles (Gap gap) p = ⊥

-- the rows that do not name the handled place stay; and by whatever log the desk was reached, the count is that of the pieces as its accepted commands put them
pub record Changes (e : Entry) (before after : Desk) (count : ℕ) : Type 0 where
  pub rows : (low high : ℕ) → low < Limits.places → high < Limits.places → (Handles e.command low → ⊥) → (Handles e.command high → ⊥)
      → row_at after.rows low high ≡ row_at before.rows low high
  pub counted : (log : List Entry) → Reached before log → count ≡ reported e (plan_of log)
  pub most : count ≤ Limits.move_most

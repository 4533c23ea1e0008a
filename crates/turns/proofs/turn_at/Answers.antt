-- The entry is the turn of the numbering rule, by the one test over the table.
use Rattle.turns.proofs.Entries.{table_right}
use Rattle.turns.proofs.turn_at.Goals as goal

pub returns : goal.returns
returns c = table_right _ c.args.turn c.requires

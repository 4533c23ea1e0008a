-- `line_answer::room` meets its contract: it is answered on trial alone.
use mathlib.Core.Path.{sym, ◌∙◌}
use mathlib.Core.Bool.{true≢false}
use Rattle.line_answer.proofs.room.Goals as goal

pub returns-then-trial-clause-stays : goal.returns-then-trial-clause-stays
returns-then-trial-clause-stays c = λ e. absurd (true≢false (sym c.if-trial.true ∙ e))

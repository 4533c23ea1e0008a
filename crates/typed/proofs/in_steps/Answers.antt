-- `typed::in_steps` meets its contract: either branch is the one that the decision takes.
-- The steps are told by arithmetic alone, whichever way code divides.
use mathlib.Core.Logic.{if_pos, if_neg}
use mathlib.Core.Path.{sym, ap}
use Rattle.typed.specs.TypedLength.{Steps}
use native.Mathlib.Decide.{dec_le}
use native.Mathlib.Omega.{arith}
use Rattle.limits.specs.Limits
use Rattle.typed.specs.Reading.{judged}
use Rattle.typed.proofs.in_steps.Goals as goal

pub returns-then-h-gt-MOST_HUNDREDTHS : goal.returns-then-h-gt-MOST_HUNDREDTHS
unfolding judged
returns-then-h-gt-MOST_HUNDREDTHS c = sym (if_neg (dec_le c.args.h Limits.most_hundredths) (omega arith) _ _)

pub returns : goal.returns
unfolding judged
returns c = rw (if_pos (dec_le c.args.h Limits.most_hundredths) (omega arith)) (ap Steps (omega arith))

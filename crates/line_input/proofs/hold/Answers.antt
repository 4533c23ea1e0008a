-- `line_input::hold` meets its contract: a byte more where there is room, and none where there is not.
use Rattle.line_input.proofs.InputLaws.{holds_more, holds_full}
use native.Mathlib.Omega.{arith}
use Rattle.line_input.proofs.hold.Goals as goal

pub returns-then-held-kept : goal.returns-then-held-kept
returns-then-held-kept c = λ part h. holds_full c.args.byte c.if-held-kept.true h

pub returns : goal.returns
returns c = λ part h. holds_more c.args.byte (omega (arith, c.if-held-kept.false)) h

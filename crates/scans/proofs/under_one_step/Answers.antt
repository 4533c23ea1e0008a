-- `under_one_step` meets its contract: a pattern with nothing but its sign is zero steps, and any other of so low an exponent
-- is less than one step (Fields).
use native.Mathlib.Omega.{arith}
use Rattle.scans.proofs.Answers.{as_pattern, not_whole_lem, no_steps}
use Rattle.scans.proofs.Fields.{minus, exponent, digits, nothing, small}
use Rattle.scans.proofs.under_one_step.Goals as goal

pub returns-then-pattern-eq0 : goal.returns-then-pattern-eq0
returns-then-pattern-eq0 c =
    let n = c.args.pattern in
    as_pattern n (no_steps (nothing (minus n) (exponent n) (digits n) (omega (arith, c.if-pattern-eq0.true)) (omega (arith, c.if-pattern-eq0.true))))

pub returns-else-pattern-eq0 : goal.returns-else-pattern-eq0
returns-else-pattern-eq0 c =
    let n = c.args.pattern in
    as_pattern n (not_whole_lem (small (minus n) (exponent n) (digits n) c.requires (omega arith) (λ e t. c.if-pattern-eq0.false (omega arith))))

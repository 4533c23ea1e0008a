-- `scan_pattern` meets its contract. The exponent alone answers what is no value and what is beyond the range (Fields);
-- below, the part for the exponent does.
use mathlib.Core.Logic.{inl}
use mathlib.Core.Path.{refl}
use Rattle.scans.proofs.Answers.{as_pattern, not_finite_lem, whole}
use Rattle.scans.proofs.Fields.{minus, exponent, digits, all_ones, ahead, too_many}
use Rattle.scans.proofs.scan_pattern.Goals as goal

pub returns-then-exponent-eq-NOT_A_VALUE : goal.returns-then-exponent-eq-NOT_A_VALUE
returns-then-exponent-eq-NOT_A_VALUE c =
    let n = c.args.pattern in
    as_pattern n (not_finite_lem (all_ones (minus n) (exponent n) (digits n) c.if-exponent-eq-NOT_A_VALUE.true))

pub returns-then-exponent-ge-WHOLE : goal.returns-then-exponent-ge-WHOLE
returns-then-exponent-ge-WHOLE c =
    let n = c.args.pattern in
    as_pattern n (whole (ahead (minus n) (exponent n) (digits n) c.if-exponent-ge-WHOLE.true c.if-exponent-eq-NOT_A_VALUE.false) (inl (too_many (exponent n) (digits n), refl)))

pub returns : goal.returns
returns c = as_pattern c.args.pattern c.parts_of_steps.ensures

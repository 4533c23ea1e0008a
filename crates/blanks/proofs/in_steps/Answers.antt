-- `in_steps` meets its contract: the point's refusals come first, and the sign of each size is that of its steps (Sizes).
use Rattle.std.proofs.Common.{refl, sym, arith}
use Rattle.std.proofs.lemmas.Result.{err_from_is_err_and}
use Rattle.limits.proofs.RefusalLaws.{number_some}
use Rattle.blanks.proofs.Sizes.{refused, all_above, one_not}
use Rattle.blanks.proofs.in_steps.Goals as goal

pub returns-in_err-steps : goal.returns-in_err-steps
returns-in_err-steps c =
    let p = err_from_is_err_and c.from_residual.result c.from_residual.ensures.1 in
    rw (p.1, p.2) (refused c.in_err-steps.ensures (λ z. absurd (omega (arith, number_some c.in_err-steps.field-0.0))))

pub returns-then-positive : goal.returns-then-positive
returns-then-positive c = all_above c.in_ok-steps.ensures refl (sym c.if-positive.ensures)

pub returns-else-positive : goal.returns-else-positive
returns-else-positive c = one_not c.in_ok-steps.ensures refl (sym c.if-positive.ensures)

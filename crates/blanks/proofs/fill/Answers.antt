-- `fill` meets its contract: the room is measured first, and nothing is written before the sizes are known to be good.
use Rattle.std.proofs.Common.{inr, refl, arith}
use Rattle.std.proofs.lemmas.Result.{err_from_is_err_and}
use Rattle.limits.proofs.RefusalLaws.{number_some}
use Rattle.blanks.proofs.fill.Goals as goal

pub returns-in_err-steps : goal.returns-in_err-steps
returns-in_err-steps c =
    let p = err_from_is_err_and c.from_residual.result c.from_residual.ensures.1 in
    rw (p.1, p.2) (record {
      number = inr ((λ l. omega arith), c.in_err-steps.ensures.number);
      filled = λ e. absurd (omega (arith, number_some c.in_err-steps.field-0.0));
      kept = λ _. (refl, refl);
    })

pub returns : goal.returns
returns c =
    let r = c.in_ok-steps.steps in
    let h = c.in_ok-steps.ensures in
    let v = h.steps refl in
    record {
      number = inr ((λ l. omega arith), h.number);
      filled = λ _. record { width = r.x; depth = r.y; height = r.z; wide = v.0; deep = v.1; high = v.2; room = c.put.ensures; counted = refl };
      kept = λ f. absurd (f refl);
    }

-- `off_number::in_steps` meets its contract: whole millimetres are whole steps, so the part decides whether the number is; and a cut number is beyond.
use Prim.Native.Nat.{◌+◌, ◌*◌, ◌/◌}
use mathlib.Core.Path.{refl}
use mathlib.Core.Logic.{inl, inr}
use native.Mathlib.Omega.{arith}
use Rattle.limits.specs.Limits
use Rattle.off_number.proofs.in_steps.Goals as goal

pub returns-then-steps-gt-REACH : goal.returns-then-steps-gt-REACH
returns-then-steps-gt-REACH c = λ n e.
    let part = c.args.part in
    record {
      number = inr ((λ f. f (n * Limits.steps + part * 64 / 1000000) (omega (arith, c.if-parts-ne0.false))), inl (omega (arith, c.if-steps-gt-REACH.true), refl));
      steps = λ z. absurd (omega arith);
      zeros = λ z. refl;
      most = omega arith;
    }

pub returns : goal.returns
returns c = λ n e.
    let part = c.args.part in
    record {
      number = inr ((λ f. f (n * Limits.steps + part * 64 / 1000000) (omega (arith, c.if-parts-ne0.false))), inr ((λ b. omega (arith, c.if-steps-gt-REACH.false)), refl));
      steps = λ z. omega (arith, c.if-parts-ne0.false);
      zeros = λ f. absurd (f refl);
      most = omega (arith, c.if-steps-gt-REACH.false);
    }

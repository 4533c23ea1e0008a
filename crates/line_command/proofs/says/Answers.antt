-- `line_command::says` meets its contract: a line that is not passed over and not too long is read.
use mathlib.Core.Path.{refl, sym, ◌∙◌}
use mathlib.Core.Bool.{false≢true}
use native.Mathlib.Omega.{arith}
use Rattle.line_command.specs.Lines.{PassedOver}
use Rattle.line_command.proofs.says.Goals as goal

pub returns-then-is_passed_over : goal.returns-then-is_passed_over
returns-then-is_passed_over c =
    let passed = c.is_passed_over.ensures.0 c.if-is_passed_over.true in
    record { passed = λ _. refl; too_long = λ n. absurd (n passed); is_read = λ _. record { passed = λ _. (refl, refl); read = λ n. absurd (n passed) } }

pub returns-then-line-gt-MOST_BYTES : goal.returns-then-line-gt-MOST_BYTES
returns-then-line-gt-MOST_BYTES c =
    let not_passed : PassedOver c.args.line.now → ⊥ = λ p. false≢true (sym c.if-is_passed_over.false ∙ c.is_passed_over.ensures.1 p) in
    record { passed = λ p. absurd (not_passed p); too_long = λ n l. refl; is_read = λ h. absurd (omega (arith, c.if-line-gt-MOST_BYTES.true)) }

pub returns : goal.returns
returns c =
    let not_passed : PassedOver c.args.line.now → ⊥ = λ p. false≢true (sym c.if-is_passed_over.false ∙ c.is_passed_over.ensures.1 p) in
    record {
      passed = λ p. absurd (not_passed p);
      too_long = λ n l. absurd (l c.if-line-gt-MOST_BYTES.false);
      is_read = λ _. record { passed = λ p. absurd (not_passed p); read = λ _. c.read.ensures };
    }

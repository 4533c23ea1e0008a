-- `off_number::after_whole` meets its contract: each return is one case of what may stand there.
use native.Mathlib.Omega.{arith}
use mathlib.Core.Path.{◌∙◌}
use Rattle.text_digits.specs.Decimal.{number}
use Rattle.text_digits.specs.DecimalLaws.{leading, leading_le}
use Rattle.off_number.specs.Reading.{judged}
use Rattle.off_number.proofs.ReadingLaws.{whole_ends, other_follows}
use Rattle.off_number.proofs.after_whole.Goals as goal

pub returns-in-None : goal.returns-in-None
returns-in-None c =
    judged _ (whole_ends c.requires (omega (arith, c.requires.place, leading_le c.args.text.now, c.in-None.ensures.lookup.3))) (c.in_steps.ensures (number (leading c.args.text.now)) c.requires.begun.value)

pub returns-in-Some : goal.returns-in-Some
returns-in-Some c =
    let here = c.in-Some.ensures.lookup.3 in
    other_follows c.requires here.0 (λ e. c.in-Some.field-0-test.1 (here.1 0 ∙ e))

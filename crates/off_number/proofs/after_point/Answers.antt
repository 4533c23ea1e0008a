-- `off_number::after_point` meets its contract: the digits behind the point are all that stands there, some and few, or the text is no number (ReadingLaws).
use native.Mathlib.Omega.{arith}
use Rattle.text_digits.specs.Decimal.{number}
use Rattle.text_digits.specs.DecimalLaws.{leading}
use Rattle.off_number.specs.Reading.{judged}
use Rattle.off_number.proofs.ReadingLaws.{part_refused, part_taken, taken_below}
use Rattle.off_number.proofs.after_point.Goals as goal
use Rattle.off_number.proofs.after_point.Goals.{then-k-text-via-then-k-text, then-k-text-via-else-k-text+then-k-eq0, then-k-text-via-else-k-text+else-k-eq0+then-k-gt-OFF_DIGITS}

pub returns-then-k-text : goal.returns-then-k-text
returns-then-k-text c = part_refused c.requires c.digits-part.ensures.count (λ all some few.
    elim c.then-k-text.branch [
      | then-k-text-via-then-k-text w ↦ omega arith
      | then-k-text-via-else-k-text+then-k-eq0 w ↦ omega arith
      | then-k-text-via-else-k-text+else-k-eq0+then-k-gt-OFF_DIGITS w ↦ omega arith
    ])

pub overflow_mul-part : goal.overflow_mul-part
overflow_mul-part c =
    let part = c.digits-part.ensures in
    let below = taken_below c.requires part.count part.value c.worth.ensures c.if-k-text.false c.if-k-eq0.false c.if-k-gt-OFF_DIGITS.false in
    omega (arith, below)

pub in_steps-requires : goal.in_steps-requires
in_steps-requires c =
    let part = c.digits-part.ensures in
    (omega (arith, c.requires.begun.value), taken_below c.requires part.count part.value c.worth.ensures c.if-k-text.false c.if-k-eq0.false c.if-k-gt-OFF_DIGITS.false)

pub returns : goal.returns
returns c =
    let part = c.digits-part.ensures in
    judged _ (part_taken c.requires part.count part.value c.worth.ensures c.if-k-text.false c.if-k-eq0.false c.if-k-gt-OFF_DIGITS.false)
    (c.in_steps.ensures (number (leading c.args.text.now)) c.requires.begun.value)

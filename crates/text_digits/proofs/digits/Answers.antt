-- `text_digits::digits` meets its contract: what is left of the text from the place on starts with these digits.
use Rattle.std.proofs.Common.{◌≡◌, ℕ, ◌-◌, List, min, length, take, drop, ap, ◌∙◌, arith, length-drop}
use Rattle.std.proofs.Math.Seq.{take_all}
use Rattle.text_digits.specs.Decimal.{number, cut}
use Rattle.text_digits.specs.DecimalLaws.{leading}
use Rattle.text_digits.proofs.digits.Goals as goal

left : (s : List ℕ) (from : ℕ) → take (length s - from) (drop from s) ≡ drop from s
left s from = take_all (length s - from) (drop from s) (omega (arith, length-drop from s))

pub returns : goal.returns
returns c =
    let s = c.args.text.now in
    let e = left s c.args.from in
    record {
      count = c.leading_run.ensures.count ∙ ap (λ (l : List ℕ). length (leading l)) e;
      value = c.leading_run.ensures.value ∙ ap (λ (l : List ℕ). min (number (leading l)) cut) e;
    }

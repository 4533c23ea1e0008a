-- What a number with no sign has beside the shortest one with its steps (`PlainOf`).
-- That it has it, and the other laws of the shortest decimal, are in proofs/ShortestLaws.
use Rattle.std.specs.Prelude.{ℕ, ◌≤◌, ◌-◌, ◌*◌, ◌/◌, ◌%◌, ◌^◌, ◌≡◌, List, length}
use Rattle.limits.specs.Limits
use Rattle.text_digits.specs.Decimal.{number}
use Rattle.text_put.specs.Print.{digits_of}
use Rattle.off_number.specs.Reading.{Plain}
use Rattle.off_number.specs.Shortest.{step_millionths, part_of, pointed}

-- a number with no sign, beside the shortest with its steps: its whole digits and its part have the same values, and are no shorter
pub record PlainOf {text : List ℕ} {m : ℕ} (s : ℕ) (p : Plain text m) : Type 0 where
  pub whole_is : number p.whole ≡ s / Limits.steps
  pub part_is : number p.part * 10 ^ (Limits.off_digits - length p.part) ≡ s % Limits.steps * step_millionths
  pub whole_fewest : length (digits_of (s / Limits.steps)) ≤ length p.whole
  pub rest_fewest : length (pointed (part_of (s % Limits.steps))) ≤ length p.decimal.rest

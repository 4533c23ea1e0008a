-- `line_spoil::of_numbers` meets its contract: the first number is a cell's where it is not negative, and the second goes there.
-- A number that is handed on is read back from its bits.
use Rattle.std.specs.Prelude.{◌≡◌, refl, ℤ, pos}
use Rattle.std.proofs.Common.{◌∙◌, subst, inl, inr}
use mir.Syntax.{w32}
use Rattle.ints.specs.Bounds.{element}
use Rattle.line.specs.Behind.{NotNegative, Finds}
use Rattle.std.specs.Prelude.{None}
use Rattle.line_spoil.specs.Cells.{parts, NoCell}
use Rattle.line_spoil.proofs.of_numbers.Goals as goal

pub returns-in_default : goal.returns-in_default
returns-in_default c =
    let first = element w32 _ c.number_at.type_inv ∙ c.number_at.ensures in
    inr (subst (λ (z : ℤ). NotNegative z None) first c.in_default.ensures, refl)

pub returns : goal.returns
returns c =
    let word = c.args.word.now in
    let first = element w32 _ c.number_at.type_inv ∙ c.number_at.ensures in
    let v = element w32 _ c.number_at-2.type_inv ∙ c.number_at-2.ensures in
    inl (c.in-Some.i, subst (λ (z : ℤ). z ≡ pos c.in-Some.i) first c.in-Some.ensures, subst (λ (z : ℤ). Finds word (parts c.in-Some.i z) NoCell c.of_part.result) v c.of_part.ensures)

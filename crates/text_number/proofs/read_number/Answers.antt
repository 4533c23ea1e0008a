-- `text_number::read_number` meets its contract: the digits after the minus, or all of them, and then the sign.
use Rattle.std.proofs.Common.{◌∷◌, [], Some, None, neg_ℤ, arith, ap}
use Rattle.std.proofs.lemmas.Bool.Decides.{Decides-eqb}
use Rattle.std.proofs.lemmas.Int.{ints}
use Rattle.std.proofs.lemmas.Slice.Eq.{strip_prefix_is}
use Rattle.text_number.specs.Numbers.{plain, minus}
use Rattle.text_number.specs.Magnitude.{Magnitude}
use Rattle.text_number.specs.NumberLaws.{figures_below, fitted, no_minus, no_plain}
use Rattle.text_number.proofs.read_number.Goals as goal

pub returns-in_ok-magnitude-in-Some : goal.returns-in_ok-magnitude-in-Some
returns-in_ok-magnitude-in-Some c =
    let p = strip_prefix_is Decides-eqb c.args.word.now (45 ∷ []) (Some c.in-Some.digits) c.in-Some.ensures.cases in
    let m : Magnitude c.in-Some.digits.now (Some c.in_ok-magnitude-in-Some.field-0) = c.in_ok-magnitude-in-Some.ensures in
    fitted c.fitting.result (minus c.in-Some.digits.now p m.0 (ap neg_ℤ m.1)) (omega (arith, ints, m.1, figures_below m.0)) c.fitting.ensures

pub returns-in_err-magnitude-in-Some : goal.returns-in_err-magnitude-in-Some
returns-in_err-magnitude-in-Some c =
    let p = strip_prefix_is Decides-eqb c.args.word.now (45 ∷ []) (Some c.in-Some.digits) c.in-Some.ensures.cases in
    rw c.from_residual.ensures (no_minus p c.in_err-magnitude-in-Some.ensures)

pub returns-in_ok-magnitude-in-None : goal.returns-in_ok-magnitude-in-None
returns-in_ok-magnitude-in-None c =
    let m : Magnitude c.args.word.now (Some c.in_ok-magnitude-in-None.field-0) = c.in_ok-magnitude-in-None.ensures in
    fitted c.fitting-in-None.result (plain m.0 m.1) (omega (arith, ints, m.1, figures_below m.0)) c.fitting-in-None.ensures

pub returns-in_err-magnitude-in-None : goal.returns-in_err-magnitude-in-None
returns-in_err-magnitude-in-None c =
    let p = strip_prefix_is Decides-eqb c.args.word.now (45 ∷ []) None c.in-None.ensures.cases in
    rw c.from_residual-in_err-magnitude-in-None.ensures (no_plain p c.in_err-magnitude-in-None.ensures)

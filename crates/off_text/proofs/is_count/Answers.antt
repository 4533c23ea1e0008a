-- `is_count` meets its contract: some bytes, all of them digits (RunLaws).
use borrow.Author.Tests.{eqb-false}
use mathlib.Core.Path.{sym}
use native.Mathlib.Omega.{arith}
use Rattle.limits.specs.Decides.{Decides}
use Rattle.limits.specs.DecidesLaws.{decides_is}
use Rattle.text_digits.specs.Decimal.{Digits}
use Rattle.off_text.specs.Off.{IsCount}
use Rattle.off_text.proofs.RunLaws.{digits_told}
use Rattle.off_text.proofs.is_count.Goals as goal

pub returns-then-not-is_empty : goal.returns-then-not-is_empty
returns-then-not-is_empty c =
    let d : Decides c.are_digits.result (Digits c.args.word.now) = decides_is c.are_digits.ensures (digits_told c.args.word.now) in
    record { yes = λ e. record { digits = d.yes e; some = omega (arith, eqb-false _ 0 (sym c.if-not-is_empty.ensures)) }; no = λ e (h : IsCount _). d.no e h.digits }

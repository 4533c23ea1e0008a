-- `line_feed::answer_held` meets its contract: the bytes that are kept are answered, and so the line that they are of.
use Prim.Native.Nat.{ℕ, ◌-◌}
use mathlib.Core.Path.{◌≡◌, refl, ap, ◌∙◌}
use native.Mathlib.Omega.{arith}
use lib.ListN.{take}
use Rattle.line_input.specs.Input.{bare}
use Rattle.line_feed.specs.HeldLaws.{answered_kept}
use Rattle.line_feed.proofs.answer_held.Goals as goal

pub returns-clause-serves : goal.returns-clause-serves
returns-clause-serves o c =
    let a = c.args in
    let m = c.at_most-n in
    let line = c.bare-line.ensures in
    λ part h.
    let e : m.result - 0 ≡ a.kept = omega (arith, m.ensures.is, h.within) in
    record {
      room = a.numbers.now;
      size = refl;
      answered = answered_kept h (line ∙ ap (λ (k : ℕ). bare (take k a.held.now)) e) c.answer.ensures.answered;
    }

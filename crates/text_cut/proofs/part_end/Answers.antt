-- `text_cut::part_end` meets its contract: the first part of what is left ends at the place of the first byte at which it is cut.
use Rattle.std.specs.Prelude.{◌≡◌, ◌-◌, drop, length}
use Rattle.std.proofs.Math.Seq.{take_all}
use Rattle.std.specs.Option.{unwrap_or}
use Rattle.std.proofs.Common.{ap, ◌∙◌, arith, length-drop}
use Rattle.text_cut.specs.Cuts.{first_part}
use Rattle.text_cut.proofs.CutLaws.{first_found, first_le}
use Rattle.text_cut.proofs.part_end.Goals as goal

pub returns-in_default-clause-place : goal.returns-in_default-clause-place
returns-in_default-clause-place c =
    let a = c.args in
    omega (arith, c.in_default.ensures.lookup.0, first_le a.cut (drop a.start a.text.now), length-drop a.start a.text.now)

pub returns : goal.returns
returns c =
    let a = c.args in
    let left = c.in-Some.left.now in
    let h = c.in-Some.ensures.lookup.0 in
    let k : c.unwrap_or.result ≡ length (first_part a.cut left) =
    c.unwrap_or.ensures ∙ ap (λ o. unwrap_or o (length left)) c.first_place.ensures ∙ first_found a.cut left in
    let e : left ≡ drop a.start a.text.now = h.2 ∙ take_all (length a.text.now - a.start) (drop a.start a.text.now) (omega (arith, length-drop a.start a.text.now)) in
    record { place = omega (arith, h, k, ap (λ s. length (first_part a.cut s)) e); within = omega (arith, h, k, first_le a.cut left) }

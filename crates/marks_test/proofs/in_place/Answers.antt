-- The keys say how many marks there must be; that many climbing ones and nothing after them are exactly a part in place.
use Rattle.std.proofs.Common.{ℕ, ◌-◌, ap, sym, ◌∙◌, subst, arith, length, take, drop, length-drop, take_all}
use Rattle.marks.specs.Keys.{key_of}
use Rattle.marks_test.specs.Tested.{climbs, blank, Tested}
use Rattle.marks_test.specs.Test.{not_long, not_climbing, then_blank}
use Rattle.marks_test.proofs.in_place.Goals as goal

pub returns-then-part-ne-AXIS_MARKS : goal.returns-then-part-ne-AXIS_MARKS
returns-then-part-ne-AXIS_MARKS c = not_long _ _ c.if-part-ne-AXIS_MARKS.true

pub returns-else-climbing : goal.returns-else-climbing
returns-else-climbing c =
    let s = c.args in
    let f = c.if-climbing.false in
    subst (Tested s.keys.now s.part.now) (sym f)
    (not_climbing s.keys.now s.part.now c.if-part-ne-AXIS_MARKS.false
    (sym (ap (λ (z : ℕ). climbs (key_of s.keys.now) 0 (take z s.part.now)) c.marks_in-n.ensures.0) ∙ sym c.climbing.ensures ∙ f))

pub returns-then-climbing : goal.returns-then-climbing
returns-then-climbing c =
    let s = c.args in
    let n = c.marks_in-n in
    let long = c.if-part-ne-AXIS_MARKS.false in
    let climb = sym (ap (λ (z : ℕ). climbs (key_of s.keys.now) 0 (take z s.part.now)) n.ensures.0) ∙ sym c.climbing.ensures ∙ c.if-climbing.true in
    let rest =
    c.is_blank.ensures ∙ ap blank (take_all (length s.part.now - n.result) (drop n.result s.part.now) (omega (arith, length-drop n.result s.part.now)))
    ∙ ap (λ (z : ℕ). blank (drop z s.part.now)) n.ensures.0 in
    then_blank s.keys.now s.part.now long climb rest

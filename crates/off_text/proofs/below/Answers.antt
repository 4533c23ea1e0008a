-- `below` meets its contract: a number that has reached the bound only grows (RunLaws).
use Prim.Native.Nat.{ℕ, ◌+◌, ◌-◌, ◌*◌, ◌<◌}
use lib.ListN.{length, get_or, drop, drop_of_length-le}
use lib.Seq.{drop-cons}
use mathlib.Core.List.{List, ◌∷◌}
use mathlib.Core.Path.{◌≡◌, refl, sym, ap, ◌∙◌, subst}
use native.Mathlib.Numerals.{add-one}
use native.Mathlib.Omega.{arith}
use Rattle.text_digits.specs.Decimal.{Digits, number}
use Rattle.text_digits.specs.DecimalLaws.{number_after, number_read}
use Rattle.off_text.specs.Off.{IsCount, Names}
use Rattle.off_text.proofs.RunLaws.{number_grows}
use Rattle.off_text.proofs.below.Goals as goal

next : (s : List ℕ) (i : ℕ) → i < length s → drop i s ≡ get_or s i 0 ∷ drop (i + 1) s
next s i h = rw add-one (drop-cons s i 0 h)

pub loop-b-init : goal.loop-b-init
loop-b-init c =
    let count : IsCount c.args.word.now = c.if-not-is_count.ensures.yes refl in
    (count.digits, sym (number_read c.args.word.now), λ l. absurd (omega arith))

pub one_more-requires : goal.one_more-requires
one_more-requires c = (subst Digits (next c.args.word.now c.loop-b.b-index c.loop-b-test.true) c.loop-b.invariant.0).0

pub returns-in_err-value : goal.returns-in_err-value
unfolding number_after
returns-in_err-value c =
    let s = c.args.word.now in
    let i = c.loop-b.b-index in
    let v = c.loop-b.value in
    let e = ap (number_after v) (next s i c.loop-b-test.true) in
    rw c.from_residual.ensures (λ (n : Names _ _). omega (arith, n.below, c.loop-b.invariant.1, e, c.in_err-value.ensures, number_grows (v * 10 + (get_or s i 0 - 48)) (drop (i + 1) s)))

pub loop-b-preserved : goal.loop-b-preserved
unfolding number_after
loop-b-preserved c =
    let e = next c.args.word.now c.loop-b.b-index c.loop-b-test.true in
    let more = c.in_ok-value.ensures in
    ((subst Digits e c.loop-b.invariant.0).1, c.loop-b.invariant.1 ∙ ap (number_after c.loop-b.value) e ∙ ap (λ (n : ℕ). number_after n (drop (c.loop-b.b-index + 1) c.args.word.now)) (sym more.0), λ l. more.1)

pub returns : goal.returns
unfolding number_after
returns c =
    let count : IsCount c.args.word.now = c.if-not-is_count.ensures.yes refl in
    let e : c.loop-b.value ≡ number c.args.word.now = sym (c.loop-b.invariant.1 ∙ ap (number_after c.loop-b.value) (drop_of_length-le c.args.word.now c.loop-b-test.false)) in
    (record { count = count; below = omega (arith, e, count.some, c.loop-b-test.false, c.loop-b.invariant.2) }, e)

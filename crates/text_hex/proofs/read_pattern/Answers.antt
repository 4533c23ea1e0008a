-- `text_hex::read_pattern` meets its contract: eight digits name a number that fits, and one digit more goes behind what was read.
use Rattle.std.proofs.Common.{ℕ, ◌≡◌, ◌<◌, ◌≤◌, ◌*◌, ◌+◌, ◌^◌, drop, get_or, sym, ap, ◌∙◌, subst, add-one, pow-suc, arith, drop_of_length-le}
use Rattle.text_hex.specs.Hex.{worth_of, HexDigits}
use Rattle.text_hex.specs.HexLaws.{hex_after, hex_read}
use Rattle.text_hex.proofs.Places.{at_place}
use Rattle.text_hex.proofs.read_pattern.Goals as goal

more_below : (v i d : ℕ) → v < 16 ^ i → d ≤ 15 → v * 16 + d < 16 ^ (i + 1)
more_below v i d h k = rw add-one (omega (arith, pow-suc 16 i))

pub loop-digit-init : goal.loop-digit-init
loop-digit-init c = (omega arith, λ d. d, λ d. d, sym (hex_read c.args.word.now))

pub loop-digit-preserved : goal.loop-digit-preserved
unfolding hex_after
loop-digit-preserved c =
    let s = c.args.word.now in
    let i = c.loop-digit.digit-index in
    let w : (worth_of (get_or s i 0) < 16) × (c.in_ok-value.field-0 ≡ worth_of (get_or s i 0)) = c.in_ok-value.ensures in
    let e = at_place s i c.loop-digit-test.true in (
      more_below c.loop-digit.value i c.in_ok-value.field-0 c.loop-digit.invariant.0 (omega (arith, w)),
      λ d. (subst HexDigits e (c.loop-digit.invariant.1 d)).1,
      λ d. c.loop-digit.invariant.2 (subst HexDigits (sym e) (w.0, d)),
      c.loop-digit.invariant.3 ∙ ap (hex_after c.loop-digit.value) e ∙ ap (λ (d : ℕ). hex_after (c.loop-digit.value * 16 + d) (drop (i + 1) s)) (sym w.1),
    )

pub returns : goal.returns
unfolding hex_after
returns c =
    let s = c.args.word.now in
    let e = drop_of_length-le s {i = c.loop-digit.digit-index} c.loop-digit-test.false in
    (c.if-word-ne-PATTERN_DIGITS.false, c.loop-digit.invariant.2 (subst HexDigits (sym e) tt), sym (c.loop-digit.invariant.3 ∙ ap (hex_after c.loop-digit.value) e))

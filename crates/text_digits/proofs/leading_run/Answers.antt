-- `text_digits::leading_run` meets its contract: a digit more is counted, and the digits end at the first byte that is none.
use Rattle.std.proofs.Common.{◌≡◌, ℕ, suc, ◌<◌, ◌≤◌, ◌+◌, ◌-◌, ◌*◌, ◌∷◌, [], List, min, length, drop, get_or, sym, ap, ◌∙◌, add-one, arith, drop-cons, drop_of_length-le}
use Rattle.std.proofs.lemmas.Bool.{false≢true}
use Rattle.text_digits.specs.Decimal.{Digit, number, cut}
use Rattle.text_digits.specs.DecimalLaws.{leading, leading_more, leading_stop, number_after, number_read, number_cut}
use Rattle.text_digits.proofs.leading_run.Goals as goal

more : (s : List ℕ) (i : ℕ) → i < length s → Digit (get_or s i 0) → leading (drop i s) ≡ get_or s i 0 ∷ leading (drop (i + 1) s)
more s i h d = rw (drop-cons s i 0 h, add-one) (leading_more (get_or s i 0) (drop (suc i) s) d)

stop : (s : List ℕ) (i : ℕ) → i < length s → (Digit (get_or s i 0) → ⊥) → leading (drop i s) ≡ []
stop s i h n = rw (drop-cons s i 0 h) (leading_stop (get_or s i 0) (drop (suc i) s) n)

-- what is read is all there is where no digit is left
ended : (s : List ℕ) (value i : ℕ) → value ≤ cut → min (number (leading s)) cut ≡ min (number_after value (leading (drop i s))) cut → leading (drop i s) ≡ []
    → value ≡ min (number (leading s)) cut
unfolding number_after
ended s value i v h e = omega (arith, h, ap (number_after value) e)

none : (s : List ℕ) (i : ℕ) → length s ≤ i → leading (drop i s) ≡ []
unfolding leading
none s i h = rw (drop_of_length-le s h)

pub loop-count-init : goal.loop-count-init
loop-count-init c = (omega arith, omega arith, rw (number_read (leading c.args.text.now)))

pub returns-then-not-is_digit : goal.returns-then-not-is_digit
returns-then-not-is_digit c =
    let s = c.args.text.now in
    let i = c.loop-count.count in
    let e = stop s i c.loop-count-test.true (λ d. false≢true (sym c.if-not-is_digit.true ∙ c.is_digit.ensures.1 d)) in
    record { count = omega (arith, c.loop-count.invariant.1, ap length e); value = ended s c.loop-count.value i c.loop-count.invariant.0 c.loop-count.invariant.2 e }

pub loop-count-preserved : goal.loop-count-preserved
unfolding number_after
loop-count-preserved c =
    let s = c.args.text.now in
    let i = c.loop-count.count in
    let v = c.loop-count.value in
    let b = get_or s i 0 in
    let m = more s i c.loop-count-test.true (c.is_digit.ensures.0 c.if-not-is_digit.false) in (
      omega (arith, c.one_more-value.ensures),
      omega (arith, c.loop-count.invariant.1, ap length m),
      c.loop-count.invariant.2 ∙ rw m (sym (number_cut (v * 10 + (b - 48)) cut (leading (drop (i + 1) s))) ∙ rw (← c.one_more-value.ensures)),
    )

pub returns : goal.returns
returns c =
    let s = c.args.text.now in
    let i = c.loop-count.count in
    let e = none s i c.loop-count-test.false in
    record { count = omega (arith, c.loop-count.invariant.1, ap length e); value = ended s c.loop-count.value i c.loop-count.invariant.0 c.loop-count.invariant.2 e }

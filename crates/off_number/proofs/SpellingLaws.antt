-- A number spelled piece by piece: the sign, the whole millimetres, and the part with its point, make its shortest decimal.
-- And the digits of a million and the part, with a point in place of the million's one, start with the part.
use Rattle.std.specs.Prelude.{ℕ, zero, suc, ◌≤◌, ◌<◌, ◌+◌, ◌-◌, ◌*◌, ◌/◌, ◌%◌, ◌≡◌, refl, List, [], ◌∷◌, ◌++◌, ℤ, pos, negsuc, nat_abs, length, take, set}
use Rattle.std.proofs.Common.{sym, ap, ◌∙◌, subst, ⊎_elim, arith, length-append, take-take}
use Rattle.std.proofs.Math.Nat.{pow-le-pow_right}
use Rattle.io.specs.Digits.{last_digits, IsDigitCount}
use Rattle.ints.specs.Order.{lt-or-ge}
use Rattle.limits.specs.Limits
use Rattle.text_put.specs.Print.{Put, PutNumber, signed, digits_of}
use Rattle.text_put.specs.PrintLaws.{put_extends, extends_then, put_digits, digits_length}
use Rattle.off_number.specs.OffNumber.{millionth}
use Rattle.off_number.specs.Shortest.{step_millionths, part_of, pointed, plain_of, decimal_of}
use Rattle.off_number.specs.PartLaws.{decimals_of}
use Rattle.off_number.proofs.PartLaws.{part_is_lem, part_some}
use Rattle.off_number.proofs.ShortestLaws.{decimal_most}
use Rattle.off_number.specs.Spelling.{Spelled}

joined : (z : ℤ) (whole part : List ℕ) → (signed z [] ++ whole) ++ part ≡ signed z (whole ++ part)
joined (pos n) whole part = refl
joined (negsuc n) whole part = refl

pub spelled : (z : ℤ) (n : ℕ) → n ≡ nat_abs z → nat_abs z ≤ Limits.shape_reach → (blank one two : List ℕ) (sign whole : ℕ) {exit : List ℕ} {r : ℕ} → 12 ≤ length blank → Put blank 0 (signed z []) one sign
    → PutNumber one sign (pos (n / Limits.steps)) two whole → Put two whole (pointed (part_of (n % Limits.steps))) exit r → Spelled (decimal_of z) exit r
spelled z n e h blank one two sign whole {exit} {r} size a b c =
    let q = n / Limits.steps in
    let s = signed z [] in
    let part = pointed (part_of (n % Limits.steps)) in
    let is : (s ++ digits_of q) ++ part ≡ decimal_of z =
    joined z (digits_of q) part ∙ ap (λ (m : ℕ). signed z (plain_of m)) e in
    let most : length ((s ++ digits_of q) ++ part) ≤ 12 = subst (λ (l : List ℕ). length l ≤ 12) (sym is) (decimal_most z h) in
    let m = length-append (s ++ digits_of q) part in
    let k = length-append s (digits_of q) in
    let x = put_extends blank 0 s (omega arith) a in
    let y = put_extends one sign (digits_of q) (omega (arith, x.place, x.size)) (put_digits b) in
    let v = put_extends two whole part (omega (arith, x.place, x.size, y.place, y.size)) c in
    let g = extends_then (extends_then x y) v in
    record { is = g.start ∙ is; bytes = omega (arith, g.place, ap length is); fits = omega (arith, g.place, g.size) }

-- ---- the part, found in seven digits
seven : (n k : ℕ) → millionth ≤ n → n < 10 * millionth → IsDigitCount 10 1 n k → k ≡ 7
seven n k l h f = ⊎_elim
    (λ (a : k < 7). absurd (omega (arith, f.1, pow-le-pow_right {n = 10} (omega arith) {i = k} {j = 6} (omega arith))))
    (λ (a : 7 ≤ k). ⊎_elim
    (λ (b : 7 < k). absurd (omega (arith, f.2 (omega arith), pow-le-pow_right {n = 10} (omega arith) {i = 7} {j = k - 1} (omega arith))))
    (λ (b : k ≤ 7). omega arith)
    (lt-or-ge 7 k)) (lt-or-ge k 7)

first_set : (out ds : List ℕ) (m : ℕ) → take 7 out ≡ ds → 1 ≤ length ds → m ≤ 7 → take m (set out 0 46) ≡ take m (set ds 0 46)
first_set [] ds m e some h = absurd (omega (arith, ap length e))
first_set (b ∷ out) ds zero e some h = refl
first_set (b ∷ out) ds (suc m) e some h =
    ap (λ (l : List ℕ). 46 ∷ l) (sym (take-take m 6 out (omega arith))) ∙ ap (λ (l : List ℕ). take (suc m) (set l 0 46)) e

pub decimals_few : (r : ℕ) → decimals_of r ≤ Limits.off_digits
decimals_few r = omega arith

pub seven_digits : (r k : ℕ) → r < Limits.steps → IsDigitCount 10 1 (millionth + r * step_millionths) k → k ≡ 7
seven_digits r k h f = seven (millionth + r * step_millionths) k (omega arith) (omega arith) f

pub part_found : (r : ℕ) → r < Limits.steps → 1 ≤ r → (out : List ℕ) (k : ℕ) → IsDigitCount 10 1 (millionth + r * step_millionths) k → take k out ≡ last_digits 10 k (millionth + r * step_millionths)
    → take (1 + decimals_of r) (set out 0 46) ≡ pointed (part_of r)
part_found r h some out k f e =
    let n = millionth + r * step_millionths in
    let s = seven_digits r k h f in
    let d : take 7 out ≡ last_digits 10 7 n = subst (λ (i : ℕ). take i out ≡ last_digits 10 i n) s e in
    first_set out (last_digits 10 7 n) (1 + decimals_of r) d (omega (arith, digits_length 10 7 n)) (omega (arith, decimals_few r)) ∙ (part_is_lem r h).found some ∙ sym (part_some r h some)

-- `text_put::put_number` meets its contract: the digits are those of the number without its sign.
use Prim.Native.Nat.{ℕ}
use mathlib.Core.List.{List, ◌∷◌}
use mathlib.Core.Path.{◌≡◌, sym, subst}
use lib.IntN.{ℤ, nat_abs}
use lib.ListN.{take}
use mir.Facts.{to_z-of_z}
use Rattle.io.specs.Digits.{last_digits, IsDigitCount}
use Rattle.text_put.specs.Print.{Put, Written, signed, PutNumber}
use Rattle.text_put.specs.PrintLaws.{signed_below, signed_from_zero}
use Rattle.text_put.proofs.put_number.Goals as goal

-- the digits of the number without its sign, and the text that they make with it; the number as the code has it is the one that was handed in
printed : {room : List ℕ} {at : ℕ} {n z : ℤ} {exit : List ℕ} {r : ℕ} (m k : ℕ) (text whole : List ℕ) → z ≡ n → m ≡ nat_abs z → IsDigitCount 10 1 m k → text ≡ last_digits 10 k m → signed z text ≡ whole
    → Put room at whole exit r → PutNumber room at n exit r
printed {room} {at} {n} {z} {exit} {r} m k text whole same e f d s p =
    subst (λ (y : ℤ). PutNumber room at y exit r) same
    (text, subst (λ (x : ℕ). Written 10 1 x text) e (record { count = k; fewest = f; is = d }), subst (λ (x : List ℕ). Put room at x exit r) (sym s) p)

pub returns-then-n-lt0 : goal.returns-then-n-lt0
returns-then-n-lt0 c =
    let text = take c.decimal-k.result c.decimal-k.new.out in
    let d = c.decimal-k.ensures in
    printed c.magnitude.result c.decimal-k.result text (45 ∷ text) (to_z-of_z c.ranges.n) c.magnitude.ensures d.len d.digits (signed_below _ text c.if-n-lt0.true) c.put_minus.ensures

pub returns-else-n-lt0 : goal.returns-else-n-lt0
returns-else-n-lt0 c =
    let text = take c.decimal-k.result c.decimal-k.new.out in
    let d = c.decimal-k.ensures in
    printed c.magnitude.result c.decimal-k.result text text (to_z-of_z c.ranges.n) c.magnitude.ensures d.len d.digits (signed_from_zero _ text c.if-n-lt0.false) c.put.ensures

-- Laws of what is printed: there is one result (`put_once`, `written_once`), a number's digits name it again (`written_number`), and a byte
-- put in front of a text makes one text.
use Rattle.std.specs.Prelude.{ℕ, zero, suc, ◌≤◌, ◌<◌, ◌+◌, ◌-◌, ◌*◌, ◌/◌, ◌%◌, ◌^◌, ◌≡◌, refl, List, [], ◌∷◌, ◌++◌, Bool, true, false, not, cond, T, ltb, ℤ, pos, negsuc, length, take, drop, set}
use Rattle.std.proofs.Common.{sym, ap, ap₂, ◌∙◌, subst, append-nil, append_assoc, ⊎_elim, pow-suc, mul_assoc, add-one, arith, lt-ltb, ltb-true, ltb→lt, nltb→le, length-append, length-set, length-drop, length-take, take-append-drop, take-suc-set, drop-set-lt, take_at, length-take-le}
use Rattle.std.proofs.lemmas.Bool.{false≢true}
use Rattle.std.proofs.Math.Decide.{dec_le, dec_lt}
use Rattle.std.proofs.Math.Nat.{pow-le-pow_right}
use Rattle.std.specs.Int.Signed.{lt_z}
use Rattle.std.proofs.Math.Seq.{append_snoc}
use Rattle.ints.specs.Order.{lt-or-ge}
use Rattle.io.specs.Digits.{hex_digit_ascii, last_digits, IsDigitCount}
use Rattle.text_digits.specs.Decimal.{Digit, Digits, number}
use Rattle.text_digits.specs.DecimalLaws.{number_below}
use Rattle.text_put.specs.Print.{Put, PutNumber, Extends, Written, signed, width_in, digits_of}

-- ---- one result
pub put_once : {room : List ℕ} {at : ℕ} {text x y : List ℕ} {q r : ℕ} → Put room at text x q → Put room at text y r → (x ≡ y) × (q ≡ r)
put_once {room} {at} {text} {x} {y} {q} {r} a b = go (dec_le (at + length text) (length room))
  where
    go : Dec (at + length text ≤ length room) → (x ≡ y) × (q ≡ r)
    go (yes h) = ((a.there h).0 ∙ sym (b.there h).0, (a.there h).1 ∙ sym (b.there h).1)
    go (no n) = let h : length room < at + length text = omega arith in ((a.refused h).0 ∙ sym (b.refused h).0, (a.refused h).1 ∙ sym (b.refused h).1)

not_fewer : {base least n j k : ℕ} → 0 < base → IsDigitCount base least n j → IsDigitCount base least n k → j < k → ⊥
not_fewer {base} {least} {n} {j} {k} p a b h = omega (arith, a.0, a.1, b.2 (omega (arith, a.0)), pow-le-pow_right {n = base} p {i = j} {j = k - 1} (omega arith))

fewest_once : {base least n j k : ℕ} → 0 < base → IsDigitCount base least n j → IsDigitCount base least n k → j ≡ k
fewest_once {base} {least} {n} {j} {k} p a b = go (dec_lt j k) (dec_lt k j)
  where
    go : Dec (j < k) → Dec (k < j) → j ≡ k
    go (yes h) d = absurd (not_fewer p a b h)
    go (no h) (yes l) = absurd (not_fewer p b a l)
    go (no h) (no l) = omega arith

pub written_once : {base least n : ℕ} {s t : List ℕ} → 0 < base → Written base least n s → Written base least n t → s ≡ t
written_once {base} {n = n} p a b = a.is ∙ ap (λ (k : ℕ). last_digits base k n) (fewest_once p a.fewest b.fewest) ∙ sym b.is

-- ---- the digits of a number name it
number_snoc : (ds : List ℕ) (d : ℕ) → number (ds ++ (d ∷ [])) ≡ number ds * 10 + (d - 48)
unfolding number
number_snoc [] d = omega arith
number_snoc (x ∷ ds) d =
    let p = 10 ^ length ds in
    let e : 10 ^ length (ds ++ (d ∷ [])) ≡ p * 10 = ap (λ (n : ℕ). 10 ^ n) (length-append ds (d ∷ []) ∙ add-one (length ds)) ∙ pow-suc 10 (length ds) in
    omega (arith, ap (λ (n : ℕ). (x - 48) * n) e, mul_assoc (x - 48) p 10, number_snoc ds d)

digits_snoc : (ds : List ℕ) (d : ℕ) → Digits ds → Digit d → Digits (ds ++ (d ∷ []))
digits_snoc [] d h k = (k, tt)
digits_snoc (x ∷ ds) d h k = (h.0, digits_snoc ds d h.1 k)

glyph_is : (d : ℕ) → d < 10 → hex_digit_ascii d ≡ 48 + d
glyph_is d h = simp (lt-ltb d 10 h)

digits_name : (k n : ℕ) → n < 10 ^ k → Digits (last_digits 10 k n) × (number (last_digits 10 k n) ≡ n)
unfolding number
digits_name zero n h = (tt, omega arith)
digits_name (suc k) n h =
    let l : n / 10 < 10 ^ k = omega (arith, pow-suc 10 k) in
    let r = digits_name k (n / 10) l in
    let g = glyph_is (n % 10) (omega arith) in (
      digits_snoc (last_digits 10 k (n / 10)) (hex_digit_ascii (n % 10)) r.0 (record { low = omega (arith, g); high = omega (arith, g) }),
      number_snoc (last_digits 10 k (n / 10)) (hex_digit_ascii (n % 10)) ∙ omega
          (arith, r.1, g),
    )

pub written_number : {n : ℕ} {text : List ℕ} → Written 10 1 n text → Digits text × (number text ≡ n)
written_number {n} {text} w =
    let d = digits_name w.count n w.fewest.1 in
    (subst Digits (sym w.is) d.0, ap number w.is ∙ d.1)

-- ---- the digits of a number, worked out
width_fewest : (times n : ℕ) → n ≤ times → IsDigitCount 10 1 n (width_in times n)
width_fewest zero n h = (omega arith, omega arith, λ l. absurd (omega arith))
width_fewest (suc times) n h = go (ltb n 10) (ltb→lt n 10) (nltb→le n 10) (λ l. width_fewest times (n / 10) (omega arith))
  where
    longer : (w : ℕ) → 10 ≤ n → IsDigitCount 10 1 (n / 10) w → IsDigitCount 10 1 n (suc w)
    longer zero h f = absurd (omega (arith, f.0))
    longer (suc zero) h f = (omega arith, omega (arith, f.1), λ l. omega arith)
    longer (suc (suc w)) h f =
        let a : suc (suc (suc w)) - 1 ≡ suc (suc w) = omega arith in
        let b : suc (suc w) - 1 ≡ suc w = omega arith in (
          omega arith,
          omega (arith, f.1, pow-suc 10 (suc (suc w))),
          λ l. omega (arith, f.2 (omega arith), pow-suc 10 (suc w), ap (λ (k : ℕ). 10 ^ k) a, ap (λ (k : ℕ). 10 ^ k) b),
        )

    go : (b : Bool) → (T b → n < 10) → (T (not b) → 10 ≤ n) → (10 ≤ n → IsDigitCount 10 1 (n / 10) (width_in times (n / 10))) → IsDigitCount 10 1 n (cond b 1 (suc (width_in times (n / 10))))
    go true f g less = (omega arith, omega (arith, f tt), λ l. absurd (omega arith))
    go false f g less = longer (width_in times (n / 10)) (g tt) (less (g tt))

pub digits_written : (n : ℕ) → Written 10 1 n (digits_of n)
unfolding digits_of
digits_written n = record { count = width_in n n; fewest = width_fewest n n (omega arith); is = refl }

pub digits_length : (base k n : ℕ) → length (last_digits base k n) ≡ k
digits_length base zero n = refl
digits_length base (suc k) n = length-append (last_digits base k (n / base)) (hex_digit_ascii (n % base) ∷ []) ∙ ap (λ (m : ℕ). m + 1) (digits_length base k (n / base)) ∙ add-one k

pub digits_some : (n : ℕ) → 1 ≤ length (digits_of n)
digits_some n = let w = digits_written n in omega (arith, w.fewest.0, ap length w.is, digits_length 10 w.count n)

-- what is put of a number that is not below zero
pub put_digits : {room : List ℕ} {at n : ℕ} {exit : List ℕ} {r : ℕ} → PutNumber room at (pos n) exit r → Put room at (digits_of n) exit r
put_digits {room} {at} {n} {exit} {r} (text, w, p) = subst (λ (l : List ℕ). Put room at l exit r) (written_once (omega arith) w (digits_written n)) p

-- no digits that name the number are fewer
pub digits_fewest : (ds : List ℕ) → Digits ds → 1 ≤ length ds → length (digits_of (number ds)) ≤ length ds
digits_fewest ds h some =
    let w = digits_written (number ds) in
    let k = w.count in
    let l : length (digits_of (number ds)) ≡ k = ap length w.is ∙ digits_length 10 k (number ds) in
    go k l w.fewest
  where
    go : (k : ℕ) → length (digits_of (number ds)) ≡ k → IsDigitCount 10 1 (number ds) k → length (digits_of (number ds)) ≤ length ds
    go k l f = ⊎_elim
        (λ (m : length ds < k). absurd (omega (arith, f.2 (omega arith), number_below ds h, pow-le-pow_right {n = 10} (omega arith) {i = length ds} {j = k - 1} (omega arith))))
        (λ (m : k ≤ length ds). omega arith)
        (lt-or-ge (length ds) k)

-- a number below 10 ^ k has at most k digits
pub digits_most : (k n : ℕ) → 1 ≤ k → n < 10 ^ k → length (digits_of n) ≤ k
digits_most k n some h =
    let w = digits_written n in
    let l : length (digits_of n) ≡ w.count = ap length w.is ∙ digits_length 10 w.count n in
    ⊎_elim
    (λ (m : k < w.count). absurd (omega (arith, w.fewest.2 (omega arith), pow-le-pow_right {n = 10} (omega arith) {i = k} {j = w.count - 1} (omega arith))))
    (λ (m : w.count ≤ k). omega arith)
    (lt-or-ge k w.count)

-- ---- a text that grows
pub put_extends : (room : List ℕ) (at : ℕ) (text : List ℕ) {exit : List ℕ} {r : ℕ} → at + length text ≤ length room → Put room at text exit r → Extends room at text exit r
put_extends room at text {exit} {r} fits p =
    let t = p.there fits in
    let rest = drop (at + length text) room in
    let n : length (take at room ++ text) ≡ r = length-append (take at room) text ∙ ap (λ (k : ℕ). k + length text) (length-take-le at room (omega arith)) ∙ sym t.1 in
    record {
      start = ap (take r) t.0 ∙ take_at (take at room ++ text) rest r n;
      place = t.1;
      size = ap length t.0 ∙ length-append (take at room ++ text) rest ∙ omega (arith, n, t.1, length-drop (at + length text) room);
    }

pub extends_then : {room : List ℕ} {at : ℕ} {text mid : List ℕ} {r : ℕ} {more exit : List ℕ} {q : ℕ} → Extends room at text mid r → Extends mid r more exit q → Extends room at (text ++ more) exit q
extends_then {room} {at} {text} {more = more} a b = record {
  start = b.start ∙ ap (λ (l : List ℕ). l ++ more) a.start ∙ append_assoc (take at room) text more;
  place = omega (arith, a.place, b.place, length-append text more);
  size = b.size ∙ a.size;
}

pub extends_fits : {room : List ℕ} {at : ℕ} {text exit : List ℕ} {r : ℕ} → at ≤ length room → Extends room at text exit r → r ≤ length exit
extends_fits {room} {at} {text} {exit} {r} h e =
    omega (arith, ap length e.start, length-take r exit, length-append (take at room) text, length-take-le at room h, e.place)

-- ---- a byte in front of a text
pub put_behind : (room : List ℕ) (at b : ℕ) (text : List ℕ) {exit : List ℕ} {r : ℕ} → at + suc (length text) ≤ length room → Put (set room at b) (at + 1) text exit r → Put room at (b ∷ text) exit r
put_behind room at b text {exit} {r} fits a =
    let t = a.there (omega (arith, length-set room at b)) in
    let front : take (at + 1) (set room at b) ≡ take at room ++ (b ∷ []) = rw add-one (take-suc-set room at b (omega arith)) in
    let after : at + 1 + length text ≡ at + suc (length text) = omega arith in
    let back : drop (at + 1 + length text) (set room at b) ≡ drop (at + suc (length text)) room =
    drop-set-lt (at + 1 + length text) room at b (omega arith) ∙ ap (λ (n : ℕ). drop n room) after in
    record {
      there = λ h. (t.0 ∙ ap₂ (λ (x y : List ℕ). x ++ text ++ y) front back ∙ ap (λ (x : List ℕ). x ++ drop (at + suc (length text)) room) (append_snoc (take at room) b text), t.1 ∙ after);
      refused = λ h. absurd (omega arith);
    }

-- ---- nothing is put, and one byte at the start
pub put_none : (room : List ℕ) (at : ℕ) → Put room at [] room at
put_none room at =
    let e : at + 0 ≡ at = omega arith in
    record {
      there = λ h. (
        sym (ap₂ (λ (x y : List ℕ). x ++ y) (append-nil (take at room)) (ap (λ (n : ℕ). drop n room) e) ∙ take-append-drop at room),
        omega arith,
      );
      refused = λ h. (refl, refl);
    }

pub put_first : (room : List ℕ) (b : ℕ) → 1 ≤ length room → Put room 0 (b ∷ []) (set room 0 b) 1
put_first room b h = put_behind room 0 b [] (omega arith) (put_none (set room 0 b) 1)

-- ---- the sign
pub signed_below : (n : ℤ) (text : List ℕ) → lt_z n (pos 0) ≡ true → signed n text ≡ 45 ∷ text
signed_below (pos n) text t = absurd (omega (arith, ltb-true n 0 t))
signed_below (negsuc n) text t = refl

pub signed_from_zero : (n : ℤ) (text : List ℕ) → lt_z n (pos 0) ≡ false → signed n text ≡ text
signed_from_zero (pos n) text t = refl
signed_from_zero (negsuc n) text t = absurd (false≢true (sym t))

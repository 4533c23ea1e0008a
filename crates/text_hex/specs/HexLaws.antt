-- Laws of hex words: a pattern is read digit by digit, a text's bytes pair by pair.
-- Two answers that are allowed for one word are equal (`pattern_once`, `text_once`).
use Rattle.std.specs.Prelude.{ℕ, zero, suc, ◌≤◌, ◌<◌, ◌+◌, ◌-◌, ◌*◌, ◌^◌, ◌≡◌, refl, List, [], ◌∷◌, ◌++◌, true, false, length, get_or, drop, Option, Some, None}
use Rattle.std.proofs.Common.{sym, ap, ap₂, ◌∙◌, subst, mul_assoc, add-mul, zero-mul, arith}
use Rattle.std.specs.Char.{digit_value, is_ascii_hexdigit}
use Rattle.std.specs.List.{list_all}
use Rattle.std.proofs.lemmas.Bool.{and_parts}
use Rattle.std.proofs.lemmas.Bool.Decides.{nat_tests}
use Rattle.std.proofs.Math.Nat.{pow-succ'}
use Rattle.text_hex.specs.Hex.{in_range, worth_of, HexDigits, hex_number, PatternReads, bytes_of, TextReads}

-- ---- one answer
pub pattern_once : (word : List ℕ) (q r : Option ℕ) → PatternReads word q → PatternReads word r → q ≡ r
pattern_once word (Some v) (Some w) a b = ap Some (a.2 ∙ sym b.2)
pattern_once word (Some v) None a b = absurd (b a.0 a.1)
pattern_once word None (Some w) a b = absurd (a b.0 b.1)
pattern_once word None None a b = refl

pub text_once : (word room x y : List ℕ) (q r : Option ℕ) → TextReads word room x q → TextReads word room y r → (q ≡ r) × (x ≡ y)
text_once word room x y (Some m) (Some n) a b =
    let e : m ≡ n = a.1 ∙ sym b.1 in
    (ap Some e, a.3 ∙ ap (λ (k : ℕ). bytes_of word ++ drop k room) e ∙ sym b.3)
text_once word room x y (Some m) None a b = absurd (omega (arith, b.0 a.0, a.1, a.2))
text_once word room x y None (Some n) a b = absurd (omega (arith, a.0 b.0, b.1, b.2))
text_once word room x y None None a b = (refl, a.1 ∙ sym b.1)

-- ---- a number read digit by digit: v so far, then the digits
unfoldable pub hex_after : ℕ → List ℕ → ℕ
hex_after v [] = v
hex_after v (b ∷ s) = hex_after (v * 16 + worth_of b) s

hex_after_lem : (v : ℕ) (s : List ℕ) → hex_after v s ≡ v * 16 ^ length s + hex_number s
unfolding hex_after hex_number
hex_after_lem v [] = omega arith
hex_after_lem v (b ∷ s) =
    let p = 16 ^ length s in
    let e : v * 16 ^ suc (length s) ≡ v * 16 * p = rw (pow-succ', mul_assoc) refl in
    omega (arith, e, hex_after_lem (v * 16 + worth_of b) s, add-mul (v * 16) (worth_of b) p)

pub hex_read : (s : List ℕ) → hex_after 0 s ≡ hex_number s
hex_read s = omega (arith, hex_after_lem 0 s, zero-mul (16 ^ length s))

-- ---- a text's digits and bytes by their place
pub digit_at : (s : List ℕ) (i : ℕ) → HexDigits s → i < length s → worth_of (get_or s i 0) < 16
digit_at [] i h k = absurd (omega arith)
digit_at (b ∷ s) zero h k = h.0
digit_at (b ∷ s) (suc i) h k = digit_at s i h.1 (omega arith)

pub byte_at : (s : List ℕ) (k : ℕ) → k * 2 + 1 < length s → (k < length (bytes_of s)) × (get_or (bytes_of s) k 0 ≡ worth_of (get_or s (k * 2) 0) * 16 + worth_of (get_or s (k * 2 + 1) 0))
unfolding bytes_of
byte_at [] k h = absurd (omega arith)
byte_at (a ∷ []) k h = absurd (omega arith)
byte_at (a ∷ b ∷ s) zero h = (omega arith, refl)
byte_at (a ∷ b ∷ s) (suc k) h =
    let r = byte_at s k (omega arith) in
    let e : suc k * 2 ≡ suc (suc (k * 2)) = omega arith in
    let f : suc k * 2 + 1 ≡ suc (suc (k * 2 + 1)) = omega arith in
    (omega (arith, r.0), r.1 ∙ ap₂ (λ (i j : ℕ). worth_of (get_or (a ∷ b ∷ s) i 0) * 16 + worth_of (get_or (a ∷ b ∷ s) j 0)) (sym e) (sym f))

pub bytes_half : (s : List ℕ) (n : ℕ) → length s ≡ n * 2 → length (bytes_of s) ≡ n
unfolding bytes_of
bytes_half [] n h = omega arith
bytes_half (a ∷ []) n h = absurd (omega arith)
bytes_half (a ∷ b ∷ s) zero h = absurd (omega arith)
bytes_half (a ∷ b ∷ s) (suc n) h = ap suc (bytes_half s n (omega arith))

-- ---- what a digit is worth, by the range that it lies in
module _ (b : ℕ) where
  pub worth_figure : in_range 48 57 b ≡ true → b - 48 ≡ worth_of b
  unfolding worth_of
  worth_figure e = rw e

  pub worth_capital : in_range 48 57 b ≡ false → in_range 65 70 b ≡ true → b - 55 ≡ worth_of b
  unfolding worth_of
  worth_capital n e = rw (n, e)

  pub worth_small : in_range 48 57 b ≡ false → in_range 65 70 b ≡ false → in_range 97 102 b ≡ true → b - 87 ≡ worth_of b
  unfolding worth_of
  worth_small n m e = rw (n, m, e)

  pub worth_none : in_range 48 57 b ≡ false → in_range 65 70 b ≡ false → in_range 97 102 b ≡ false → 16 ≡ worth_of b
  unfolding worth_of
  worth_none n m k = rw (n, m, k)

-- ---- and in the library's words: the value of a hex digit, and 16 where the byte is none
pub worth_value : (b : ℕ) → digit_value b < 16 → worth_of b ≡ digit_value b
unfolding worth_of
worth_value b = grind (arith, nat_tests)

pub worth_some : (b : ℕ) → worth_of b < 16 → digit_value b < 16
unfolding worth_of
worth_some b = grind (arith, nat_tests)

pub hex_below : (b : ℕ) → digit_value b < 16 → worth_of b < 16
unfolding worth_of
hex_below b = grind (arith, nat_tests)

pub hex_digit : (b : ℕ) → is_ascii_hexdigit b ≡ true → worth_of b < 16
unfolding worth_of
hex_digit b = grind (arith, nat_tests)

pub digit_hex : (b : ℕ) → worth_of b < 16 → is_ascii_hexdigit b ≡ true
unfolding worth_of
digit_hex b = grind (arith, nat_tests)

pub hex_word : (s : List ℕ) → list_all is_ascii_hexdigit s ≡ true → HexDigits s
hex_word [] e = tt
hex_word (b ∷ s) e = let p = and_parts (is_ascii_hexdigit b) (list_all is_ascii_hexdigit s) e in (hex_digit b p.0, hex_word s p.1)

pub word_hex : (s : List ℕ) → HexDigits s → list_all is_ascii_hexdigit s ≡ true
word_hex [] h = refl
word_hex (b ∷ s) h = rw (digit_hex b h.0, word_hex s h.1)

-- ---- a text that was read stands within the room
pub text_fits : (word room exit : List ℕ) (r : Option ℕ) (n : ℕ) → r ≡ Some n → TextReads word room exit r → n ≤ length room
text_fits word room exit r n e h = (subst (TextReads word room exit) e h).2

-- `text_hex::measure` meets its contract: a `-` is the text of no bytes, and any other word is a text by its length and its digits.
use Rattle.std.specs.Prelude.{ℕ, ◌<◌, ◌*◌, ◌/◌, ◌≡◌, List, [], ◌∷◌, length}
use Rattle.std.proofs.Common.{inl, inr, sym, ap, ◌∙◌, arith, rules}
use Rattle.std.proofs.lemmas.Bool.{false≢true}
use Rattle.text_hex.specs.Hex.{HexDigits, bytes_of, IsText}
use Rattle.text_hex.specs.HexLaws.{bytes_half, hex_word, word_hex}
use Rattle.text_hex.proofs.measure.Goals as goal
use Rattle.text_hex.proofs.measure.Goals.{then-n-eq0-via-then-n-eq0, then-n-eq0-via-else-n-eq0+then-n-word, then-n-eq0-via-else-n-eq0+else-n-word+then-not-all_hex}

no_text : (word : List ℕ) → (word ≡ 45 ∷ [] → ⊥) → (HexDigits word → length word ≡ length (bytes_of word) * 2 → 0 < length word → ⊥) → IsText word → ⊥
no_text word n f (inl e) = n e
no_text word n f (inr h) = f h.0 h.1 h.2

pub returns-then-eq : goal.returns-then-eq
unfolding bytes_of
returns-then-eq c =
    let e : c.args.word.now ≡ 45 ∷ [] = search rules in
    (inl e, ap (λ (w : List ℕ). length (bytes_of w)) (sym e))

pub returns-then-n-eq0 : goal.returns-then-n-eq0
returns-then-n-eq0 c =
    let n : c.args.word.now ≡ 45 ∷ [] → ⊥ = search rules in
    no_text c.args.word.now n
    (elim c.then-n-eq0.branch [
      | then-n-eq0-via-then-n-eq0 w ↦ λ d l p. omega arith
      | then-n-eq0-via-else-n-eq0+then-n-word w ↦ λ d l p. omega arith
      | then-n-eq0-via-else-n-eq0+else-n-word+then-not-all_hex w ↦ λ d l p. false≢true (sym w.if-not-all_hex.true ∙ w.all_hex.ensures ∙ word_hex c.args.word.now d)
    ])

pub returns : goal.returns
returns c =
    let s = c.args.word.now in
    let e : length s ≡ length s / 2 * 2 = omega arith in
    let n = bytes_half s (length s / 2) e in
    let t : HexDigits s = hex_word s (sym c.all_hex.ensures ∙ c.if-not-all_hex.false) in
    (inr (t, omega (arith, n, e), omega (arith, c.if-n-eq0.false, e)), sym n)

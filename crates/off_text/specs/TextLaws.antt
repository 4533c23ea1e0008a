-- Texts made of words: a word and the white space behind it are the first word. That a text without the byte 44 has no comma outside comments is in proofs/TextLaws.
-- For whoever writes such a text and wants to know what reading makes of it.
use Rattle.std.specs.Prelude.{ℕ, ◌≤◌, ◌≡◌, true, false, List, [], ◌∷◌, ◌++◌, T, length, drop}
use Rattle.std.proofs.Common.{sym, ap, ◌∙◌, subst, arith}
use Rattle.std.proofs.Math.Seq.{drop-append_seam}
use Rattle.off_text.specs.Off.{outside, white, full, stretches, words_in}
use Rattle.off_text.specs.OffLaws.{outside_byte, run_more, run_stop, words_white, words_run}
use Rattle.off_text.specs.Walk.{plain, run}

-- each byte belongs to a word
abbrev pub Plain : List ℕ → Type 0
Plain [] = Unit {0}
Plain (b ∷ w) = (plain b ≡ true) × Plain w

white_ends : (b : ℕ) → white b ≡ true → plain b ≡ false
white_ends b e = rw e

white_byte : (b : ℕ) → white b ≡ true → b ≡ 35 → ⊥
unfolding white
white_byte b e z = subst T (sym e ∙ ap white z) tt

run_of : (w : List ℕ) (b : ℕ) (rest : List ℕ) → Plain w → white b ≡ true → run (w ++ b ∷ rest) ≡ w
run_of [] b rest p e = run_stop b rest (white_ends b e)
run_of (c ∷ w) b rest p e = run_more c (w ++ b ∷ rest) p.0 ∙ ap (λ (l : List ℕ). c ∷ l) (run_of w b rest p.1 e)

-- white space before the first word is passed
pub words_behind : (b : ℕ) (rest : List ℕ) → white b ≡ true → words_in (b ∷ rest) ≡ words_in rest
words_behind b rest e = ap (λ (s : List ℕ). full (stretches s)) (outside_byte b rest (white_byte b e)) ∙ words_white b (outside rest) e

pub word_then : (w : List ℕ) (b : ℕ) (rest : List ℕ) → Plain w → 1 ≤ length w → white b ≡ true → words_in (w ++ b ∷ rest) ≡ w ∷ words_in rest
word_then w b rest p l e =
    let r = run_of w b rest p e in
    words_run (w ++ b ∷ rest) (omega (arith, ap length r))
    ∙ (λ i. r i ∷ words_in (drop (length (r i)) (w ++ b ∷ rest)))
    ∙ ap (λ (s : List ℕ). w ∷ words_in s) (drop-append_seam w (b ∷ rest))
    ∙ ap (λ (ws : List (List ℕ)). w ∷ ws) (words_behind b rest e)

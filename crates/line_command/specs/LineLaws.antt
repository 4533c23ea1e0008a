-- Laws of a line's command: a word that takes as many numbers as there are gets its command, and another count gets none.
-- A line has one command (`command_once`), and says one thing (`says_once`).
use Rattle.std.specs.Prelude.{ℕ, ◌≤◌, ◌<◌, ◌≡◌, List, [], ◌∷◌, ℤ, length, get_or, take, drop, Some}
use Rattle.std.proofs.Common.{sym, ap, ◌∙◌, subst, inl, inr, arith}
use Rattle.std.proofs.Math.Logic.{if_pos, if_neg}
use Rattle.std.proofs.Math.Decide.{ℕ_discrete, dec_le}
use Rattle.std.proofs.Math.Seq.{take-append_seam}
use Rattle.text_words.specs.Words.{first_word, words_of}
use Rattle.text_words.specs.ReadLaws.{numbers_once}
use Rattle.line.specs.Behind.{behind, NumbersIn, Finds, NotIn}
use Rattle.line.specs.BehindLaws.{words_are, finds_once}
use Rattle.line_spoil.specs.CellLaws.{cell_once}
use Rattle.line_command.specs.Lines.{unknown, at, takes, load_of, desk_words, other_words, Unknowing, OfDesk, OfWord, PassedOver, CommandOf, most_bytes, LineSays}
use Rattle.desk.specs.declared.Command.TheVariants.{Load}
use Rattle.line_command.specs.declared.Line.{Line}
use Rattle.line_command.specs.declared.Line.TheVariants.{Tell, Spoil}

pub takes_as : (k : ℕ) (numbers : List ℤ) (c : Line) → length numbers ≡ k → c ≡ takes k numbers c
unfolding takes
takes_as k numbers c e = sym (if_pos (ℕ_discrete (length numbers) k) e _ _)

pub takes_not : (k : ℕ) (numbers : List ℤ) (c : Line) → (length numbers ≡ k → ⊥) → unknown ≡ takes k numbers c
unfolding takes
takes_not k numbers c n = sym (if_neg (ℕ_discrete (length numbers) k) n _ _)

pub load_none : (numbers : List ℤ) → length numbers ≡ 0 → unknown ≡ load_of numbers
unfolding load_of
load_none numbers e = sym (if_pos (ℕ_discrete (length numbers) 0) e _ _)

pub load_some : (numbers : List ℤ) → (length numbers ≡ 0 → ⊥) → Tell (Load (at numbers 0)) (length numbers) ≡ load_of numbers
unfolding load_of
load_some numbers n = sym (if_neg (ℕ_discrete (length numbers) 0) n _ _)

-- ---- the words behind, as they were read
pub desk_numbers : (word : List ℕ) (ws : List (List ℕ)) (room exit : List ℤ) (n : ℕ) (c : Line) → NumbersIn ws room exit (Some n) → {k : ℕ} → k ≡ n
    → Finds word (desk_words (take k exit)) Unknowing c → OfDesk word ws room exit c
desk_numbers word ws room exit n c h {k} ek f =
    let e : take k exit ≡ h.0 = ap (λ (j : ℕ). take j exit) (ek ∙ h.2) ∙ ap (take (length h.0)) h.4 ∙ take-append_seam h.0 (drop (length h.0) room) in
    inl (h.0, h.1, omega (arith, h.2, h.3), h.4, subst (λ (ns : List ℤ). Finds word (desk_words ns) Unknowing c) e f)

-- ---- a line and its first word
pub passed_first : (line : List ℕ) → 0 < length line → get_or line 0 0 ≡ 35 → PassedOver line
passed_first [] h e = tt
passed_first (b ∷ line) h e = e

pub passed_is : (line : List ℕ) → 0 < length line → PassedOver line → get_or line 0 0 ≡ 35
passed_is [] h p = absurd (omega arith)
passed_is (b ∷ line) h p = p

pub passed_none : (line : List ℕ) → length line ≡ 0 → PassedOver line
passed_none [] e = tt
passed_none (b ∷ line) e = absurd (omega arith)

pub of_line : (line : List ℕ) {first : List ℕ} {end : ℕ} (room exit : List ℤ) (c : Line) → first ≡ first_word line → end ≡ length (first_word line) → OfWord first (behind line end) room exit c
    → (word : List ℕ) (ws : List (List ℕ)) → words_of line ≡ word ∷ ws → OfWord word ws room exit c
of_line line {first} {end} room exit c ef ee h word ws e =
    let k : first_word line ∷ behind line (length (first_word line)) ≡ word ∷ ws = sym (words_are line) ∙ e in
    let a : first_word line ≡ word = cc in
    let b : behind line (length (first_word line)) ≡ ws = cc in
    subst (λ (w : List ℕ). OfWord w ws room exit c) (ef ∙ a) (subst (λ (l : List (List ℕ)). OfWord first l room exit c) (ap (behind line) ee ∙ b) h)

-- ---- one command
named_not : (w : List ℕ) (table : List (List ℕ × Line)) (c : Line) → NotIn w table → Finds w table (λ _. ⊥) c → ⊥
named_not w [] c m f = f
named_not w (e ∷ table) c m (inl f) = m.0 f.0
named_not w (e ∷ table) c m (inr f) = named_not w table c m.1 f.1

unknown_once : (q r : Line) → Unknowing q → Unknowing r → q ≡ r
unknown_once q r a b = a ∙ sym b

desk_once : (word : List ℕ) (ws : List (List ℕ)) (room x y : List ℤ) (q r : Line) → OfDesk word ws room x q → OfDesk word ws room y r → q ≡ r
desk_once word ws room x y q r (inl a) (inl b) =
    let e = numbers_once ws a.0 b.0 a.1 b.1 in
    finds_once word (desk_words b.0) Unknowing unknown_once q r (subst (λ (ns : List ℤ). Finds word (desk_words ns) Unknowing q) e a.4) b.4
desk_once word ws room x y q r (inl a) (inr b) = absurd (b.0 a.0 a.1 a.2)
desk_once word ws room x y q r (inr a) (inl b) = absurd (a.0 b.0 b.1 b.2)
desk_once word ws room x y q r (inr a) (inr b) = a.1 ∙ sym b.1

word_once : (word : List ℕ) (ws : List (List ℕ)) (room x y : List ℤ) (q r : Line) → OfWord word ws room x q → OfWord word ws room y r → q ≡ r
word_once word ws room x y q r (inl a) (inl b) = finds_once word other_words (λ _. ⊥) (λ u v f g. absurd f) q r a.1 b.1
word_once word ws room x y q r (inl a) (inr b) = absurd (named_not word other_words q b.0 a.1)
word_once word ws room x y q r (inr a) (inl b) = absurd (named_not word other_words r a.0 b.1)
word_once word ws room x y q r (inr (m, inl a)) (inr (k, inl b)) = a.1.2 ∙ ap Spoil (cell_once ws room a.1.0 b.1.0 a.1.1 b.1.1) ∙ sym b.1.2
word_once word ws room x y q r (inr (m, inl a)) (inr (k, inr b)) = absurd (b.0 a.0)
word_once word ws room x y q r (inr (m, inr a)) (inr (k, inl b)) = absurd (a.0 b.0)
word_once word ws room x y q r (inr (m, inr a)) (inr (k, inr b)) = desk_once word ws room x y q r a.1 b.1

pub command_once : (line : List ℕ) (room x y : List ℤ) (q r : Line) → CommandOf line room x q → CommandOf line room y r → q ≡ r
command_once [] room x y q r a b = (a.passed tt).1 ∙ sym (b.passed tt).1
command_once (c ∷ s) room x y q r a b = go (ℕ_discrete c 35)
  where
    go : Dec (c ≡ 35) → q ≡ r
    go (yes e) = (a.passed e).1 ∙ sym (b.passed e).1
    go (no f) = let w = words_are (c ∷ s) in word_once (first_word (c ∷ s)) (behind (c ∷ s) (length (first_word (c ∷ s)))) room x y q r (a.read f _ _ w) (b.read f _ _ w)

-- one thing that a line says
pub says_once : (line : List ℕ) (room x y : List ℤ) (q r : Line) → LineSays line room x q → LineSays line room y r → q ≡ r
says_once [] room x y q r a b = a.passed tt ∙ sym (b.passed tt)
says_once (c ∷ s) room x y q r a b = go (ℕ_discrete c 35) (dec_le (length (c ∷ s)) most_bytes)
  where
    go : Dec (c ≡ 35) → Dec (length (c ∷ s) ≤ most_bytes) → q ≡ r
    go (yes e) d = a.passed e ∙ sym (b.passed e)
    go (no f) (yes l) = command_once (c ∷ s) room x y q r (a.is_read l) (b.is_read l)
    go (no f) (no l) = a.too_long f l ∙ sym (b.too_long f l)

-- Laws of the words behind a command's own: a line is its first word and what is behind that, and a run of numbers is read or stuck.
-- A word finds one value at most (`finds_once`).
use Rattle.std.specs.Prelude.{ℕ, ◌+◌, ◌≤◌, ◌<◌, min, ◌≡◌, refl, List, [], ◌∷◌, ℤ, length, drop, Option, Some, None}
use Rattle.std.proofs.Common.{sym, ap, ◌∙◌, subst, inl, inr, add-one, arith, length-drop, drop-drop}
use Rattle.std.proofs.Math.Logic.{if_pos, if_neg}
use Rattle.std.proofs.Math.Decide.{dec_lt}
use Rattle.text_words.specs.Words.{space_byte, first_word, words_of, Listed}
use Rattle.text_cut.proofs.CutLaws.{first_le, parts_last, parts_next}
use Rattle.text_words.specs.ReadLaws.{never_stuck}
use Rattle.line.specs.Behind.{behind, NumbersIn, Finds}

pub behind_some : (line : List ℕ) (end : ℕ) → end < length line → behind line end ≡ words_of (drop (end + 1) line)
unfolding behind
behind_some line end h = if_pos (dec_lt end (length line)) h _ _

pub behind_none : (line : List ℕ) (end : ℕ) → length line ≤ end → behind line end ≡ []
unfolding behind
behind_none line end h = if_neg (dec_lt end (length line)) (λ k. omega arith) _ _

-- a line is its first word and the words behind it
pub words_are : (line : List ℕ) → words_of line ≡ first_word line ∷ behind line (length (first_word line))
unfolding dec_lt
words_are line =
    elim (dec_lt (length (first_word line)) (length line)) [
      | yes h ↦ parts_next space_byte line h ∙ ap (λ (k : ℕ). first_word line ∷ words_of (drop k line)) (sym (add-one (length (first_word line)))) ∙ ap (λ (ws : List (List ℕ)). first_word line ∷ ws)
          (sym (behind_some line (length (first_word line)) h))
      | no n ↦ parts_last space_byte line (omega (arith, first_le space_byte line, n))
          ∙ ap (λ (ws : List (List ℕ)). first_word line ∷ ws) (sym (behind_none line (length (first_word line)) (omega (arith, n))))
    ]

-- and the words behind a word are the next one and the words behind that
behind_drop : (line : List ℕ) (k m : ℕ) → k ≤ length line → behind (drop k line) m ≡ behind line (k + m)
unfolding dec_lt
behind_drop line k m h =
    elim (dec_lt (k + m) (length line)) [
      | yes l ↦
          let e : k + (m + 1) ≡ k + m + 1 = omega arith in
          behind_some (drop k line) m (omega (arith, length-drop k line))
          ∙ ap words_of (drop-drop (m + 1) k line ∙ ap (λ (j : ℕ). drop j line) e)
          ∙ sym (behind_some line (k + m) l)
      | no n ↦ behind_none (drop k line) m (omega (arith, length-drop k line, n)) ∙ sym (behind_none line (k + m) (omega (arith, n)))
    ]

behind_next : (line : List ℕ) (end : ℕ) → end < length line → behind line end ≡ first_word (drop (end + 1) line) ∷ behind line (end + 1 + length (first_word (drop (end + 1) line)))
behind_next line end h =
    let s = drop (end + 1) line in
    behind_some line end h ∙ words_are s ∙ ap (λ (ws : List (List ℕ)). first_word s ∷ ws) (behind_drop line (end + 1) (length (first_word s)) (omega arith))

-- the words behind the word that ends at `end`: the next one, which ends at `next`, and the words behind that
pub next-is : (line : List ℕ) (end next : ℕ) → end < length line → next ≡ min (end + 1) (length line) + length (first_word (drop (end + 1) line))
    → behind line end ≡ first_word (drop (end + 1) line) ∷ behind line next
next-is line end next h e =
    let k : end + 1 + length (first_word (drop (end + 1) line)) ≡ next = omega (arith, e) in
    behind_next line end h ∙ ap (λ (j : ℕ). first_word (drop (end + 1) line) ∷ behind line j) k

-- ---- what was read of the words behind
pub numbers-none : (line : List ℕ) (end : ℕ) (room : List ℤ) → length line ≤ end → NumbersIn (behind line end) room room (Some 0)
numbers-none line end room h = subst (λ (ws : List (List ℕ)). NumbersIn ws room room (Some 0)) (sym (behind_none line end h)) ([], tt, refl, omega arith, refl)

pub numbers_listed : (line : List ℕ) (end : ℕ) (room exit : List ℤ) (r : Option ℕ) → end < length line → Listed (drop (end + 1) line) room exit r → NumbersIn (behind line end) room exit r
numbers_listed line end room exit (Some n) h l = subst (λ (ws : List (List ℕ)). NumbersIn ws room exit (Some n)) (sym (behind_some line end h)) l
numbers_listed line end room exit None h s = subst (λ (ws : List (List ℕ)). NumbersIn ws room exit None) (sym (behind_some line end h)) (λ values a f. never_stuck s values a f)

-- as many as are said stand in the room
pub numbers_fit : (ws : List (List ℕ)) (room exit : List ℤ) {i : Option ℕ} {n : ℕ} → i ≡ Some n → NumbersIn ws room exit i → n ≤ length room
numbers_fit ws room exit e h = (subst (NumbersIn ws room exit) e h).3

-- ---- one answer
pub finds_once : {A : Type 0} (w : List ℕ) (table : List (List ℕ × A)) (Else : A → Type 0) → ((q r : A) → Else q → Else r → q ≡ r) → (q r : A) → Finds w table Else q → Finds w table Else r → q ≡ r
finds_once w [] Else once q r a b = once q r a b
finds_once w (e ∷ table) Else once q r (inl a) (inl b) = a.1 ∙ sym b.1
finds_once w (e ∷ table) Else once q r (inl a) (inr b) = absurd (b.0 a.0)
finds_once w (e ∷ table) Else once q r (inr a) (inl b) = absurd (a.0 b.0)
finds_once w (e ∷ table) Else once q r (inr a) (inr b) = finds_once w table Else once q r a.1 b.1

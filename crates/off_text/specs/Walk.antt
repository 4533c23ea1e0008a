-- What the kernels that walk a text give: what is left behind a byte or a comment, the next word, a number, and whether the next words are a face.
-- s is what is left of a text, never from inside a comment on, so that the words that are left are its own; t is what is left of it afterwards. No laws stand here.
use Rattle.std.specs.Prelude.{ℕ, ◌+◌, ◌<◌, ◌≡◌, Bool, true, false, cond, ◌||◌, not, List, [], ◌∷◌, ◌++◌, Option, MatchOption, eqb, length, drop, get_or}
use Rattle.text_digits.specs.Decimal.{number}
use Rattle.off_text.specs.Off.{outside, white, words_in, word_at, EachWord, IsCount, Names}

-- a byte of a word: neither white space nor the start of a comment
abbrev pub plain : ℕ → Bool
plain b = not (white b || eqb b 35)

-- the bytes of a word that a text starts with
unfoldable pub run : List ℕ → List ℕ
run [] = []
run (b ∷ s) = cond (plain b) (b ∷ run s) []

-- t is what is left of s from a place on
abbrev pub Behind : List ℕ → List ℕ → Type 0
Behind s t = (k : ℕ) × (t ≡ drop k s)

-- behind the comment that starts s, or else behind its first byte
pub record PassedAs (s t : List ℕ) : Type 0 where
  pub onward : length t < length s
  pub behind : Behind s t
  pub comment : get_or s 0 0 ≡ 35 → outside s ≡ outside t
  pub byte : (get_or s 0 0 ≡ 35 → ⊥) → outside s ≡ get_or s 0 0 ∷ outside t

-- from the next word on, or nothing
pub record StartAs (s t : List ℕ) : Type 0 where
  pub behind : Behind s t
  pub words : words_in s ≡ words_in t
  pub found : 0 < length t → plain (get_or t 0 0) ≡ true

-- the next word, and the others behind it
pub record NextAs (s word t : List ℕ) : Type 0 where
  pub behind : Behind s (word ++ t)
  pub words : words_in s ≡ word ∷ words_in t

-- the number that a word of digits names, where it is below the bound
abbrev pub BelowAs : ℕ → List ℕ → Option ℕ → Type 0
BelowAs bound word r = MatchOption r (Names bound word → ⊥) (λ n. Names bound word × (n ≡ number word))

-- the next word as a number below the bound, and the words behind it
pub record CountedAs (bound : ℕ) (s : List ℕ) (r : Option ℕ) (t : List ℕ) : Type 0 where
  pub value : BelowAs bound (word_at (words_in s) 0) r
  pub rest : words_in t ≡ drop 1 (words_in s)

-- the same, and what is left is a rest of what was
pub record CountedBehind (bound : ℕ) (s : List ℕ) (r : Option ℕ) (t : List ℕ) : Type 0 where
  pub behind : Behind s t
  pub counted : CountedAs bound s r t

-- whether the next n words name corners, and if so what is left behind them
pub record IndicesAs (corners n : ℕ) (words : List (List ℕ)) (r : Bool) (t : List ℕ) : Type 0 where
  pub good : r ≡ true → EachWord (Names corners) n words × (words_in t ≡ drop n words)
  pub bad : r ≡ false → EachWord (Names corners) n words → ⊥

-- the first of these words is a number n, and the next n name corners
pub record Face (corners : ℕ) (words : List (List ℕ)) : Type 0 where
  pub count : IsCount (word_at words 0)
  pub indices : EachWord (Names corners) (number (word_at words 0)) (drop 1 words)

-- whether the next words are a face, and if so what is left behind it
pub record FaceAs (corners : ℕ) (words : List (List ℕ)) (r : Bool) (t : List ℕ) : Type 0 where
  pub good : r ≡ true → Face corners words × (words_in t ≡ drop (1 + number (word_at words 0)) words)
  pub bad : r ≡ false → Face corners words → ⊥

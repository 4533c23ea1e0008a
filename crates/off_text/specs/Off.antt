-- The ASCII OFF layout as it is read (document 02, W7): the text outside comments, its words, and when they are an OFF text.
-- The bytes with a meaning are 9, 10, 13 and 32, white space; 35, "#"; 44, the comma; and 79 70 70, "OFF". No laws stand here.
use Rattle.std.specs.Prelude.{ℕ, zero, suc, ◌+◌, ◌*◌, ◌≤◌, ◌<◌, ◌≡◌, Bool, cond, ◌||◌, List, [], ◌∷◌, ◌⊎◌, eqb, length, drop, get_or}
use Rattle.text_cut.specs.Cuts.{onto}
use Rattle.text_digits.specs.Decimal.{Digits, number}
use Rattle.off_number.specs.OffNumber.{IsNumber}

-- ---- comments: "# starts a comment up to byte 10 or the text's end"
-- What is left of a text without its comments, of one that starts outside a comment and of one that starts inside one. Byte 10 ends a comment and is no part of it
unfoldable mutual
  pub outside : List ℕ → List ℕ
  outside [] = []
  outside (b ∷ s) = cond (eqb b 35) (inside s) (b ∷ outside s)

  pub inside : List ℕ → List ℕ
  inside [] = []
  inside (b ∷ s) = cond (eqb b 10) (b ∷ outside s) (inside s)

-- "a comma is refused by name": one of these bytes is a comma
abbrev pub HasComma : List ℕ → Type 0
HasComma [] = ⊥
HasComma (b ∷ s) = (b ≡ 44) ⊎ HasComma s

-- "25 is tested first over all text outside comments"
abbrev pub CommaOutside : List ℕ → Type 0
CommaOutside text = HasComma (outside text)

-- ---- words: "White space is bytes 9, 10, 13 and 32"
unfoldable pub white : ℕ → Bool
white b = eqb b 9 || (eqb b 10 || (eqb b 13 || eqb b 32))

-- what stands between white space: each byte of it ends a stretch, which may be empty, and any other byte belongs to one
unfoldable pub stretches : List ℕ → List (List ℕ)
stretches [] = [] ∷ []
stretches (b ∷ s) = cond (white b) ([] ∷ stretches s) (onto b (stretches s))

-- the stretches that are not empty
abbrev pub full : List (List ℕ) → List (List ℕ)
full [] = []
full ([] ∷ rest) = full rest
full ((b ∷ w) ∷ rest) = (b ∷ w) ∷ full rest

-- the words of a text, comments left out
abbrev pub words_in : List ℕ → List (List ℕ)
words_in text = full (stretches (outside text))

-- the word at a place, counted from 0; one that is not there reads as the empty one, which is neither digits nor a number
abbrev pub word_at : List (List ℕ) → ℕ → List ℕ
word_at words k = get_or words k []

-- each of the first n words is so; one of them is
abbrev pub EachWord : (List ℕ → Type 0) → ℕ → List (List ℕ) → Type 0
EachWord P n words = (k : ℕ) → k < n → P (word_at words k)

abbrev pub AnyWord : (List ℕ → Type 0) → ℕ → List (List ℕ) → Type 0
AnyWord P n words = (k : ℕ) × (k < n) × P (word_at words k)

-- ---- the layout: "the word OFF, three counts, corners, then faces"
abbrev pub off : List ℕ
off = 79 ∷ 70 ∷ 70 ∷ []

-- "counts and indices are digits": what they name is `number word`, however long they are
pub record IsCount (word : List ℕ) : Type 0 where
  pub digits : Digits word
  pub some : 1 ≤ length word

-- an index that names one of so many corners; the first is 0
pub record Names (corners : ℕ) (word : List ℕ) : Type 0 where
  pub count : IsCount word
  pub below : number word < corners

-- "every face is a number n and n indices that name corners, and .. nothing follows the last"
abbrev pub Faces : ℕ → ℕ → List (List ℕ) → Type 0
Faces corners zero words = words ≡ []
Faces corners (suc faces) words =
    IsCount (word_at words 0) × EachWord (Names corners) (number (word_at words 0)) (drop 1 words) × Faces corners faces (drop (1 + number (word_at words 0)) words)

-- the counts of corners and of faces; the third, of edges, is compared with nothing
abbrev pub corner_count : List ℕ → ℕ
corner_count text = number (word_at (words_in text) 1)

abbrev pub face_count : List ℕ → ℕ
face_count text = number (word_at (words_in text) 2)

-- the words after the counts: three numbers a corner, then the faces
abbrev pub after_counts : List ℕ → List (List ℕ)
after_counts text = drop 4 (words_in text)

pub record IsOff (text : List ℕ) : Type 0 where
  pub title : word_at (words_in text) 0 ≡ off
  pub corners : IsCount (word_at (words_in text) 1)
  pub faces : IsCount (word_at (words_in text) 2)
  pub edges : IsCount (word_at (words_in text) 3)
  pub numbers : EachWord IsNumber (3 * corner_count text) (after_counts text)
  pub indices : Faces (corner_count text) (face_count text) (drop (3 * corner_count text) (after_counts text))

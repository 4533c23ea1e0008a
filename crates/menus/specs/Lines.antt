-- Menu lines, in the words of document 01, "Menu lines".
-- `Shown translated english k r` is all that is promised of the part r that is handed back.
use Rattle.std.specs.Prelude.{ℕ, zero, suc, ◌≤◌, ◌<◌, ◌+◌, ◌≡◌, List, [], ◌∷◌, ◌⊎◌, length, get_or}
use Rattle.std.specs.Borrow.{Bor}
use Rattle.text_cut.specs.Cuts.{Cut}

-- "Text is cut at each byte 10, which belongs to no line; what follows the last one is a line too."
abbrev pub line_byte : ℕ
line_byte = 10

abbrev pub CutInto : List ℕ → List (List ℕ) → Type 0
CutInto = Cut line_byte

-- where line k starts: the lines before it, and the byte 10 after each
unfoldable pub start_in : List (List ℕ) → ℕ → ℕ
start_in lines zero = 0
start_in [] (suc k) = 0
start_in (line ∷ lines) (suc k) = length line + 1 + start_in lines k

-- "Lines count from 0.": line k of the text starts at `start`, and `line` are its bytes
pub record Line (text : List ℕ) (k start : ℕ) (line : List ℕ) : Type 0 where
  pub lines : List (List ℕ)
  pub cut : CutInto text lines
  pub there : k < length lines
  pub starts : start ≡ start_in lines k
  pub bytes : line ≡ get_or lines k []

-- the text "has no line k"
pub record Missing (text : List ℕ) (k : ℕ) : Type 0 where
  pub lines : List (List ℕ)
  pub cut : CutInto text lines
  pub few : length lines ≤ k

-- the line "is missing or empty"; and that it is neither
abbrev pub MissingOrEmpty : List ℕ → ℕ → Type 0
MissingOrEmpty text k = Missing text k ⊎ ((start : ℕ) × Line text k start [])

abbrev pub Full : List ℕ → ℕ → Type 0
Full text k = (start : ℕ) × (line : List ℕ) × Line text k start line × (0 < length line)

-- a lent text or a part of one: where it lies, `ref_ptr`, and its bytes, `now`
abbrev pub Text : Type 0
Text = Bor (List ℕ)

-- where the part of a text lies that starts at `start`
abbrev pub from : Text → ℕ → ℕ × ℕ
from text start = (text.ref_ptr.0, text.ref_ptr.1 + start)

-- "Line k is handed back as a part of the translated text, or of the English text if the translated line is missing or empty. If English is
-- turned to and has no line k, the part is the empty one at the English text's end."
pub data Shown (translated english : Text) (k : ℕ) (r : Text) : Type 0 where
  of_translated : (start : ℕ) → Line translated.now k start r.now → 0 < length r.now → r.ref_ptr ≡ from translated start → Shown translated english k r
  of_english : (start : ℕ) → MissingOrEmpty translated.now k → Line english.now k start r.now → r.ref_ptr ≡ from english start → Shown translated english k r
  of_neither : MissingOrEmpty translated.now k → Missing english.now k → r.now ≡ [] → r.ref_ptr ≡ from english (length english.now) → Shown translated english k r

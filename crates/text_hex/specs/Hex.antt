-- Hex as words: a float is "a bit pattern of 8 hex digits", a text two digits a byte and `-` for none (docs/COMMANDS.md); both cases are read.
-- `PatternReads` and `TextReads` are all that is promised of the answers to a word.
use Rattle.std.specs.Prelude.{ℕ, ◌≤◌, ◌<◌, ◌+◌, ◌-◌, ◌*◌, ◌^◌, ◌≡◌, Bool, false, cond, List, [], ◌∷◌, ◌++◌, ◌⊎◌, leb, length, drop, Option, Some, None}

abbrev pub in_range : ℕ → ℕ → ℕ → Bool
in_range low high b = cond (leb low b) (leb b high) false

-- what a hex digit is worth: "0" to "9" are the bytes 48 to 57, "A" to "F" 65 to 70, "a" to "f" 97 to 102; 16 says that the byte is none
unfoldable pub worth_of : ℕ → ℕ
worth_of b =
    cond (in_range 48 57 b) (b - 48)
    (cond (in_range 65 70 b) (b - 55)
    (cond (in_range 97 102 b) (b - 87)
    16))

-- hex digits and nothing else
abbrev pub HexDigits : List ℕ → Type 0
HexDigits [] = Unit {0}
HexDigits (b ∷ s) = (worth_of b < 16) × HexDigits s

-- the number that hex digits name: each weighs sixteen times as much as the one after it
unfoldable pub hex_number : List ℕ → ℕ
hex_number [] = 0
hex_number (b ∷ s) = worth_of b * 16 ^ length s + hex_number s

-- a bit pattern: 8 hex digits
abbrev pub PatternReads : List ℕ → Option ℕ → Type 0
PatternReads word (Some v) = (length word ≡ 8) × HexDigits word × (v ≡ hex_number word)
PatternReads word None = length word ≡ 8 → HexDigits word → ⊥

-- the bytes of a text, two digits each
unfoldable pub bytes_of : List ℕ → List ℕ
bytes_of [] = []
bytes_of (a ∷ []) = []
bytes_of (a ∷ b ∷ s) = (worth_of a * 16 + worth_of b) ∷ bytes_of s

-- a text: a `-`, the byte 45, alone, which stands for no bytes; or hex digits, two for each byte and at least one byte
abbrev pub IsText : List ℕ → Type 0
IsText word = (word ≡ 45 ∷ []) ⊎ (HexDigits word × (length word ≡ length (bytes_of word) * 2) × (0 < length word))

abbrev pub Measured : List ℕ → Option ℕ → Type 0
Measured word (Some n) = IsText word × (n ≡ length (bytes_of word))
Measured word None = IsText word → ⊥

-- the text's bytes stand in the room's first cells; or the word is no text or the room too short, and the room stays as it was
abbrev pub TextReads : List ℕ → List ℕ → List ℕ → Option ℕ → Type 0
TextReads word room exit (Some n) = IsText word × (n ≡ length (bytes_of word)) × (n ≤ length room) × (exit ≡ bytes_of word ++ drop n room)
TextReads word room exit None = (IsText word → length room < length (bytes_of word)) × (exit ≡ room)

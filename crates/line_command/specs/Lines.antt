-- A line as its command: the table of docs/COMMANDS.md. The first word says which it is, and each number behind it stands at its own place. `Tell` says too how many numbers
-- the line has: of a load those behind the first are the corners'.
-- `CommandOf` is all that is promised of a line's command, and of the numbers that are left in the room for it.
use Rattle.std.specs.Prelude.{ℕ, ◌≤◌, ◌≡◌, List, [], ◌∷◌, ◌⊎◌, ℤ, pos, length, get_or}
use Rattle.std.proofs.Math.Logic.{ite}
use Rattle.std.proofs.Math.Decide.{ℕ_discrete}
use Rattle.text_words.specs.Words.{words_of, AreNumbers, filled}
use Rattle.line.specs.Behind.{Finds, NotIn}
use Rattle.line.specs.declared.kinds.FileKind.TheVariants.{Stl as StlFile, Off as OffFile}
use Rattle.line_spoil.specs.Cells.{CellOf}
use Rattle.line_spoil.specs.declared.Cell.{Cell}
use Rattle.line_command.specs.Names.{length_word, line_word, lists_word, scan_word, show_word, blank_word, room_word, lend_word, spoil_word, load_word}
use Rattle.line_command.specs.Names.{stl_word, triangle_word, off_word, load_stl_word, load_off_word, save_off_word, write_word}
use Rattle.line_command.specs.Names.{place_word, move_word, remove_word, gap_word, pair_word, fresh_word, contacts_word, rows_word, tallies_word, marks_word, report_word}
use Rattle.desk.specs.declared.Command.TheVariants.{Start, Load, Place, Move, Remove, Gap}
use Rattle.line_command.specs.declared.Line.{Line}
use Rattle.line_command.specs.declared.Line.TheVariants.{Tell, Ask, Spoil, LoadFile, SaveFile, Other}
use Rattle.line_command.specs.declared.Asked.TheVariants.{Pair, Contacts, Rows, Tallies, Marks, Report, Write}
use Rattle.line_command.specs.declared.Other.TheVariants.{Length, MenuLine, Lists, Scan, Show, Blank, Room, Lend, Stl, Triangle, Off, Nothing, Unknown}

-- a line that is no command
abbrev pub unknown : Line
unknown = Other Unknown

-- ---- what the numbers behind a word are to it
abbrev pub at : List ℤ → ℕ → ℤ
at numbers i = get_or numbers i (pos 0)

-- the word takes exactly k numbers
unfoldable pub takes : ℕ → List ℤ → Line → Line
unfolding ℕ_discrete
takes k numbers c = ite (ℕ_discrete (length numbers) k) c unknown

-- `load S n n n ..`: any count of numbers behind the shape's
unfoldable pub load_of : List ℤ → Line
unfolding ℕ_discrete
load_of numbers = ite (ℕ_discrete (length numbers) 0) unknown (Tell (Load (at numbers 0)) (length numbers))

-- `place P S T x y z`
abbrev pub place_of : List ℤ → Line
place_of numbers =
    takes 6 numbers (Tell (Place (at numbers 0) (record { shape = at numbers 1; turn = at numbers 2; x = at numbers 3; y = at numbers 4; z = at numbers 5 })) 6)

-- `move P T x y z`
abbrev pub move_of : List ℤ → Line
move_of numbers = takes 5 numbers (Tell (Move (at numbers 0) (at numbers 1) (record { x = at numbers 2; y = at numbers 3; z = at numbers 4 })) 5)

-- `remove P`
abbrev pub remove_of : List ℤ → Line
remove_of numbers = takes 1 numbers (Tell (Remove (at numbers 0)) 1)

-- `gap G`
abbrev pub setting_of : List ℤ → Line
setting_of numbers = takes 1 numbers (Tell (Gap (at numbers 0)) 1)

-- `pair P Q`
abbrev pub pair_of : List ℤ → Line
pair_of numbers = takes 2 numbers (Ask (Pair (at numbers 0) (at numbers 1)))

-- `write S`
abbrev pub write_of : List ℤ → Line
write_of numbers = takes 1 numbers (Ask (Write (at numbers 0)))

-- the words of the desk, with the numbers behind them
abbrev pub desk_words : List ℤ → List (List ℕ × Line)
desk_words numbers =
    (load_word, load_of numbers)
    ∷ (place_word, place_of numbers)
    ∷ (move_word, move_of numbers)
    ∷ (remove_word, remove_of numbers)
    ∷ (gap_word, setting_of numbers)
    ∷ (pair_word, pair_of numbers)
    ∷ (fresh_word, takes 0 numbers (Tell Start 0))
    ∷ (contacts_word, takes 0 numbers (Ask Contacts))
    ∷ (rows_word, takes 0 numbers (Ask Rows))
    ∷ (tallies_word, takes 0 numbers (Ask Tallies))
    ∷ (marks_word, takes 0 numbers (Ask Marks))
    ∷ (report_word, takes 0 numbers (Ask Report))
    ∷ (write_word, write_of numbers)
    ∷ []

-- the words that the desk has no part in, the loads from a file and the save to one, whatever is behind them
abbrev pub other_words : List (List ℕ × Line)
other_words =
    (length_word, Other Length)
    ∷ (line_word, Other MenuLine)
    ∷ (lists_word, Other Lists)
    ∷ (scan_word, Other Scan)
    ∷ (show_word, Other Show)
    ∷ (blank_word, Other Blank)
    ∷ (room_word, Other Room)
    ∷ (lend_word, Other Lend)
    ∷ (stl_word, Other Stl)
    ∷ (triangle_word, Other Triangle)
    ∷ (off_word, Other Off)
    ∷ (load_stl_word, LoadFile StlFile)
    ∷ (load_off_word, LoadFile OffFile)
    ∷ (save_off_word, SaveFile)
    ∷ []

-- ---- the command of a line
abbrev pub Unknowing : Line → Type 0
Unknowing c = c ≡ unknown

-- a word of the desk, and the words behind it: numbers every one, which stand in the room's first cells, or else there is no command
abbrev pub OfDesk : List ℕ → List (List ℕ) → List ℤ → List ℤ → Line → Type 0
OfDesk word behind room exit c =
    ((numbers : List ℤ) × AreNumbers behind numbers × (length numbers ≤ length room) × (exit ≡ filled numbers room) × Finds word (desk_words numbers) Unknowing c)
    ⊎ (((numbers : List ℤ) → AreNumbers behind numbers → length numbers ≤ length room → ⊥) × (c ≡ unknown))

-- a word that the desk has no part in or that names a file, `spoil` with the cell that it names, or a word of the desk
abbrev pub OfWord : List ℕ → List (List ℕ) → List ℤ → List ℤ → Line → Type 0
OfWord word behind room exit c =
    ((exit ≡ room) × Finds word other_words (λ _. ⊥) c)
    ⊎ (NotIn word other_words × (((word ≡ spoil_word) × ((cell : Cell) × CellOf behind room cell × (c ≡ Spoil cell))) ⊎ ((word ≡ spoil_word → ⊥) × OfDesk word behind room exit c)))

-- a line of no bytes, and one that begins with `#`, the byte 35, are passed over
abbrev pub PassedOver : List ℕ → Type 0
PassedOver [] = Unit {0}
PassedOver (b ∷ line) = b ≡ 35

-- a line that is not passed over is read by its words
abbrev pub ReadAs : List ℕ → List ℤ → List ℤ → Line → Type 0
ReadAs line room exit c = (word : List ℕ) (behind : List (List ℕ)) → words_of line ≡ word ∷ behind → OfWord word behind room exit c

pub record CommandOf (line : List ℕ) (room exit : List ℤ) (c : Line) : Type 0 where
  pub passed : PassedOver line → (exit ≡ room) × (c ≡ Other Nothing)
  pub read : (PassedOver line → ⊥) → ReadAs line room exit c

-- "a line of more than 16,384 bytes gets one `?`", but "a remark may be as long as it likes" (docs/COMMANDS.md)
abbrev pub most_bytes : ℕ
most_bytes = 16384

-- what a line says: one that is passed over nothing, any other that is too long no command
pub record LineSays (line : List ℕ) (room exit : List ℤ) (c : Line) : Type 0 where
  pub passed : PassedOver line → c ≡ Other Nothing
  pub too_long : (PassedOver line → ⊥) → (length line ≤ most_bytes → ⊥) → c ≡ unknown
  pub is_read : length line ≤ most_bytes → CommandOf line room exit c

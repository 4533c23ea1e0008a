-- What a line with a file asks to be loaded: the number that it names, and the corners of some file of its kind, whatever bytes the system handed over.
-- `Requests` is all that is promised of it; the rest says that what is read lies within its room.
use Rattle.std.specs.Prelude.{ℕ, ◌≤◌, ◌<◌, ◌≡◌, List, ◌∷◌, ℤ, pos, length, take, drop, get_or, Some}
use Rattle.limits.specs.Limits
use Rattle.limits.specs.Lowest.{Lowest}
use Rattle.scans_stl.specs.Stl.{numbers_of}
use Rattle.scans_stl_corners.specs.Kept.{kept_of, whole_refusals}
use Rattle.off_number.specs.OffNumber.{InSteps}
use Rattle.off_text.specs.Off.{IsOff, word_at, after_counts}
use Rattle.off_read.specs.Corners.{corner_numbers, off_refusals}
use Rattle.text_number.specs.Numbers.{Reads}
use Rattle.text_words.specs.Words.{words_of}
use Rattle.line.specs.declared.kinds.FileKind.{FileKind}
use Rattle.line.specs.declared.kinds.FileKind.TheVariants.{Stl, Off}
use Rattle.line_file.specs.declared.ShapePath.{ShapePath}
use Rattle.line_file.specs.declared.ShapePath.TheVariants.{At, Bad as NoPath}
use Rattle.line_file.specs.declared.Request.{Request}
use Rattle.line_file.specs.declared.Request.TheVariants.{Load, Refused, Bad}
use Rattle.line_file.specs.declared.Got.{Got}
use Rattle.line_file.specs.declared.Got.TheVariants.{Bytes as GotBytes, Failed}
use Rattle.line_file.specs.declared.File.{File}
use Rattle.line_file.specs.declared.File.TheVariants.{Bytes as FileBytes, Bad as NoFile}

-- "load-stl S PATH", and so for `load-off` and `save-off`: the second word is the number s, and at least one more stands behind it
pub record NamesShape (line : List ℕ) (s : ℤ) : Type 0 where
  pub command : List ℕ
  pub number : List ℕ
  pub path : List (List ℕ)
  pub words : words_of line ≡ command ∷ number ∷ path
  pub some : 1 ≤ length path
  pub reads : Reads number (Some s)

-- the path begins behind the number, within the line
abbrev pub ShapePathOf : List ℕ → ShapePath → Type 0
ShapePathOf line (At s start) = NamesShape line s × (start ≤ length line)
ShapePathOf line NoPath = Unit {0}

-- a scanner's file that the reader takes, in some room, and the numbers of the corners that it keeps
pub record ReadStl (corners : List ℤ) : Type 0 where
  pub file : List ℕ
  pub room : List ℤ
  pub taken : Lowest (whole_refusals file room) Limits.done
  pub kept : corners ≡ numbers_of (kept_of file)

-- an OFF text that the reader takes, in some room, and its corners' numbers in steps, as they come
pub record ReadOff (corners : List ℤ) : Type 0 where
  pub text : List ℕ
  pub room : List ℤ
  pub taken : Lowest (off_refusals text room) Limits.done
  pub layout : IsOff text
  pub long : length corners ≡ corner_numbers text
  pub steps : (k : ℕ) → k < corner_numbers text → InSteps (word_at (after_counts text) k) (get_or corners k (pos 0))

abbrev pub ReadFrom : FileKind → List ℤ → Type 0
ReadFrom Stl corners = ReadStl corners
ReadFrom Off corners = ReadOff corners

-- of the n numbers that stand in the room those behind the first are the corners'
abbrev pub OfFile : FileKind → ℤ → List ℤ → Request → Type 0
OfFile kind shape numbers (Load s n) = (s ≡ shape) × ReadFrom kind (drop 1 (take n numbers))
OfFile kind shape numbers (Refused number) = Unit {0}
OfFile kind shape numbers Bad = Unit {0}

abbrev pub Requests : FileKind → List ℕ → List ℤ → Request → Type 0
Requests kind line numbers (Load s n) = NamesShape line s × ReadFrom kind (drop 1 (take n numbers))
Requests kind line numbers (Refused number) = Unit {0}
Requests kind line numbers Bad = Unit {0}

-- ---- within the room of n bytes
abbrev pub GotWithin : ℕ → Got → Type 0
GotWithin n (GotBytes k) = k ≤ n
GotWithin n Failed = Unit {0}

abbrev pub FileWithin : ℕ → File → Type 0
FileWithin n (FileBytes k) = k ≤ n
FileWithin n NoFile = Unit {0}

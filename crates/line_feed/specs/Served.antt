-- Lines answered one after the other, and an input fed: each line that ends in it is answered, and what is there of the next one is kept.
-- `Feeds` is what is promised of any piece of the input; pieces follow each other by the laws of ServedLaws.antt.
use Rattle.std.specs.Prelude.{ℕ, ◌≤◌, ◌≡◌, List, [], ◌∷◌, map, Bool, ◌⊎◌, ℤ, length, take}
use Rattle.line_input.specs.Input.{bare, lines_of, fed, Holds}
use Rattle.line_answer.specs.Answered.{Kept, Answered}

-- one line, in whatever room of n numbers
pub record Serves (trial : Bool) (n : ℕ) (line : List ℕ) (before after : Kept) : Type 0 where
  pub room : List ℤ
  pub size : length room ≡ n
  pub answered : Answered trial line room before after

pub data Served (trial : Bool) (n : ℕ) : List (List ℕ) → Kept → Kept → Type 0 where
  none : {k : Kept} → Served trial n [] k k
  more : {line : List ℕ} {lines : List (List ℕ)} {before between after : Kept} → Serves trial n line before between → Served trial n lines between after → Served trial n (line ∷ lines) before after

-- some bytes, where `part` is what is there of a line already: the lines that end in them are answered, and what is left is held
pub record Feeds (trial : Bool) (n : ℕ) (part bytes : List ℕ) (before after : Kept) (buffer : List ℕ) (kept : ℕ) : Type 0 where
  pub served : Served trial n (map bare (fed part bytes).ended) before after
  pub holds : Holds buffer kept (fed part bytes).rest

-- a piece, fed up to where the answers could no longer be written: all of it, where the next place lies within the buffer for them
pub record FeedsUpTo (trial : Bool) (n : ℕ) (part bytes : List ℕ) (before after : Kept) (buffer : List ℕ) (kept at room : ℕ) : Type 0 where
  pub taken : ℕ
  pub feeds : Feeds trial n part (take taken bytes) before after buffer kept
  pub whole : at ≤ room → taken ≡ length bytes

-- ---- the whole of a run
-- some bytes, whichever the system handed over
pub record FeedsSome (trial : Bool) (n : ℕ) (part : List ℕ) (before after : Kept) (buffer : List ℕ) (kept : ℕ) : Type 0 where
  pub bytes : List ℕ
  pub feeds : Feeds trial n part bytes before after buffer kept

-- an input, of which every line was answered; or, where the answers could not be written or the input not be read, every line that had ended by then
pub record ServedAll (trial : Bool) (n : ℕ) (before after : Kept) : Type 0 where
  pub input : List ℕ
  pub lines : List (List ℕ)
  pub read : (lines ≡ lines_of input) ⊎ (lines ≡ map bare (fed [] input).ended)
  pub served : Served trial n lines before after

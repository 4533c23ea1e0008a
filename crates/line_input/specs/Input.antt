-- The lines of an input: "A line is ended by byte 10; the last may lack it", and one byte 13 just before a line's end belongs to the end (docs/COMMANDS.md).
-- `lines_of` cuts a whole input; `fed` takes it in pieces, as it arrives, and the laws show that the pieces do not matter.
use Rattle.std.specs.Prelude.{ℕ, ◌≤◌, ◌≡◌, List, [], ◌∷◌, ◌++◌, map, length, take}
use Rattle.std.proofs.Math.Logic.{ite}
use Rattle.std.proofs.Math.Decide.{ℕ_discrete}
use Rattle.text_cut.specs.Cuts.{parts_of}

-- the byte at which an input is cut into its lines, and the one that may stand just before it
abbrev pub end_byte : ℕ
end_byte = 10

abbrev pub return_byte : ℕ
return_byte = 13

-- a line without the one byte 13 that may end it
unfoldable pub bare : List ℕ → List ℕ
unfolding ℕ_discrete
bare [] = []
bare (b ∷ []) = ite (ℕ_discrete b return_byte) [] (b ∷ [])
bare (b ∷ c ∷ s) = b ∷ bare (c ∷ s)

-- the parts of the input; a last part of no bytes is a line of no bytes, which is passed over
abbrev pub lines_of : List ℕ → List (List ℕ)
lines_of input = map bare (parts_of end_byte input)

-- ---- an input as it arrives
-- the parts that have ended, and what is there of the next one
pub record Fed : Type 0 where
  pub ended : List (List ℕ)
  pub rest : List ℕ

-- a part that ended before the others did
abbrev pub ended_first : List ℕ → Fed → Fed
ended_first part f = record { ended = part ∷ f.ended; rest = f.rest }

-- some bytes, where `held` is what is there of a part already
unfoldable pub fed : List ℕ → List ℕ → Fed
unfolding ℕ_discrete
fed held [] = record { ended = []; rest = held }
fed held (b ∷ bytes) = ite (ℕ_discrete b end_byte) (ended_first held (fed [] bytes)) (fed (held ++ b ∷ []) bytes)

-- what was fed, and some bytes more
abbrev pub fed_more : Fed → List ℕ → Fed
fed_more f bytes = record { ended = f.ended ++ (fed f.rest bytes).ended; rest = (fed f.rest bytes).rest }

-- ---- what is kept of a part whose end did not come yet
-- how many bytes a buffer has at least: those of the longest line that is read, its byte 13, and one in which it is seen that a line is longer
abbrev pub held_bytes : ℕ
held_bytes = 16386

-- of the buffer the first `kept` bytes: all of the part, or as many of it as the buffer has room for
pub record Holds (buffer : List ℕ) (kept : ℕ) (part : List ℕ) : Type 0 where
  pub long : held_bytes ≤ length buffer
  pub within : kept ≤ length buffer
  pub bytes : take kept buffer ≡ take (length buffer) part

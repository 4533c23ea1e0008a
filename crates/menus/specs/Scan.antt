-- What a scan of a text finds of line k: its bytes, none where there is no such line, and where it starts, the text's end where there is none.
-- The helpers of src/lib.rt are held to these; ScanLaws turns them into Lines' statements.
use Rattle.std.specs.Prelude.{ℕ, List, [], length, get_or}
use Rattle.std.proofs.Math.Logic.{ite}
use Rattle.std.proofs.Math.Decide.{dec_lt}
use Rattle.text_cut.specs.Cuts.{parts_of, first_part}
use Rattle.menus.specs.Lines.{line_byte, start_in}

-- the lines of a text, the first of them, and line k
abbrev pub lines_of : List ℕ → List (List ℕ)
lines_of = parts_of line_byte

abbrev pub first_line : List ℕ → List ℕ
first_line = first_part line_byte

abbrev pub line_of : List ℕ → ℕ → List ℕ
line_of s k = get_or (lines_of s) k []

unfoldable pub start_of : List ℕ → ℕ → ℕ
unfolding dec_lt start_in
start_of s k = ite (dec_lt k (length (lines_of s))) (start_in (lines_of s) k) (length s)

-- `line_feed::feed` meets its contract. The invariant: what of the piece was taken is fed, and the buffer is the caller's.
use Rattle.std.specs.Prelude.{ℕ, ◌≡◌, List, length, take}
use Rattle.line.specs.Printed.{SameOut}
use Rattle.line_input.specs.Input.{Holds}
use Rattle.line_answer.specs.Answered.{kept_of}
use Rattle.line_feed.specs.Served.{Feeds}
use Rattle.line_feed.proofs.feed.Given as goal

abbrev pub invariant-loop-byte : goal.invariant-loop-byte
invariant-loop-byte o l =
    (length l.numbers ≡ length l.initial.numbers)
    × ((part : List ℕ) → Holds l.initial.held l.initial.kept part
    → Feeds l.mode.trial (length l.initial.numbers) part (take l.byte-index l.piece)
    (kept_of l.initial.shapes l.initial.places l.initial.rows l.initial.book l.initial.marks l.initial.lent)
    (kept_of l.shapes l.places l.rows l.book l.marks l.lent)
    l.held l.kept)
    × SameOut l.initial.out l.out

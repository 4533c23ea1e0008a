-- `mudwicket::serve` meets its contract. The invariant: what was read so far is fed. The measure is the rounds that are left.
use Rattle.std.specs.Prelude.{[], ◌≡◌, length}
use Rattle.line.specs.Printed.{SameOut}
use Rattle.line_answer.specs.Answered.{kept_of}
use Rattle.line_feed.specs.Served.{FeedsSome}
use Rattle.mudwicket.proofs.serve.Given as goal

abbrev pub invariant-loop-rounds : goal.invariant-loop-rounds
invariant-loop-rounds o l =
    FeedsSome l.mode.trial (length l.initial.numbers) []
    (kept_of l.initial.shapes l.initial.places l.initial.rows l.initial.book l.initial.marks l.initial.lent)
    (kept_of l.shapes l.places l.rows l.book l.marks l.lent)
    l.held l.r.kept
    × (length l.input ≡ length l.initial.input)
    × (length l.held ≡ length l.initial.held)
    × (length l.texts ≡ length l.initial.texts)
    × (length l.numbers ≡ length l.initial.numbers)
    × (length l.marks ≡ length l.initial.marks)
    × SameOut l.initial.out l.out

abbrev pub decreases-loop-rounds : goal.decreases-loop-rounds
decreases-loop-rounds o l = l.rounds

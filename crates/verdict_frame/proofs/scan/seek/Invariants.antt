-- `verdict_frame::seek`: every difference before turn k of the scan is level; the loop ends at the first that is not.
use Prim.Native.Nat.{ℕ, ◌<◌}
use Rattle.verdict_frame.specs.Frames.{Level, scanned}
use Rattle.verdict_frame.proofs.scan.seek.Given as goal

abbrev pub invariant-loop-k : goal.invariant-loop-k
invariant-loop-k l = (i : ℕ) → i < l.k → Level l.rows (scanned l.first l.second i)

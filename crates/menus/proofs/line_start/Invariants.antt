-- `menus::line_start` meets its contract. The invariant: line k starts where the line does that is as many lines on from the start so far as are left.
use Prim.Native.Nat.{◌≤◌, ◌+◌, ◌-◌}
use mathlib.Core.Path.{◌≡◌}
use lib.ListN.{length, drop}
use Rattle.menus.specs.Scan.{start_of}
use Rattle.menus.proofs.line_start.Given as goal

abbrev pub invariant-loop-passed : goal.invariant-loop-passed
invariant-loop-passed l = (l.start ≤ length l.text) × (start_of l.text l.k ≡ l.start + start_of (drop l.start l.text) (l.k - l._passed))

-- `verdict_frame::seek`: every difference before turn k of the scan is level; the loop ends at the first that is not.
use mathlib.Core.Path.{sym, subst}
use Prim.Native.Nat.{◌<◌}
use native.Mathlib.Omega.{arith}
use Rattle.space.specs.Verdicts.{corner_count}
use Rattle.verdict_walk.specs.PointLaws.{some_corner}
use Rattle.verdict_frame.specs.Frames.{Level}
use Rattle.verdict_frame.specs.FrameLaws.{left_inside, right_inside, scanned_at, scan_level}
use borrow.Author.Count.{below_more}
use Rattle.verdict_frame.proofs.scan.seek.Goals as goal

pub difference-p-requires-clause-placed : goal.difference-p-requires-clause-placed
difference-p-requires-clause-placed c = c.requires.placed

pub difference-p-requires-clause-i_bound : goal.difference-p-requires-clause-i_bound
difference-p-requires-clause-i_bound c =
    let p = c.requires.placed in
    let k = c.loop-k.k in (
      subst (λ i. i < corner_count c.args.first.now) (sym c.left_at.ensures)
          (left_inside k (corner_count c.args.first.now) (some_corner p.0)),
      subst (λ j. j < corner_count c.args.second.now) (sym c.right_at.ensures)
          (right_inside k (corner_count c.args.first.now) (corner_count c.args.second.now) (some_corner p.1)
          (omega arith)),
    )

pub level-requires : goal.level-requires
level-requires c = (
  c.requires.rows,
  (scanned_at c.requires.placed.0 c.requires.placed.1
      (omega arith) c.left_at.ensures c.right_at.ensures c.difference-p.ensures).near,
)

pub returns-then-not-level : goal.returns-then-not-level
returns-then-not-level c = record {
  tagged = (scanned_at c.requires.placed.0 c.requires.placed.1 (omega arith) c.left_at.ensures c.right_at.ensures c.difference-p.ensures).tagged;
  apart = c.level.ensures.no c.if-not-level.true;
}

pub loop-k-preserved : goal.loop-k-preserved
loop-k-preserved c =
    below_more _ _ c.loop-k.invariant
    (subst (Level c.args.rows)
    (scanned_at c.requires.placed.0 c.requires.placed.1 (omega arith) c.left_at.ensures c.right_at.ensures c.difference-p.ensures).is
    (c.level.ensures.yes c.if-not-level.false))

pub returns : goal.returns
returns c = scan_level c.requires.placed.0 c.requires.placed.1 (λ k h. c.loop-k.invariant k (omega arith))

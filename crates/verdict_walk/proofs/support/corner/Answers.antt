-- `verdict_walk::corner`: three numbers of the list, each near.
use Prim.Native.Nat.{◌*◌, ◌+◌}
use native.Mathlib.Omega.{arith}
use Rattle.ints.specs.Bounds.{k-is}
use Rattle.ints.proofs.Known.{known}
use Rattle.space.specs.Ranges.{made}
use Rattle.space.specs.Verdicts.{corner_at}
use Rattle.verdict_walk.proofs.support.corner.Goals as goal

pub returns : goal.returns
unfolding corner_at
returns c =
    let i = c.args.i in
    let near = c.requires.placed.near in
    made _ (search (known, k-is c.from.ensures, near.all (3 * i) (omega arith)) depth 9)
    (search (known, k-is c.from-2.ensures, near.all (3 * i + 1) (omega arith)) depth 9)
    (search (known, k-is c.from-3.ensures, near.all (3 * i + 2) (omega arith)) depth 9)
    tt

-- `fill` meets its contract: the part that is written is as long as the corners need.
use Prim.Native.Nat.{◌*◌}
use native.Mathlib.Omega.{arith}
use Rattle.std.proofs.Common.{length-take}
use Rattle.off_read.proofs.fill.Goals as goal

pub write-requires : goal.write-requires
write-requires c = λ k l. c.requires k (omega (arith, length-take (3 * c.args.corners) c.args.room.now))

-- `verdict_walk::signed`: the sign is −1 where n is negative, else 1.
use Rattle.ints.proofs.Tests.{lt-true, lt-false, tested}
use Rattle.verdict_walk.specs.PointLaws.{signed_below, signed_above}
use Rattle.ints.specs.Bounds.{fits, worth}
use Rattle.ints.proofs.Known.{known}
use Rattle.verdict_walk.proofs.support.signed.Goals as goal

pub overflow_sub-result : goal.overflow_sub-result
overflow_sub-result c = fits (search known depth 15) tt

pub returns-then-n-lt0 : goal.returns-then-n-lt0
returns-then-n-lt0 c = signed_below (lt-true c.if-n-lt0.true (search tested depth 9) tt) c.requires (worth (search known depth 9) tt)

pub returns-else-n-lt0 : goal.returns-else-n-lt0
returns-else-n-lt0 c = signed_above (lt-false c.if-n-lt0.false (search tested depth 9) tt) c.requires (worth (search known depth 9) tt)

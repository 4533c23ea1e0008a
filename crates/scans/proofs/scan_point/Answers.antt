-- `scan_point` meets its contract: each pattern is read as the float that it was written for.
use mathlib.Core.Path.{subst}
use Rattle.scans.specs.declared.Point.{Point}
use Rattle.scans.specs.Scanned.{scanned_of, PointAs}
use Rattle.scans.proofs.scan_point.Goals as goal

pub returns : goal.returns
returns c =
    subst (λ (p : Point). PointAs p (scanned_of c.scan_patterns.result))
    (λ i. record { x = c.pattern.ensures.read i; y = c.pattern-2.ensures.read i; z = c.pattern-3.ensures.read i }) c.scan_patterns.ensures

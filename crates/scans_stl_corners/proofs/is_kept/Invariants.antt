-- `is_kept` meets its contract. The loop goes back from the last corner; the invariant: those passed are not the one, so that it is among all where it is among the rest.
use Rattle.std.proofs.Common.{◌≡◌}
use Rattle.scans_stl_corners.specs.Holding.{corner_of, corners_held}
use Rattle.scans_stl_corners.specs.Kept.{among}
use Rattle.scans_stl_corners.proofs.is_kept.Given as goal

abbrev pub invariant-loop-i : goal.invariant-loop-i
invariant-loop-i l =
    let corner = corner_of l.corner.x l.corner.y l.corner.z in among corner (corners_held l.kept l.count) ≡ among corner (corners_held l.kept l.i)

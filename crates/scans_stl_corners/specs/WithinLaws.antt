-- What was written of a file stands in the room: three numbers a corner, and no more than the room has.
-- For callers that hand the written part on.
use Rattle.std.specs.Prelude.{ℕ, ◌*◌, ◌≤◌, ◌≡◌, refl, List, [], ◌∷◌, ℤ, length, drop}
use Rattle.std.proofs.Common.{ap, arith, length-append}
use Rattle.scans_stl.specs.Stl.{Corner, numbers_of}
use Rattle.scans_stl_corners.specs.Kept.{RoomFilled}

pub numbers_long : (kept : List Corner) → length (numbers_of kept) ≡ 3 * length kept
numbers_long [] = refl
numbers_long (c ∷ rest) = omega (arith, numbers_long rest)

pub filled_within : (kept : List Corner) (before after : List ℤ) {count : ℕ} → RoomFilled kept before after count → length after ≡ length before → count ≤ length before
filled_within kept before after h e =
    let rest = drop (3 * length kept) before in
    omega (arith, h.counted, numbers_long kept, e, ap length h.room, length-append (numbers_of kept) rest)

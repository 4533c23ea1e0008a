-- The byte of a test, as code adds it up, is what the test counts.
-- It is 1 where the test holds, and else 0.
use mir.Val.{bool_byte}
use Rattle.std.specs.Prelude.{◌≡◌, refl, Bool, true, false}
use Rattle.ints.specs.Counts.{one_if}

pub byte_one : (b : Bool) → bool_byte b ≡ one_if b
byte_one true = refl
byte_one false = refl

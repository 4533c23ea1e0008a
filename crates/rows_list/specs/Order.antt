-- The refusals of a listing stand in rising order: so the first that applies is the lowest number that applies.
-- What follows from it: crate `limits`, LowestLaws.antt.
use Rattle.std.specs.Prelude.{List, ℕ}
use Rattle.limits.specs.Lowest.{Rising}
use Rattle.rows_list.specs.Contacts.{refusals}

pub listing_rise : (rows room : List ℕ) → Rising (refusals rows room)
listing_rise rows room = tt

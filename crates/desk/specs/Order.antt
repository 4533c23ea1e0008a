-- The refusals of each command and question stand in rising order: so the first that applies is the lowest number that applies.
-- What follows from it: crate `limits`, LowestLaws.antt.
use Rattle.std.specs.Prelude.{List, ℕ, ℤ}
use Rattle.limits.specs.Lowest.{Rising}
use Rattle.pieces.specs.declared.placement.Placement.{Placement}
use Rattle.pieces.specs.declared.placement.Offset.{Offset}
use Rattle.desk_state.specs.Desk.{Desk}
use Rattle.desk.specs.Commands.{start_refusals, load_refusals, place_refusals, move_refusals, remove_refusals, gap_refusals, contact_refusals, pair_refusals}

module _ (d : Desk) where
  pub start_rise : Rising (start_refusals d)
  start_rise = tt

  pub load_rise : (shape : ℤ) (numbers : List ℤ) → Rising (load_refusals d shape numbers)
  load_rise shape numbers = tt

  pub place_rise : (place : ℤ) (q : Placement) → Rising (place_refusals d place q)
  place_rise place q = tt

  pub move_rise : (place turn : ℤ) (o : Offset) → Rising (move_refusals d place turn o)
  move_rise place turn o = tt

  pub remove_rise : (place : ℤ) → Rising (remove_refusals d place)
  remove_rise place = tt

  pub gap_rise : (gap : ℤ) → Rising (gap_refusals d gap)
  gap_rise gap = tt

  pub contacts_rise : (room : List ℕ) → Rising (contact_refusals d room)
  contacts_rise room = tt

  pub pair_rise : (first second : ℤ) → Rising (pair_refusals d first second)
  pair_rise first second = tt

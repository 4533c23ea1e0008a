-- `pieces_test::places_in_order`: a place more is empty or in order.
use Rattle.std.proofs.Common.{refl, arith, below_more}
use Rattle.limits.specs.DecidesLaws.{holds, unless_left}
use Rattle.pieces_test.specs.OrderTest.{every_place}
use Rattle.pieces_test.proofs.places_in_order.Goals as goal

pub loop-place-preserved : goal.loop-place-preserved
loop-place-preserved c = below_more _ _ c.loop-place.invariant (unless_left c.place_kept.ensures c.if-not-place_kept.false-raw)

pub returns : goal.returns
returns c = holds refl (every_place (λ p h. c.loop-place.invariant p (omega arith)))

-- `rows_tally::taken_places`: a place more counts one where it is taken.
use Rattle.std.proofs.Common.{◌≡◌, sym, ap, ◌∙◌, arith}
use Rattle.rows.proofs.Bytes.{byte_one}
use Rattle.ints.specs.Counts.{one_if, one_if≤, sum_none, sum_more}
use Rattle.limits.specs.DecidesLaws.{decides_once}
use Rattle.pieces.specs.Pieces.{taken_in}
use Rattle.pieces.specs.Taking.{taken_decided}
use Rattle.rows_tally.specs.Tallies.{one_if_taken}
use Rattle.rows_tally.proofs.taken_places.Goals as goal

pub loop-place-init : goal.loop-place-init
loop-place-init c = record { most = omega arith; is = sym (sum_none (one_if_taken c.args.places.now)) }

pub loop-place-preserved : goal.loop-place-preserved
loop-place-preserved c =
    let places = c.args.places.now in
    let l = c.loop-place in
    let here : c.from-n.result ≡ one_if_taken places l.place =
    c.from-n.ensures ∙ byte_one c.is_taken.result ∙ ap one_if (decides_once c.is_taken.ensures (taken_decided places l.place (omega arith))) in
    record {
      most = omega (arith, here, one_if≤ (taken_in places l.place));
      is = omega (arith, here, l.invariant.is, sum_more l.place (one_if_taken places));
    }

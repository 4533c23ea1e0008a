-- The proof of the table: every starred case of document 01 holds.
-- The verdicts stand in Lists.antt, the listings in Three.antt, the move in Moving.antt, a desk for them in Exhibiting.antt; the answer to a typed text is its reading, computed.
use Rattle.std.proofs.Math.Decide.{dec_le, ℕ_discrete}
use Rattle.std.proofs.Common.{arith}
use Rattle.text_digits.specs.Decimal.{number}
use Rattle.text_digits.specs.DecimalLaws.{both, digit?, digits?, leading}
use Rattle.typed.specs.Reading.{separator?, few?, judged, after_separator, after_whole, reading}
use Rattle.typed.specs.ReadingLaws.{reading_answers}
use Rattle.pieces.specs.Pieces.{least_to, greatest_to}
use Rattle.bench.specs.Table.{Starred}
use Rattle.bench.specs.Holding.{not_apart}
use Rattle.bench.proofs.Lists as lists
use Rattle.bench.specs.Two.{mixed, apart}
use Rattle.bench.proofs.Three.{listing, move_listing}
use Rattle.bench.proofs.Moving.{move_holds, move_count}
use Rattle.bench.proofs.Exhibiting.{three_stand}

pub starred : Starred
unfolding least_to greatest_to reading leading number few? after_whole separator? judged after_separator both digits? digit? dec_le ℕ_discrete
starred = record {
  boxes-64 = mixed (record { test = tt; right = lists.boxes-64 }) tt;
  boxes-63 = mixed (record { test = tt; right = lists.boxes-63 }) tt;
  boxes-65 = apart (record { test = tt; right = lists.boxes-65 }) 0 (omega arith) tt;
  corner_on_face = mixed (record { test = tt; right = lists.corner_on_face }) tt;
  corner_inside = mixed (record { test = tt; right = lists.corner_inside }) tt;
  corner_outside = mixed (record { test = tt; right = lists.corner_outside }) tt;
  corner_overlap = λ d p q h k. not_apart h k tt;
  corner_by = lists.corner_by;
  points = mixed (record { test = tt; right = lists.points }) tt;
  segments = mixed (record { test = tt; right = lists.segments }) tt;
  segments_raised = apart (record { test = tt; right = lists.segments_raised }) 2 (omega arith) tt;
  listing = listing;
  move_holds = move_holds;
  move_count = move_count;
  move_listing = move_listing;
  there_is = three_stand;
  typed_comma = reading_answers _;
  typed_point = reading_answers _;
  typed_rounded_up = reading_answers _;
  typed_grouped = reading_answers _;
  typed_no_part = reading_answers _;
  typed_no_whole = reading_answers _;
  typed_empty = reading_answers _;
  typed_five = reading_answers _;
}

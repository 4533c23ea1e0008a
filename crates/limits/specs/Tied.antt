-- The numbers of Limits as the records that src/lib.rt makes of its own: where the two files differ, the `tied_` function is refused.
-- Nothing else cites this file.
use Rattle.std.specs.Prelude.{[], ◌∷◌, pos}
use Rattle.limits.specs.Limits
use Rattle.limits.specs.declared.Sizes.{Sizes}
use Rattle.limits.specs.declared.Verdicts.{Verdicts}
use Rattle.limits.specs.declared.Ranges.{Ranges}
use Rattle.limits.specs.declared.Refusals.{Refusals}

abbrev pub the_sizes : Sizes
the_sizes = record {
  shapes = Limits.shapes;
  corners = Limits.corners;
  places = Limits.places;
  turns = Limits.turns;
  shape_numbers = Limits.shape_numbers;
  shape_cells = Limits.shape_cells;
  shapes_length = Limits.shapes_length;
  place_cells = Limits.place_cells;
  places_length = Limits.places_length;
  rows = Limits.rows;
  axis_marks = Limits.axis_marks;
  marks = Limits.marks;
  book = Limits.book;
  tallies = Limits.tallies;
  gap_cell = Limits.gap_cell;
  no_row = Limits.no_row;
  no_mark = Limits.no_mark;
}

abbrev pub the_verdicts : Verdicts
the_verdicts = record {
  apart = Limits.apart;
  separate = Limits.separate;
  touching = Limits.touching;
  penetrating = Limits.penetrating;
}

abbrev pub the_ranges : Ranges
the_ranges = record {
  steps = pos Limits.steps;
  shape_reach = pos Limits.shape_reach;
  placed_reach = pos Limits.placed_reach;
  gap_most = pos Limits.gap_most;
  whole_digits = Limits.whole_digits;
  part_digits = Limits.part_digits;
  most_hundredths = Limits.most_hundredths;
  off_digits = Limits.off_digits;
}

abbrev pub the_refusals : Refusals
the_refusals = record {
  desk =
      Limits.done ∷ Limits.disorder ∷ Limits.shape_number ∷ Limits.list_length ∷ Limits.corner_range ∷ Limits.shape_loaded ∷ Limits.shape_missing
      ∷ Limits.place_number ∷ Limits.place_taken ∷ Limits.place_empty ∷ Limits.turn_number ∷ Limits.offset_range ∷ Limits.same_place ∷ Limits.short_room ∷ [];
  text = Limits.length_form ∷ Limits.length_range ∷ Limits.not_finite ∷ Limits.not_whole ∷ Limits.float_range ∷ Limits.size_zero ∷ Limits.placed_range ∷ [];
  requests = Limits.file_length ∷ Limits.count_zero ∷ Limits.many_corners ∷ Limits.gap_refused ∷ Limits.comma_refused ∷ Limits.bad_text ∷ [];
}

-- The refusals by name, each with its number of document 01 ("When the desk says no") or of the request that adds it, and the number of an answer.
-- "For any answer that is an enum, a definition gives this paper's number and values for each case."
use Rattle.std.specs.Prelude.{ℕ, Result, Ok, Err}
use Rattle.limits.specs.Limits
use Rattle.limits.specs.declared.Refusal.{Refusal}
use Rattle.limits.specs.declared.Refusal.TheVariants.{Disorder, ShapeNumber, ListLength, CornerRange, ShapeLoaded, ShapeMissing, PlaceNumber, PlaceTaken, PlaceEmpty, TurnNumber, OffsetRange, SamePlace, ShortRoom, LengthForm, LengthRange, NotFinite, NotWhole, FloatRange, SizeZero, PlacedRange, FileLength, CountZero, ManyCorners, GapRefused, CommaRefused, BadText}

abbrev pub number_of : Refusal → ℕ
number_of Disorder = Limits.disorder
number_of ShapeNumber = Limits.shape_number
number_of ListLength = Limits.list_length
number_of CornerRange = Limits.corner_range
number_of ShapeLoaded = Limits.shape_loaded
number_of ShapeMissing = Limits.shape_missing
number_of PlaceNumber = Limits.place_number
number_of PlaceTaken = Limits.place_taken
number_of PlaceEmpty = Limits.place_empty
number_of TurnNumber = Limits.turn_number
number_of OffsetRange = Limits.offset_range
number_of SamePlace = Limits.same_place
number_of ShortRoom = Limits.short_room
number_of LengthForm = Limits.length_form
number_of LengthRange = Limits.length_range
number_of NotFinite = Limits.not_finite
number_of NotWhole = Limits.not_whole
number_of FloatRange = Limits.float_range
number_of SizeZero = Limits.size_zero
number_of PlacedRange = Limits.placed_range
number_of FileLength = Limits.file_length
number_of CountZero = Limits.count_zero
number_of ManyCorners = Limits.many_corners
number_of GapRefused = Limits.gap_refused
number_of CommaRefused = Limits.comma_refused
number_of BadText = Limits.bad_text

-- "0 is done": the number of an answer that is a value or a refusal
abbrev pub answer_number : {A : Type 0} → Result A Refusal → ℕ
answer_number (Ok x) = Limits.done
answer_number (Err r) = number_of r

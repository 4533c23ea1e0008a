-- The numbers of document 01 that contracts cite, once. src/lib.rt has the same ones for code, and its `tied_` functions tie them together.
-- A request that changes a number changes it here and there, and nowhere else.
--
--   what                     document 01             since W4
--   places                   "0 to 63"               128: 0 to 127, and refusal 7 for any other
--   corners of a shape       "1 to 32"               1 to 64, and refusal 3 for any other
--   marks                    "384", "128 an axis"    768, 256 an axis
--   parts of the marks       "at 128 and 256"        start at 256 and 512
--   a move's count at most   "756"                   1,524
--
-- Only places and corners are written out; the rest is worked out of them, and Kiln holds it to this table.
use Rattle.std.specs.Prelude.{ℕ, ◌+◌, ◌*◌, ◌-◌}

-- "Shapes are numbered 0 to 31."
abbrev pub shapes : ℕ
shapes = 32

-- "A shape is a list of 1 to 32 corner points"; W4: "corners per shape to 64"
abbrev pub corners : ℕ
corners = 64

-- "Places are numbered 0 to 63."; W4: "Raise places to 128"
abbrev pub places : ℕ
places = 128

-- "a turn 0 to 23"
abbrev pub turns : ℕ
turns = 24

-- the lengths of the lent buffers: a shape has its count of corners, then three numbers for each of the most corners that it may have
abbrev pub shape_numbers : ℕ
shape_numbers = 3 * corners

abbrev pub shape_cells : ℕ
shape_cells = 1 + shape_numbers

abbrev pub shapes_length : ℕ
shapes_length = shapes * shape_cells

-- a place has its shape plus one, or 0 where it is empty, its turn, and the three numbers of its offset
abbrev pub place_cells : ℕ
place_cells = 5

abbrev pub places_length : ℕ
places_length = places * place_cells

abbrev pub rows : ℕ
rows = places * places

-- "one lent buffer of 384 16-bit numbers, 128 an axis"; W4: "The marks buffer becomes 768 numbers"
abbrev pub axis_marks : ℕ
axis_marks = 2 * places

abbrev pub marks : ℕ
marks = 3 * axis_marks

-- the two marks of the moved piece against the two of each other piece, on three axes: "It is at most 756."; W4: "the move count's limit becomes 1,524"
abbrev pub move_most : ℕ
move_most = 12 * (places - 1)

abbrev pub book : ℕ
book = 16

abbrev pub tallies : ℕ
tallies = 4

-- the book's cells: the tallies from 0 on (4 is kept for one more), and the gap (W6). 9 and 10 are kept; every other cell is 0
abbrev pub gap_cell : ℕ
gap_cell = 8

-- what stands in a row of no pair; "The unused tail of a part holds 65,535."
abbrev pub no_row : ℕ
no_row = 255

abbrev pub no_mark : ℕ
no_mark = 65535

-- "Each pair of taken places has a verdict: 0 apart by boxes, 1 separate, 2 touching, 3 penetrating."
abbrev pub apart : ℕ
apart = 0

abbrev pub separate : ℕ
separate = 1

abbrev pub touching : ℕ
touching = 2

abbrev pub penetrating : ℕ
penetrating = 3

-- "All geometry is in whole steps, 64 to the millimetre." "each from −65,536 to 65,536" "within ±131,072"
abbrev pub steps : ℕ
steps = 64

abbrev pub shape_reach : ℕ
shape_reach = 65536

abbrev pub placed_reach : ℕ
placed_reach = 131072

-- W6: "a gap g of 0 to 4,096 steps"
abbrev pub gap_most : ℕ
gap_most = 4096

-- witnesses: "components within 2^39 in size"; "whole weights from 1 to 2^57". W6 lets a direction grow to 2^40 where there is a gap; the walk's stay within 2^39 at
-- every gap, so one limit serves. Nothing in code compares with these: the walk's own numbers stay below them
abbrev pub direction_reach : ℕ
direction_reach = 549755813888

abbrev pub weight_most : ℕ
weight_most = 144115188075855872

-- "1 to 4 digits, then nothing, or one comma or point and 1 or 2 digits"; "The value in hundredths of a millimetre is at most 102,400"
abbrev pub whole_digits : ℕ
whole_digits = 4

abbrev pub part_digits : ℕ
part_digits = 2

abbrev pub most_hundredths : ℕ
most_hundredths = 102400

-- "When the desk says no": 0 is done, and each refusal has its number
abbrev pub done : ℕ
done = 0

abbrev pub disorder : ℕ
disorder = 1

abbrev pub shape_number : ℕ
shape_number = 2

abbrev pub list_length : ℕ
list_length = 3

abbrev pub corner_range : ℕ
corner_range = 4

abbrev pub shape_loaded : ℕ
shape_loaded = 5

abbrev pub shape_missing : ℕ
shape_missing = 6

abbrev pub place_number : ℕ
place_number = 7

abbrev pub place_taken : ℕ
place_taken = 8

abbrev pub place_empty : ℕ
place_empty = 9

abbrev pub turn_number : ℕ
turn_number = 10

abbrev pub offset_range : ℕ
offset_range = 11

abbrev pub same_place : ℕ
same_place = 12

abbrev pub short_room : ℕ
short_room = 13

abbrev pub length_form : ℕ
length_form = 14

abbrev pub length_range : ℕ
length_range = 15

abbrev pub not_finite : ℕ
not_finite = 16

abbrev pub not_whole : ℕ
not_whole = 17

abbrev pub float_range : ℕ
float_range = 18

abbrev pub size_zero : ℕ
size_zero = 19

abbrev pub placed_range : ℕ
placed_range = 20

-- what requests add (document 02). W2: "New refusals, after 01's: 21 length under 84 or not exactly 84 + 50 × count; 22 count zero; 23 more distinct
-- corners than a shape may have." Its order is its own, "21, 22, the lowest of 16 to 18 over all corners, 23, then 13 for short room": "a request's own
-- order replaces the lowest number". So its lists of refusals stand in that order, and are not among those that rise
abbrev pub file_length : ℕ
file_length = 21

abbrev pub count_zero : ℕ
count_zero = 22

abbrev pub many_corners : ℕ
many_corners = 23

-- W6: "Refusal 24: gap out of range, or set while a place is taken."
abbrev pub gap_refused : ℕ
gap_refused = 24

-- W7 (document 02): "Numbers are an optional minus, one or more digits, and optionally a point and 1 to 6 digits; a comma is refused by name (25), other bad
-- text is 26"; its order is its own too: "25 is tested first over all text outside comments, then 26, 17, 18, 22, 23, and 13 for short room"
abbrev pub comma_refused : ℕ
comma_refused = 25

abbrev pub bad_text : ℕ
bad_text = 26

abbrev pub off_digits : ℕ
off_digits = 6

-- THE STARRED TABLE: each case that document 01, "Bench pieces", marks with * is one field of `Starred`, stated by the definitions of the crates below, as document 02 amends it.
-- To be read beside the document; the proof is `starred` in Starred.antt. Verdicts: 1 separate, 2 touching, 3 penetrating; a row may also be 0, apart by boxes. The gap is 0 (W6).
use Rattle.std.specs.Prelude.{◌≡◌, List, [], ◌∷◌, ◌++◌, ℕ, ◌+◌, ◌*◌, ◌<◌, ℤ, pos, negsuc, ◌+ℤ◌, length, get_or}
use Rattle.space.specs.Verdicts.{Below, VerdictIs, separate, touching, penetrating}
use Rattle.typed.specs.TypedLength.{Steps, Refused, LengthAnswers}
use Rattle.verdict.specs.Answers as pair
use Rattle.verdict.specs.Answers.{Answer}
use Rattle.blanks.specs.Blanks.{corner, box_corners, piece_corners}
use Rattle.marks.specs.Marks.{changed_marks}
use Rattle.rows.specs.Rows.{PairOf, row_at, RowsInOrder}
use Rattle.rows_list.specs.Contacts.{contacts}
use Rattle.pieces.specs.declared.placement.Placement.{Placement}
use Rattle.pieces.specs.declared.placement.Offset.{Offset}
use Rattle.pieces.specs.Pieces.{Store, Sized, Taken, count_at, shape_at, shape_value, turn_at, offset_at, axes_of}
use Rattle.pieces.specs.Boxes.{Apart}
use Rattle.desk_state.specs.Desk.{put_at}
use Rattle.rows_right.specs.Right.{RowRight}
use Rattle.desk.specs.Commands.{moved_to}

-- ---- the pieces
-- "B is the box 64, 64, 64 steps; T the corner piece 64, 64, 64; P a single point at (0,0,0)."
abbrev pub B : List ℤ
B = box_corners (pos 64) (pos 64) (pos 64)

abbrev pub T : List ℤ
T = piece_corners (pos 64) (pos 64) (pos 64)

abbrev pub P : List ℤ
P = corner (pos 0) (pos 0) (pos 0)

-- "Segments (±10,0,0) and (0,±10,0)"; −10 is `negsuc 9`
abbrev pub along_x : List ℤ
along_x = corner (pos 10) (pos 0) (pos 0) ++ corner (negsuc 9) (pos 0) (pos 0)

abbrev pub along_y : List ℤ
along_y = corner (pos 0) (pos 10) (pos 0) ++ corner (pos 0) (negsuc 9) (pos 0)

-- "B at (64,0,0)" as a list of placed corners: the offset is added to each corner, and nothing is turned
abbrev pub placed : List ℤ → ℕ → ℕ → ℕ → List ℤ
placed [] x y z = []
placed (a ∷ []) x y z = []
placed (a ∷ b ∷ []) x y z = []
placed (a ∷ b ∷ c ∷ corners) x y z = corner (a +ℤ pos x) (b +ℤ pos y) (c +ℤ pos z) ++ placed corners x y z

-- "B at (64,0,0)" on a desk: place p holds a shape with these corners, in turn 0, at the offset x, y, z
pub record Holds (d : Store) (p : ℕ) (shape : List ℤ) (x y z : ℕ) : Type 0 where
  pub taken : Taken d.places p
  pub count : 3 * count_at d p ≡ length shape
  pub corners : (k : ℕ) → k < length shape → shape_value d (shape_at d p) k ≡ get_or shape k (pos 0)
  pub turn : turn_at d p ≡ 0
  pub offset_x : offset_at d p 0 ≡ pos x
  pub offset_y : offset_at d p 1 ≡ pos y
  pub offset_z : offset_at d p 2 ≡ pos z

-- ---- what the table says of two pieces
-- the first at 0, the second at (x, y, z): `verdict` is the right one of the two lists and the one that the pair question answers; `row`
-- is the right one of two places of any desk that hold them, and there is such a desk
pub record Between (first second : List ℤ) (x y z : ℕ) (verdict row : ℕ) : Type 0 where
  pub lists : VerdictIs 0 (placed first 0 0 0) (placed second x y z) verdict
  pub answers : (r : Answer) → pair.Answers (pos 0) (placed first 0 0 0) (placed second x y z) r → (r.number ≡ 0) × (r.verdict ≡ verdict)
  pub desks : (d : Store) (p q : ℕ) → Holds d p first 0 0 0 → Holds d q second x y z → RowRight 0 d p q row
  pub there_is : (d : Store) × Sized d × Holds d 0 first 0 0 0 × Holds d 1 second x y z

-- ---- what it says of three
-- "Places 0, 1, 2 hold B at x = 0, 64, 32", and no other place is taken
pub record HoldsThree (d : Store) (x0 x1 x2 : ℕ) : Type 0 where
  pub place-0 : Holds d 0 B x0 0 0
  pub place-1 : Holds d 1 B x1 0 0
  pub place-2 : Holds d 2 B x2 0 0
  pub others : (p : ℕ) → Taken d.places p → p < 3

-- a shape in turn 0 at an offset
abbrev pub upright : ℤ → ℕ → ℕ → ℕ → Placement
upright shape x y z = record { shape = shape; turn = pos 0; x = pos x; y = pos y; z = pos z }

-- "Move place 2 to x = 128": it keeps its shape and its turn
abbrev pub new_offset : Offset
new_offset = record { x = pos 128; y = pos 0; z = pos 0 }

abbrev pub moved : Store → Store
moved d = put_at d 2 (moved_to d.places 2 (pos 0) new_offset)

-- the rows are those of a desk in order, and each is the right one
pub record RightRows (d : Store) (rows : List ℕ) : Type 0 where
  pub order : RowsInOrder d.places rows
  pub right : (low high : ℕ) → PairOf d.places low high → RowRight 0 d low high (row_at rows low high)

-- ---- typed text: the bytes of a digit, a comma and a point
abbrev pub digit : ℕ → ℕ
digit n = 48 + n

abbrev pub comma : ℕ
comma = 44

abbrev pub point : ℕ
point = 46

-- ---- the table
pub record Starred : Type 0 where
  -- "B at 0, B at (64,0,0): touching. At (63,0,0): penetrating. At (65,0,0): row 0, verdict separate."
  pub boxes-64 : Between B B 64 0 0 touching touching
  pub boxes-63 : Between B B 63 0 0 penetrating penetrating
  pub boxes-65 : Between B B 65 0 0 separate 0
  -- "T at 0, P at (22,21,21): touching. At (21,21,21): penetrating. At (22,21,22): separate by (1,1,1), though the boxes overlap."
  pub corner_on_face : Between T P 22 21 21 touching touching
  pub corner_inside : Between T P 21 21 21 penetrating penetrating
  pub corner_outside : Between T P 22 21 22 separate separate
  pub corner_overlap : (d : Store) (p q : ℕ) → Holds d p T 0 0 0 → Holds d q P 22 21 22 → Apart 0 d p q → ⊥
  pub corner_by : Below (record { x = pos 1; y = pos 1; z = pos 1 }) 0 (placed T 0 0 0) (placed P 22 21 22)
  -- Document 01: "P on P: touching."; W5 amends it: "01's P on P and the crossed segments at z = 0 become penetrating; every other case stays."
  pub points : Between P P 0 0 0 penetrating penetrating
  -- Document 01: "Segments (±10,0,0) and (0,±10,0): touching; the second raised to z = 1: separate.", amended likewise. Raised, its box is apart along z
  pub segments : Between along_x along_y 0 0 0 penetrating penetrating
  pub segments_raised : Between along_x along_y 0 0 1 separate 0
  -- "Places 0, 1, 2 hold B at x = 0, 64, 32. The whole listing is 0 1 2, 0 2 3, 1 2 3 (nine bytes)."
  pub listing : (d : Store) (rows : List ℕ) → HoldsThree d 0 64 32 → RightRows d rows → contacts rows ≡ 0 ∷ 1 ∷ 2 ∷ 0 ∷ 2 ∷ 3 ∷ 1 ∷ 2 ∷ 3 ∷ []
  -- "Move place 2 to x = 128: count 3, listing 0 1 2, 1 2 2."
  pub move_holds : (d : Store) → Sized d → HoldsThree d 0 64 32 → HoldsThree (moved d) 0 64 128
  pub move_count : (d : Store) → Sized d → HoldsThree d 0 64 32 → changed_marks (axes_of d) (axes_of (moved d)) 2 ≡ 3
  pub move_listing : (d : Store) (rows : List ℕ) → HoldsThree d 0 64 128 → RightRows d rows → contacts rows ≡ 0 ∷ 1 ∷ 2 ∷ 1 ∷ 2 ∷ 2 ∷ []
  -- there is such a desk, and there are right rows before and after the move
  pub there_is : (d : Store) × Sized d × HoldsThree d 0 64 32 × ((rows : List ℕ) × RightRows d rows) × ((rows : List ℕ) × RightRows (moved d) rows)
  -- "Typed 1,5 and 1.5: 96." "0,1: 7." "1.500, "1,", ",5", empty, 00001: refusal 14."
  pub typed_comma : LengthAnswers (digit 1 ∷ comma ∷ digit 5 ∷ []) (Steps 96)
  pub typed_point : LengthAnswers (digit 1 ∷ point ∷ digit 5 ∷ []) (Steps 96)
  pub typed_rounded_up : LengthAnswers (digit 0 ∷ comma ∷ digit 1 ∷ []) (Steps 7)
  pub typed_grouped : LengthAnswers (digit 1 ∷ point ∷ digit 5 ∷ digit 0 ∷ digit 0 ∷ []) (Refused 14)
  pub typed_no_part : LengthAnswers (digit 1 ∷ comma ∷ []) (Refused 14)
  pub typed_no_whole : LengthAnswers (comma ∷ digit 5 ∷ []) (Refused 14)
  pub typed_empty : LengthAnswers [] (Refused 14)
  pub typed_five : LengthAnswers (digit 0 ∷ digit 0 ∷ digit 0 ∷ digit 0 ∷ digit 1 ∷ []) (Refused 14)

-- What the desk holds, but for marks and rows: the shapes, the places, and the placed corners of a piece with its ends on each axis.
-- Document 01, "What the desk holds". Shape s has its count, then its numbers, at s × 193; place p its shape plus one, its turn and its offset at 5p.
use Rattle.std.specs.Prelude.{◌≡◌, List, [], ◌∷◌, ◌++◌, Bool, not, cond, ℕ, zero, suc, ◌+◌, ◌-◌, ◌*◌, ◌/◌, ◌%◌, ◌<◌, eqb, length, get_or, set, ℤ, pos, nat_abs, ◌+ℤ◌}
use Rattle.std.proofs.lemmas.List.Edits.{sets}
use Rattle.std.specs.Int.Signed.{lt_z}
use Rattle.ints.specs.Bounds.{Within}
use Rattle.limits.specs.Limits
use Rattle.limits.specs.Numbered.{Numbered}
use Rattle.turns.specs.Turns.{placed_at}
use Rattle.marks.specs.Marks.{Axes}
use Rattle.pieces.specs.declared.placement.Placement.{Placement}

-- the two lent arrays of which a piece is made
pub record Store : Type 0 where
  pub shapes : List ℤ
  pub places : List ℤ

-- how many corners a shape has, as its first cell says; 0 where it is not loaded
abbrev pub count_in : List ℤ → ℕ → ℤ
count_in shapes s = get_or shapes (s * Limits.shape_cells) (pos 0)

abbrev pub corners_of : Store → ℕ → ℕ
corners_of d s = nat_abs (count_in d.shapes s)

-- "Shapes are numbered 0 to 31."
pub record Loaded (d : Store) (s : ℕ) : Type 0 where
  pub shape : s < Limits.shapes
  pub some : corners_of d s ≡ 0 → ⊥

-- number k of a shape: corner k / 3, coordinate k % 3
abbrev pub shape_value : Store → ℕ → ℕ → ℤ
shape_value d s k = get_or d.shapes (s * Limits.shape_cells + 1 + k) (pos 0)

-- "A shape is a list of 1 to 32 corner points, three numbers each from −65,536 to 65,536"; 1 to 64 since W4. One that is not loaded has none
pub record ShapesInOrder (d : Store) : Type 0 where
  pub few : (s : ℕ) → s < Limits.shapes → Numbered (Limits.corners + 1) (count_in d.shapes s)
  pub near : (s k : ℕ) → s < Limits.shapes → k < 3 * corners_of d s → Within Limits.shape_reach (shape_value d s k)

-- what stands at a place: its shape plus one, or 0; its turn; its offset
abbrev pub held_in : List ℤ → ℕ → ℤ
held_in places p = get_or places (Limits.place_cells * p) (pos 0)

abbrev pub turn_in : List ℤ → ℕ → ℤ
turn_in places p = get_or places (Limits.place_cells * p + 1) (pos 0)

-- "Places are numbered 0 to 63", to 127 since W4. "A taken place holds a shape number": p is such a place, and holds one
pub record Taken (places : List ℤ) (p : ℕ) : Type 0 where
  pub place : p < Limits.places
  pub holds : nat_abs (held_in places p) ≡ 0 → ⊥

-- "every other shape and place stays": but for p, the places hold the shapes that they held
pub record OthersStay (p : ℕ) (before after : List ℤ) : Type 0 where
  pub same : (q : ℕ) → q < Limits.places → (q ≡ p → ⊥) → nat_abs (held_in after q) ≡ nat_abs (held_in before q)

-- "A taken place holds a shape number, a turn 0 to 23 and an offset of three numbers"
abbrev pub shape_at : Store → ℕ → ℕ
shape_at d p = nat_abs (held_in d.places p) - 1

abbrev pub turn_at : Store → ℕ → ℕ
turn_at d p = nat_abs (turn_in d.places p)

abbrev pub offset_at : Store → ℕ → ℕ → ℤ
offset_at d p axis = get_or d.places (Limits.place_cells * p + 2 + axis) (pos 0)

-- "each −65,536 to 65,536"; "every taken place names a loaded shape"
pub record PlaceInOrder (d : Store) (p : ℕ) : Type 0 where
  pub shape : Numbered (Limits.shapes + 1) (held_in d.places p)
  pub loaded : Loaded d (shape_at d p)
  pub turn : Numbered Limits.turns (turn_in d.places p)
  pub offset : (axis : ℕ) → axis < 3 → Within Limits.shape_reach (offset_at d p axis)

pub record PlacesInOrder (d : Store) : Type 0 where
  pub all : (p : ℕ) → Taken d.places p → PlaceInOrder d p

-- "A placed corner is the turned corner plus the offset": coordinate `axis` of corner i of the piece at p
abbrev pub count_at : Store → ℕ → ℕ
count_at d p = corners_of d (shape_at d p)

unfoldable pub placed_corner : Store → ℕ → ℕ → ℕ → ℤ
placed_corner d p i axis =
    placed_at (turn_at d p) axis (shape_value d (shape_at d p) (3 * i)) (shape_value d (shape_at d p) (3 * i + 1)) (shape_value d (shape_at d p) (3 * i + 2)) (offset_at d p axis)

-- the first n values of f, one after the other
unfoldable pub list_to : {A : Type 0} → ℕ → (ℕ → A) → List A
list_to zero f = []
list_to (suc n) f = list_to n f ++ (f n ∷ [])

-- the piece at p: its placed corners, three numbers each
abbrev pub piece_at : Store → ℕ → List ℤ
piece_at d p = list_to (3 * count_at d p) (λ k. placed_corner d p (k / 3) (k % 3))

-- "a low mark and a high mark, the least and greatest placed corner"
abbrev pub lesser : ℤ → ℤ → ℤ
lesser a b = cond (lt_z a b) a b

abbrev pub greater : ℤ → ℤ → ℤ
greater a b = cond (lt_z b a) a b

unfoldable pub least_to : ℕ → (ℕ → ℤ) → ℤ
least_to zero f = pos 0
least_to (suc zero) f = f 0
least_to (suc (suc n)) f = lesser (f (suc n)) (least_to (suc n) f)

unfoldable pub greatest_to : ℕ → (ℕ → ℤ) → ℤ
greatest_to zero f = pos 0
greatest_to (suc zero) f = f 0
greatest_to (suc (suc n)) f = greater (f (suc n)) (greatest_to (suc n) f)

abbrev pub low_at : Store → ℕ → ℕ → ℤ
low_at d axis p = least_to (count_at d p) (λ i. placed_corner d p i axis)

abbrev pub high_at : Store → ℕ → ℕ → ℤ
high_at d axis p = greatest_to (count_at d p) (λ i. placed_corner d p i axis)

-- which places are taken, and their ends on the three axes
abbrev pub taken_in : List ℤ → ℕ → Bool
taken_in places p = not (eqb (nat_abs (held_in places p)) 0)

abbrev pub taken_at : Store → ℕ → Bool
taken_at d p = taken_in d.places p

abbrev pub axes_of : Store → Axes
axes_of d = record { taken = taken_at d; low = low_at d; high = high_at d }

-- the lengths that the arrays' types give
pub record Sized (d : Store) : Type 0 where
  pub shapes : length d.shapes ≡ Limits.shapes_length
  pub places : length d.places ≡ Limits.places_length

-- the two arrays as a store
abbrev pub store_of : List ℤ → List ℤ → Store
store_of shapes places = record { shapes = shapes; places = places }

-- shapes and places "keep the ranges above"
pub record PiecesInOrder (d : Store) : Type 0 where
  pub shapes : ShapesInOrder d
  pub places : PlacesInOrder d

-- ---- what is stored
-- "A taken place holds a shape number, a turn 0 to 23 and an offset of three numbers": place p holds this placement
abbrev pub put_in : List ℤ → ℕ → Placement → List ℤ
put_in places p q = sets places (Limits.place_cells * p) ((q.shape +ℤ pos 1) ∷ q.turn ∷ q.x ∷ q.y ∷ q.z ∷ [])

-- place p is empty
abbrev pub emptied_in : List ℤ → ℕ → List ℤ
emptied_in places p = set places (Limits.place_cells * p) (pos 0)

-- shape s has these numbers, three a corner
abbrev pub loaded_in : List ℤ → ℕ → List ℤ → List ℤ
loaded_in shapes s numbers = sets shapes (s * Limits.shape_cells) (pos (length numbers / 3) ∷ numbers)

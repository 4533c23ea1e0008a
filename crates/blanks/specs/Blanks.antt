-- Blanks (document 01, "Lengths that arrive as text or as floats"): "A blank is a box, a wedge or a corner piece, each carrying width, depth and height
-- as 32-bit floats", its corners in order, and what writing them to lent room may answer and leave there.
use Rattle.std.specs.Prelude.{ℕ, ◌<◌, ◌≡◌, List, [], ◌∷◌, ◌++◌, ℤ, pos, ◌≤ℤ◌, length, drop, Float, Result, Ok, Err}
use Rattle.std.specs.Float.{nan, inf, fin}
use Rattle.limits.specs.Limits
use Rattle.limits.specs.Lowest.{Rule, Lowest, ◌when◌}
use Rattle.limits.specs.Refusals.{number_of}
use Rattle.limits.specs.declared.Refusal.{Refusal}
use Rattle.scans.specs.Floats.{with_sign, InSteps, NotFinite, NotWhole, Beyond}
use Rattle.scans.specs.Scanned.{One}
use Rattle.scans.specs.declared.Point.{Point}
use Rattle.blanks.specs.declared.Blank.{Blank}
use Rattle.blanks.specs.declared.Blank.TheVariants.{Box, Wedge, Corner}

-- "width, depth and height": the sizes along x, y and z
abbrev pub sizes : Blank → Point
sizes (Box w d h) = record { x = w; y = d; z = h }
sizes (Wedge w d h) = record { x = w; y = d; z = h }
sizes (Corner w d h) = record { x = w; y = d; z = h }

-- ---- the corners, three numbers each
abbrev pub zero : ℤ
zero = pos 0

abbrev pub corner : ℤ → ℤ → ℤ → List ℤ
corner x y z = x ∷ y ∷ z ∷ []

-- what f says of each number of a list, in the list's order
abbrev pub all : List ℤ → (ℤ → List ℤ) → List ℤ
all [] f = []
all (v ∷ rest) f = f v ++ all rest f

-- "box, all of x in {0, w}, y in {0, d}, z in {0, h} with z running fastest"
abbrev pub box_corners : ℤ → ℤ → ℤ → List ℤ
box_corners w d h = all (zero ∷ w ∷ []) (λ x. all (zero ∷ d ∷ []) (λ y. all (zero ∷ h ∷ []) (λ z. corner x y z)))

-- "wedge (0,0,0), (w,0,0), (0,0,h), then the same three with y = d"
abbrev pub wedge_corners : ℤ → ℤ → ℤ → List ℤ
wedge_corners w d h = all (zero ∷ d ∷ []) (λ y. corner zero y zero ++ corner w y zero ++ corner zero y h)

-- "corner piece (0,0,0), (w,0,0), (0,d,0), (0,0,h)"
abbrev pub piece_corners : ℤ → ℤ → ℤ → List ℤ
piece_corners w d h = corner zero zero zero ++ corner w zero zero ++ corner zero d zero ++ corner zero zero h

abbrev pub blank_corners : Blank → ℤ → ℤ → ℤ → List ℤ
blank_corners (Box _ _ _) w d h = box_corners w d h
blank_corners (Wedge _ _ _) w d h = wedge_corners w d h
blank_corners (Corner _ _ _) w d h = piece_corners w d h

-- "They are written to lent room as 24, 18 or 12 numbers"
abbrev pub needed : Blank → ℕ
needed (Box _ _ _) = 24
needed (Wedge _ _ _) = 18
needed (Corner _ _ _) = 12

-- ---- the answer
-- 19: "a blank's size is zero or less"; minus zero is 0
abbrev pub ZeroOrLess : Float → Type 0
ZeroOrLess nan = ⊥
ZeroOrLess (inf s) = ⊥
ZeroOrLess (fin s m e) = with_sign s m ≤ℤ zero

-- the refusals of the sizes alone
abbrev pub size_refusals : Point → List Rule
size_refusals p =
    Limits.not_finite when One NotFinite p
    ∷ Limits.not_whole when One NotWhole p
    ∷ Limits.float_range when One Beyond p
    ∷ Limits.size_zero when One ZeroOrLess p
    ∷ []

-- what is written: so many numbers, the corners of the sizes in steps, and "the rest of the room keeps its value"
pub record Filled (p : Point) (n : ℕ) (corners : ℤ → ℤ → ℤ → List ℤ) (before after : List ℤ) (count : ℕ) : Type 0 where
  pub width : ℤ
  pub depth : ℤ
  pub height : ℤ
  pub wide : InSteps p.x width
  pub deep : InSteps p.y depth
  pub high : InSteps p.z height
  pub room : after ≡ corners width depth height ++ drop n before
  pub counted : count ≡ n

-- what writing a blank gives: 0 and how many numbers were written, or the number of the refusal and 0
pub record Written : Type 0 where
  pub number : ℕ
  pub count : ℕ

abbrev pub written_of : Result ℕ Refusal → Written
written_of (Ok n) = record { number = Limits.done; count = n }
written_of (Err r) = record { number = number_of r; count = 0 }

-- what writing a blank with the sizes p, n numbers for its corners, may answer and leave; 13: "room shorter than what must be written"
pub record WrittenAs (p : Point) (n : ℕ) (corners : ℤ → ℤ → ℤ → List ℤ) (before after : List ℤ) (r : Written) : Type 0 where
  pub number : Lowest (Limits.short_room when (length before < n) ∷ size_refusals p) r.number
  pub filled : r.number ≡ Limits.done → Filled p n corners before after r.count
  pub kept : (r.number ≡ Limits.done → ⊥) → (after ≡ before) × (r.count ≡ 0)

-- What the keys of the marks say of two pieces' boxes: a test that decides whether they are apart.
-- Document 01: "on some axis one high mark's value is below the other's low"; W6: "a high plus g".
use Rattle.std.specs.Prelude.{◌≡◌, Bool, true, List, ◌⊎◌, ℕ, ◌*◌, pos, ◌+ℤ◌, ◌<ℤ◌}
use Rattle.limits.specs.Limits
use Rattle.limits.specs.Decides.{Decides}
use Rattle.marks.specs.Marks.{Axis}
use Rattle.marks.specs.Keys.{Keyed, KeyedMarks}
use Rattle.pieces.specs.Pieces.{Store, Taken, axes_of}
use Rattle.pieces.specs.Boxes.{Apart}

-- how much a key grows by one step of its mark's value
abbrev pub key_step : ℕ
key_step = 2 * Limits.places

-- on the axis whose keys these are, with a gap of g
pub record ApartOnBy (g : ℕ) (keys : List ℕ) (p q : ℕ) (r : Bool) : Type 0 where
  pub decides : (a : Axis) → Keyed a keys → a.taken p ≡ true → a.taken q ≡ true → Decides r (((a.high p +ℤ pos g) <ℤ a.low q) ⊎ ((a.high q +ℤ pos g) <ℤ a.low p))

-- on some axis of the store whose keys these are
pub record ApartBy (g : ℕ) (x y z : List ℕ) (p q : ℕ) (r : Bool) : Type 0 where
  pub decides : (d : Store) → KeyedMarks (axes_of d) x y z → Taken d.places p → Taken d.places q → Decides r (Apart g d p q)

-- What the order test of the marks buffer answers, for any contents; and that it is yes exactly where the buffer is in place, if the keys are those of its axes.
-- A part passes with as many marks as there are keys, their keys climbing, and no_mark alone after them.
use Rattle.std.specs.Prelude.{◌≡◌, List, [], ◌∷◌, Bool, true, ◌&&◌, ℕ, suc, eqb, leb, ltb, length, take, drop}
use Rattle.limits.specs.Limits
use Rattle.ints.specs.Counts.{one_if, sum_to}
use Rattle.marks.specs.Marks.{Axis, Axes, InPlace, InPlaceMarks, part_x, part_y, part_z}
use Rattle.marks.specs.Keys.{no_key, Keyed, KeyedMarks, key_of}
use Rattle.marks.specs.Sorted.{keyed}

-- each has a key of its own, from k on, and the keys climb
unfoldable pub climbs : (ℕ → ℕ) → ℕ → List ℕ → Bool
climbs e k [] = true
climbs e k (x ∷ xs) = (leb k (e x) && ltb (e x) no_key) && climbs e (suc (e x)) xs

-- no_mark alone
unfoldable pub blank : List ℕ → Bool
blank [] = true
blank (x ∷ xs) = eqb x Limits.no_mark && blank xs

-- how many marks there are
unfoldable pub marks_in : (ℕ → ℕ) → ℕ
marks_in e = sum_to Limits.axis_marks (λ q. one_if (keyed e q))

-- the answer for one part, and for the whole buffer
unfoldable pub part_passes : List ℕ → List ℕ → Bool
part_passes keys part = eqb (length part) Limits.axis_marks && (climbs (key_of keys) 0 (take (marks_in (key_of keys)) part) && blank (drop (marks_in (key_of keys)) part))

abbrev pub marks_pass : List ℕ → List ℕ → List ℕ → List ℕ → Bool
marks_pass x y z marks = eqb (length marks) Limits.marks && (part_passes x (part_x marks) && (part_passes y (part_y marks) && part_passes z (part_z marks)))

pub record Tested (keys part : List ℕ) (answer : Bool) : Type 0 where
  pub is : answer ≡ part_passes keys part
  pub right : (a : Axis) → Keyed a keys → answer ≡ true → InPlace a part
  pub whole : (a : Axis) → Keyed a keys → InPlace a part → answer ≡ true

pub record TestedMarks (x y z marks : List ℕ) (answer : Bool) : Type 0 where
  pub is : answer ≡ marks_pass x y z marks
  pub right : (a : Axes) → KeyedMarks a x y z → answer ≡ true → InPlaceMarks a marks
  pub whole : (a : Axes) → KeyedMarks a x y z → InPlaceMarks a marks → answer ≡ true

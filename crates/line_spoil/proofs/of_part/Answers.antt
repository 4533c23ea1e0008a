-- `line_spoil::of_part` meets its contract: the number of a name is the number of its cell.
use Rattle.std.specs.Prelude.{ℕ, ◌≡◌, refl, List, ◌∷◌, ◌++◌, ℤ}
use Rattle.std.proofs.Common.{sym, ap, subst, arith}
use Rattle.std.proofs.Math.Decide.{dec_lt, ℕ_discrete}
use mir.Facts.{to_z-of_z}
use Rattle.text_cut.specs.Cuts.{parts_of}
use Rattle.line.specs.Behind.{behind, Finds}
use Rattle.line.specs.Named.{NameOf, names_of, value_of}
use Rattle.line.specs.NamedLaws.{finds_named, value_past}
use Rattle.line_spoil.specs.Cells.{shapes_part, places_part, rows_part, book_part, marks_part, parts, NoCell}
use Rattle.line_spoil.specs.declared.Cell.{Cell}
use Rattle.line_spoil.specs.declared.Cell.TheVariants.{Shapes, Places, Rows, Book, Marks, Bad}
use Rattle.line_spoil.proofs.of_part.Goals as goal

-- the text of the names, a space before each
abbrev text : List ℕ
text = 32 ∷ shapes_part ++ 32 ∷ places_part ++ 32 ∷ rows_part ++ 32 ∷ book_part ++ 32 ∷ marks_part

-- the names stand in the text as the table has them
named : {word : List ℕ} {r : ℕ} (i : ℕ) (v : ℤ) → NameOf word (behind text 0) r → NameOf word (names_of (parts i v)) r
unfolding behind parts_of dec_lt ℕ_discrete
named i v h = h

-- a word of number k has the cell of that number
found : {word : List ℕ} {r : ℕ} {i : ℕ} {v : ℤ} (k : ℕ) {cell : Cell} → NameOf word (behind text 0) r → r ≡ k → cell ≡ value_of (parts i v) Bad k → Finds word (parts i v) NoCell cell
found {word} {r} {i} {v} k h e f = rw f (finds_named word (parts i v) NoCell refl k (subst (NameOf word (names_of (parts i v))) e (named i v h)))

pub returns-in-0 : goal.returns-in-0
returns-in-0 c = found 0 c.name_of.ensures c.in-0.is (ap (Shapes c.args.i) (to_z-of_z c.ranges.v))

pub returns-in-1 : goal.returns-in-1
returns-in-1 c = found 1 c.name_of.ensures c.in-1.is (ap (Places c.args.i) (to_z-of_z c.ranges.v))

pub returns-in-2 : goal.returns-in-2
returns-in-2 c = found 2 c.name_of.ensures c.in-2.is (ap (Rows c.args.i) (to_z-of_z c.ranges.v))

pub returns-in-3 : goal.returns-in-3
returns-in-3 c = found 3 c.name_of.ensures c.in-3.is (ap (Book c.args.i) (to_z-of_z c.ranges.v))

pub returns-in-4 : goal.returns-in-4
returns-in-4 c = found 4 c.name_of.ensures c.in-4.is (ap (Marks c.args.i) (to_z-of_z c.ranges.v))

pub returns-in_default : goal.returns-in_default
returns-in_default c =
    let a = c.args in
    let k = c.name_of.result in
    found k c.name_of.ensures refl (sym (value_past (parts a.i a.v) Bad k (omega arith)))

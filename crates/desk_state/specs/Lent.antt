-- THE FIVE LENT ARRAYS as one value: what desk they hold, and that a function which may change them leaves them where they were.
-- A caller that lent them one by one sees through `SameLent` which of its arrays has become what.
use Rattle.std.specs.Prelude.{◌≡◌, length}
use Rattle.desk_state.specs.Desk.{Desk, desk_of}
use Rattle.desk_state.specs.declared.LentDesk.{LentDesk}
use Rattle.desk_state.specs.declared.LentShapes.{LentShapes}
use Rattle.desk_state.specs.declared.LentPlaces.{LentPlaces}
use Rattle.desk_state.specs.declared.LentBook.{LentBook}
use Rattle.desk_state.specs.declared.SeenDesk.{SeenDesk}

-- the desk that the arrays hold
abbrev pub held : LentDesk → Desk
held l = desk_of l.shapes.now l.places.now l.rows.now l.book.now l.marks.now

-- the same where some of them are lent to be read alone: by a load, a piece that is handled, the setting of a gap
abbrev pub of_shapes : LentShapes → Desk
of_shapes l = desk_of l.shapes.now l.places.now l.rows.now l.book.now l.marks.now

abbrev pub of_places : LentPlaces → Desk
of_places l = desk_of l.shapes.now l.places.now l.rows.now l.book.now l.marks.now

abbrev pub of_book : LentBook → Desk
of_book l = desk_of l.shapes.now l.places.now l.rows.now l.book.now l.marks.now

-- what they hold behind a command: what was lent to be read alone is what it was
abbrev pub with_shapes : LentShapes → LentShapes → Desk
with_shapes l k = desk_of k.shapes.now l.places.now l.rows.now l.book.now l.marks.now

abbrev pub with_places : LentPlaces → LentPlaces → Desk
with_places l k = desk_of l.shapes.now k.places.now k.rows.now k.book.now k.marks.now

abbrev pub with_book : LentBook → LentBook → Desk
with_book l k = desk_of l.shapes.now l.places.now l.rows.now k.book.now l.marks.now

-- the same of arrays that are all lent to be read alone
abbrev pub seen : SeenDesk → Desk
seen s = desk_of s.shapes.now s.places.now s.rows.now s.book.now s.marks.now

-- the arrays are the same ones, whatever they hold, and the marks buffer is as long as it was
pub record SameLent (l k : LentDesk) : Type 0 where
  pub shapes : l.shapes.ghost_name ≡ k.shapes.ghost_name
  pub places : l.places.ghost_name ≡ k.places.ghost_name
  pub rows : l.rows.ghost_name ≡ k.rows.ghost_name
  pub book : l.book.ghost_name ≡ k.book.ghost_name
  pub marks : l.marks.ghost_name ≡ k.marks.ghost_name
  pub long : length l.marks.now ≡ length k.marks.now

-- the same where some are lent to be read alone: those are what they were
pub record SameShapes (l k : LentShapes) : Type 0 where
  pub shapes : l.shapes.ghost_name ≡ k.shapes.ghost_name
  pub places : l.places ≡ k.places
  pub rows : l.rows ≡ k.rows
  pub book : l.book ≡ k.book
  pub marks : l.marks ≡ k.marks

pub record SamePlaces (l k : LentPlaces) : Type 0 where
  pub shapes : l.shapes ≡ k.shapes
  pub places : l.places.ghost_name ≡ k.places.ghost_name
  pub rows : l.rows.ghost_name ≡ k.rows.ghost_name
  pub book : l.book.ghost_name ≡ k.book.ghost_name
  pub marks : l.marks.ghost_name ≡ k.marks.ghost_name
  pub long : length l.marks.now ≡ length k.marks.now

pub record SameBook (l k : LentBook) : Type 0 where
  pub shapes : l.shapes ≡ k.shapes
  pub places : l.places ≡ k.places
  pub rows : l.rows ≡ k.rows
  pub book : l.book.ghost_name ≡ k.book.ghost_name
  pub marks : l.marks ≡ k.marks

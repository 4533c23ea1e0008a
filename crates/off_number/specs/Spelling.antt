-- A text that has been spelled at the start of a room of our own.
-- What is put behind it makes one text (crate `text_put`, PrintLaws, `put_next`).
use Rattle.std.specs.Prelude.{ℕ, ◌≤◌, ◌≡◌, List, length, take}

-- the room starts with the text, which has r bytes, and the room has them
pub record Spelled (text room : List ℕ) (r : ℕ) : Type 0 where
  pub is : take r room ≡ text
  pub bytes : r ≡ length text
  pub fits : r ≤ length room

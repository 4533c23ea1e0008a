-- That what is read into room lies within it, and a list within the numbers that it is read from.
-- Nothing here says which answer is right: that is said of the functions that the program calls.
use Rattle.std.specs.Prelude.{ℕ, ◌≤◌, ◌<◌, Option, Some, None}
use Rattle.line_read.specs.declared.texts.Request.{Request}
use Rattle.line_read.specs.declared.texts.Request.TheVariants.{Show, Bad as NoRequest}

-- of room of n bytes: one text
abbrev pub TextWithin : ℕ → Option ℕ → Type 0
TextWithin n (Some k) = k ≤ n
TextWithin n None = Unit {0}

-- of room of n bytes: one text, and another behind it
abbrev pub TextsWithin : ℕ → Request → Type 0
TextsWithin n (Show k first both) = (first ≤ both) × (both ≤ n)
TextsWithin n NoRequest = Unit {0}

-- of n numbers: a list whose count stands at `start`, and ends behind it
abbrev pub ListWithin : ℕ → ℕ → Option ℕ → Type 0
ListWithin start n (Some end) = (start < end) × (end ≤ n)
ListWithin start n None = Unit {0}

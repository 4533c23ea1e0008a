-- The reader (document 02, W2): "a reader that keeps the file slice and its position hands out one triangle after another."
-- It is a record that holds the slice, over the step on a slice and a position by value.
use Rattle.std.specs.Prelude.{◌≡◌, cond}
use Rattle.scans_stl.specs.Steps.{Handed, StepAs}
use Rattle.scans_stl.specs.declared.Reader.{Reader}

-- what the reader may hand out and leave: the step at its position, the same file, and the position behind the triangle; refused, or with no triangle there, the reader stays as it was
pub record NextAs (before after : Reader) (r : Handed) : Type 0 where
  pub handed : StepAs before.file.now before.at r
  pub file : after.file ≡ before.file
  pub moved : after.at ≡ cond r.found r.next before.at

-- What a test's answer tells: true says that the condition holds, false that it does not.
-- A refusal is given by such tests, so that it is given exactly when its condition holds.
use Rattle.std.specs.Prelude.{◌≡◌, Bool, true, false}

pub record Decides (b : Bool) (C : Type 0) : Type 0 where
  pub yes : b ≡ true → C
  pub no : b ≡ false → C → ⊥

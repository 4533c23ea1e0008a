-- What follows from the definitions: separate, touching and penetrating exclude each other, so a right verdict is one number, right both ways.
-- That one of the three always holds is what the walk shows.
use Rattle.std.specs.Prelude.{◌≡◌, ℕ}
use Rattle.space.specs.Verdicts.{Piece, Separate, Touching, Penetrating}
use Rattle.space.specs.Verdicts.{separate, touching, penetrating}

-- ---- "both ways": a right verdict is 1 exactly where the pieces are separate, 2 where they touch, 3 where they penetrate
pub record BothWays (g : ℕ) (A B : Piece) (v : ℕ) : Type 0 where
  pub is_separate : v ≡ separate → Separate g A B
  pub of_separate : Separate g A B → v ≡ separate
  pub is_touching_lem : v ≡ touching → Touching g A B
  pub of_touching : Touching g A B → v ≡ touching
  pub is_penetrating_lem : v ≡ penetrating → Penetrating g A B
  pub of_penetrating : Penetrating g A B → v ≡ penetrating

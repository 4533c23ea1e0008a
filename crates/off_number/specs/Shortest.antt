-- A number of steps as text (document 02, W7): "each number as the shortest exact decimal (a step is 0.015625)".
-- That it is exact, and that no text of the form with its value is shorter, are laws (ShortestLaws).
use Rattle.std.specs.Prelude.{ℕ, ◌*◌, ◌/◌, ◌%◌, cond, List, [], ◌∷◌, ◌++◌, eqb, ℤ, nat_abs}
use Rattle.io.specs.Digits.{last_digits}
use Rattle.limits.specs.Limits
use Rattle.text_put.specs.Print.{digits_of, signed}

-- "a step is 0.015625": so many millionths
abbrev pub step_millionths : ℕ
step_millionths = 15625

-- a digit in front of others, but for a 0 with nothing behind it
abbrev pub before : ℕ → List ℕ → List ℕ
before d [] = cond (eqb d 48) [] (d ∷ [])
before d (e ∷ ds) = d ∷ e ∷ ds

-- digits without the zeros at their end
abbrev pub trimmed : List ℕ → List ℕ
trimmed [] = []
trimmed (d ∷ ds) = before d (trimmed ds)

-- what stands behind the point of so many steps, less than a millimetre: six digits of millionths, without the zeros at their end
unfoldable pub part_of : ℕ → List ℕ
part_of r = trimmed (last_digits 10 Limits.off_digits (r * step_millionths))

-- no point where nothing stands behind it
abbrev pub pointed : List ℕ → List ℕ
pointed [] = []
pointed (d ∷ ds) = 46 ∷ d ∷ ds

-- steps with no sign: whole millimetres, and the part
abbrev pub plain_of : ℕ → List ℕ
plain_of n = digits_of (n / Limits.steps) ++ pointed (part_of (n % Limits.steps))

-- behind a minus where the number is below zero
abbrev pub decimal_of : ℤ → List ℕ
decimal_of z = signed z (plain_of (nat_abs z))

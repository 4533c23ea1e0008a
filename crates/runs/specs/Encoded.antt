-- A RUN AS NUMBERS: eight for each command, and beside them the corner numbers of the shapes that are loaded. Every list of numbers is a run.
-- kind, place, shape, turn, x, y, z, count. Kinds: 0 start, 1 load, 2 place, 3 move, 4 remove, 5 the gap, whose steps stand at x; a command of another kind is passed over.
use Rattle.std.specs.Prelude.{List, [], ◌∷◌, ◌++◌, ℕ, zero, suc, ◌+◌, ◌-◌, ◌*◌, ◌/◌, min, ℤ, pos, negsuc, length, get_or, take, drop}
use Rattle.desk.specs.declared.Command.TheVariants.{Start, Load, Place, Move, Remove, Gap}
use Rattle.runs.specs.Log.{Entry, ◌with◌}

abbrev pub code_numbers : ℕ
code_numbers = 8

-- number k of a code
abbrev pub number_in : List ℤ → ℕ → ℤ
number_in code k = get_or code k (pos 0)

-- each command has the numbers that are its own
abbrev pub commands_of : (kind at shape turn x y z : ℤ) (numbers : List ℤ) → List Entry
commands_of (pos zero) p s t x y z numbers = Start with numbers ∷ []
commands_of (pos (suc zero)) p s t x y z numbers = Load s with numbers ∷ []
commands_of (pos (suc (suc zero))) p s t x y z numbers = Place p (record { shape = s; turn = t; x = x; y = y; z = z }) with numbers ∷ []
commands_of (pos (suc (suc (suc zero)))) p s t x y z numbers = Move p t (record { x = x; y = y; z = z }) with numbers ∷ []
commands_of (pos (suc (suc (suc (suc zero))))) p s t x y z numbers = Remove p with numbers ∷ []
commands_of (pos (suc (suc (suc (suc (suc zero)))))) p s t x y z numbers = Gap x with numbers ∷ []
commands_of (pos (suc (suc (suc (suc (suc (suc n))))))) p s t x y z numbers = []
commands_of (negsuc n) p s t x y z numbers = []

abbrev pub commands_in : List ℤ → List ℤ → List Entry
commands_in code numbers = commands_of (number_in code 0) (number_in code 1) (number_in code 2) (number_in code 3) (number_in code 4) (number_in code 5) (number_in code 6) numbers

-- the count of a code: as many of the corner numbers that are left; one that is not 0 to what is left stands for the rest
abbrev pub took : ℤ → ℕ → ℕ
took (pos n) left = min n left
took (negsuc n) left = left

abbrev pub took_by : List ℤ → ℕ → ℕ
took_by code left = took (number_in code 7) left

-- code i of a run
abbrev pub code_at : List ℤ → ℕ → List ℤ
code_at codes i = take code_numbers (drop (code_numbers * i) codes)

-- how many corner numbers the first i codes take
unfoldable pub used_to : List ℤ → ℕ → ℕ → ℕ
used_to codes all zero = 0
used_to codes all (suc i) = used_to codes all i + took_by (code_at codes i) (all - used_to codes all i)

-- those of code i
abbrev pub numbers_at : List ℤ → List ℤ → ℕ → List ℤ
numbers_at codes numbers i = take (took_by (code_at codes i) (length numbers - used_to codes (length numbers) i)) (drop (used_to codes (length numbers) i) numbers)

-- the commands of the first i codes, the newest first; and all of them. Numbers behind the last whole code are not looked at
unfoldable pub told_to : List ℤ → List ℤ → ℕ → List Entry
told_to codes numbers zero = []
told_to codes numbers (suc i) = commands_in (code_at codes i) (numbers_at codes numbers i) ++ told_to codes numbers i

abbrev pub told_by : List ℤ → List ℤ → List Entry
told_by codes numbers = told_to codes numbers (length codes / code_numbers)

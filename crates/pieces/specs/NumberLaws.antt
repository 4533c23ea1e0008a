-- Laws of a piece's numbers: what is read from the arrays is the store's, and an array of them is one.
-- The definitions stand in Boxes and Placed.
use Rattle.std.specs.Prelude.{◌≡◌, List, ◌++◌, ℕ, ◌*◌, ◌/◌, ◌%◌, ℤ}
use Rattle.std.proofs.Common.{sym, ap₂, ◌∙◌, take-append-drop}
use Rattle.pieces.specs.Pieces.{Store, count_at}
use Rattle.pieces.specs.Placed.{pose_of, NumbersOf}
use Rattle.pieces.specs.Store.{number_is, list_same}
use Rattle.pieces.specs.Boxes.{Numbers}

pub numbers_of_lem : (d : Store) (p : ℕ) (r : List ℤ) → NumbersOf d.shapes d.places (pose_of d.shapes d.places p) p r → Numbers d p r
numbers_of_lem d p r e = record { is = e.is ∙ list_same (3 * count_at d p) _ _ (λ k h. number_is d p (k / 3) (k % 3)); rest = e.rest }

-- an array of a piece's numbers is one
pub numbers_once : {d : Store} {p : ℕ} {q r : List ℤ} → Numbers d p q → Numbers d p r → q ≡ r
numbers_once {d} {p} {q} {r} a b =
    let n = 3 * count_at d p in
    sym (take-append-drop n q) ∙ ap₂ (λ (s t : List ℤ). s ++ t) (a.is ∙ sym b.is) (a.rest ∙ sym b.rest) ∙ take-append-drop n r

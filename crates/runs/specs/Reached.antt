-- THE DESKS THAT CAN BE REACHED: by a start on whatever was lent, and by any commands after it, refused or accepted, each by its own record.
-- Beside each stands the log of the accepted commands; and what it means that a desk holds what a plan says.
use Rattle.std.specs.Prelude.{◌≡◌, List, [], ◌∷◌, ℕ, zero, suc, ◌*◌, ◌<◌, ℤ, pos, nat_abs, length, get_or}
use Rattle.limits.specs.Limits
use Rattle.pieces.specs.declared.placement.Placement.{Placement}
use Rattle.pieces.specs.Pieces.{Store, Taken, corners_of, shape_value, shape_at, turn_at, offset_at}
use Rattle.desk_state.specs.Desk.{Desk}
use Rattle.desk.specs.Commands.{Outcome, number_of, Started, Does}
use Rattle.runs.specs.Log.{Entry, Spot, free, held, Plan}

-- "0 is done": an accepted command stands in the log, a refused one does not
abbrev pub logged : ℕ → Entry → List Entry → List Entry
logged zero e log = e ∷ log
logged (suc n) e log = log

pub data Reached : Desk → List Entry → Type 0 where
  started : {before after : Desk} (r : Outcome) → Started before after r → number_of r ≡ 0 → Reached after []
  told : {before after : Desk} {log : List Entry} (e : Entry) (r : Outcome) → Reached before log → Does e.command e.numbers before after r → Reached after (logged (number_of r) e log)

-- ---- what a desk holds
-- the shape s has these numbers, three a corner; with none it is not loaded
pub record ShapeIs (d : Store) (s : ℕ) (numbers : List ℤ) : Type 0 where
  pub count : 3 * corners_of d s ≡ length numbers
  pub each : (k : ℕ) → k < length numbers → shape_value d s k ≡ get_or numbers k (pos 0)

pub record PieceIs (d : Store) (p : ℕ) (q : Placement) : Type 0 where
  pub taken : Taken d.places p
  pub shape : shape_at d p ≡ nat_abs q.shape
  pub turn : turn_at d p ≡ nat_abs q.turn
  pub on_x_lem : offset_at d p 0 ≡ q.x
  pub on_y_lem : offset_at d p 1 ≡ q.y
  pub on_z_lem : offset_at d p 2 ≡ q.z

abbrev pub PlaceIs : Store → ℕ → Spot → Type 0
PlaceIs d p free = Taken d.places p → ⊥
PlaceIs d p (held q) = PieceIs d p q

pub record HoldsPlan (d : Store) (plan : Plan) : Type 0 where
  pub shapes : (s : ℕ) → s < Limits.shapes → ShapeIs d s (plan.shape s)
  pub places : (p : ℕ) → PlaceIs d p (plan.place p)

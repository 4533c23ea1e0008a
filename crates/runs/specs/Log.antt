-- THE LOG: what a desk was told, and what the accepted commands put where. There is no desk in it, and no row.
-- "An accepted command stores exactly the shape or placement it names, or empties the place it names; every other shape and place stays."
use Rattle.std.specs.Prelude.{List, [], ◌∷◌, Bool, true, false, cond, ℕ, eqb, ℤ, nat_abs}
use Rattle.pieces.specs.declared.placement.Placement.{Placement}
use Rattle.pieces.specs.declared.placement.Offset.{Offset}
use Rattle.desk.specs.declared.Command.{Command}
use Rattle.desk.specs.declared.Command.TheVariants.{Start, Load, Place, Move, Remove, Gap}

-- a command as it arrived, with the corner numbers that came beside it: of the numbers a load alone takes notice
pub record Entry : Type 0 where
  pub command : Command
  pub numbers : List ℤ

infix 70 ◌with◌
abbrev pub ◌with◌ : Command → List ℤ → Entry
c with numbers = record { command = c; numbers = numbers }

-- what a place is to hold: nothing, or a placement
pub data Spot : Type 0 where
  free : Spot
  held : Placement → Spot

abbrev pub is_held : Spot → Bool
is_held free = false
is_held (held q) = true

-- the corner numbers of each shape, none where it is not loaded; each place; and W6's gap
pub record Plan : Type 0 where
  pub shape : ℕ → List ℤ
  pub place : ℕ → Spot
  pub gap : ℕ

-- the gap "is 0 at the start"
abbrev pub empty_plan : Plan
empty_plan = record { shape = λ _. []; place = λ _. free; gap = 0 }

-- one entry is another now, and every other stays
abbrev pub with_at : {A : Type 0} → (ℕ → A) → ℕ → A → ℕ → A
with_at f n v k = cond (eqb k n) v (f k)

-- a move keeps the shape
abbrev pub turned : Spot → ℤ → Offset → Spot
turned free turn o = free
turned (held q) turn o = held (record { shape = q.shape; turn = turn; x = o.x; y = o.y; z = o.z })

-- "An accepted setting stores its gap and changes nothing else; only another setting or a fresh start alters it."
abbrev pub plan_by : Command → List ℤ → Plan → Plan
plan_by Start numbers plan = empty_plan
plan_by (Load shape) numbers plan = record { shape = with_at plan.shape (nat_abs shape) numbers; place = plan.place; gap = plan.gap }
plan_by (Place place q) numbers plan = record { shape = plan.shape; place = with_at plan.place (nat_abs place) (held q); gap = plan.gap }
plan_by (Move place turn o) numbers plan = record { shape = plan.shape; place = with_at plan.place (nat_abs place) (turned (plan.place (nat_abs place)) turn o); gap = plan.gap }
plan_by (Remove place) numbers plan = record { shape = plan.shape; place = with_at plan.place (nat_abs place) free; gap = plan.gap }
plan_by (Gap gap) numbers plan = record { shape = plan.shape; place = plan.place; gap = nat_abs gap }

abbrev pub plan_after : Entry → Plan → Plan
plan_after e plan = plan_by e.command e.numbers plan

-- a log has the newest entry first
abbrev pub plan_of : List Entry → Plan
plan_of [] = empty_plan
plan_of (e ∷ log) = plan_after e (plan_of log)

-- Refusals asked for part by part: what one part's number says, and how the parts make the whole list of a command.
-- A part that finds nothing hands on what it has found to hold.
use Rattle.std.specs.Prelude.{◌≡◌, refl, List, [], ◌++◌, Bool, ℕ, ◌<◌, ℤ, nat_abs}
use Rattle.std.proofs.Common.{sym, inl, inr, arith}
use Rattle.limits.specs.Limits
use Rattle.limits.specs.Decides.{Decides}
use Rattle.limits.specs.Lowest.{Rule, Lowest}
use Rattle.limits.specs.Numbered.{Numbered}
use Rattle.pieces.specs.Pieces.{Store, Loaded, store_of, Taken}
use Rattle.pieces_test.specs.OrderTest.{loaded_alone}
use Rattle.desk_state.specs.Desk.{OffsetFits}
use Rattle.desk_refusals.specs.Parts.{shape_refusals, empty_refusals, taken_refusals, placement_refusals, two_refusals}

-- n is the lowest of the part's refusals, and where it is none, `Given` holds
pub record Asked (l : List Rule) (Given : Type 0) (n : ℕ) : Type 0 where
  pub refusal : Lowest l n
  pub given : n ≡ 0 → Given

pub asked_refused : {l : List Rule} {G : Type 0} {n : ℕ} → Lowest l n → 0 < n → Asked l G n
asked_refused h k = record { refusal = h; given = λ e. absurd (omega arith) }

-- ---- the parts
abbrev pub ShapeAsked : List ℤ → ℤ → ℕ → Type 0
ShapeAsked shapes shape n = Asked (shape_refusals (store_of shapes []) shape) (Numbered Limits.shapes shape × Loaded (store_of shapes []) (nat_abs shape)) n

abbrev pub EmptyAsked : List ℤ → ℤ → ℕ → Type 0
EmptyAsked places place n = Asked (empty_refusals places place) (Numbered Limits.places place) n

abbrev pub TakenAsked : List ℤ → ℤ → ℕ → Type 0
TakenAsked places place n = Asked (taken_refusals places place) (Numbered Limits.places place × Taken places (nat_abs place)) n

abbrev pub PlacementAsked : ℤ → ℤ → ℤ → ℤ → ℕ → Type 0
PlacementAsked turn x y z n = Asked (placement_refusals turn x y z) (Numbered Limits.turns turn × OffsetFits x y z) n

-- what the pair question may go on with
pub record MayPair (places : List ℤ) (first second : ℤ) : Type 0 where
  pub first_place : Numbered Limits.places first
  pub second_place : Numbered Limits.places second
  pub first_taken : Taken places (nat_abs first)
  pub second_taken : Taken places (nat_abs second)

abbrev pub PairAsked : List ℤ → ℤ → ℤ → ℕ → Type 0
PairAsked places first second n = Asked (two_refusals places first second) (MayPair places first second) n

-- ---- laws
-- a placement that was handed on is the one that was handed in
pub placement_handed : {c u v w turn x y z : ℤ} {n : ℕ} → c ≡ turn → u ≡ x → v ≡ y → w ≡ z → PlacementAsked c u v w n → PlacementAsked turn x y z n
placement_handed d e f g h = rw (sym d, sym e, sym f, sym g) h

-- a shape is asked for among the shapes alone, and so of any desk that has them; `rest` is what a command asks besides
pub shape_whole : (d : Store) (shape : ℤ) (rest : List Rule) {n : ℕ} → Lowest (shape_refusals (store_of d.shapes []) shape ++ rest) n → Lowest (shape_refusals d shape ++ rest) n
shape_whole d shape rest (inl h) = inl h
shape_whole d shape rest (inr (f, inl (g, e))) = inr (f, inl (λ l. g (loaded_alone refl refl l), e))
shape_whole d shape rest (inr (f, inr (g, h))) = inr (f, inr (λ k. g (λ l. k (loaded_alone refl refl l)), h))

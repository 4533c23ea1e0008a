-- The pair question, from its tests to its record: what the tests have asked, and the answer about the two pieces.
-- A callee sees a signed number through its bits; each law is told that what was handed on is what was handed in.
use Rattle.std.specs.Prelude.{◌≡◌, refl, ℕ, ℤ, nat_abs}
use Rattle.std.proofs.Common.{sym, ap, ◌∙◌, subst, inr, arith}
use Rattle.pieces.specs.Pieces.{piece_at, Taken}
use Rattle.pieces.specs.Boxes.{PlacedPiece}
use Rattle.verdict.specs.Answers.{Answer, nothing, Carries}
use Rattle.desk_state.specs.Desk.{Desk, gap_of, InOrder}
use Rattle.desk_refusals.specs.Asked.{MayPair, PairAsked}
use Rattle.desk.specs.Commands.{Pairs}
use Rattle.desk.specs.CommandLaws.{pair_refuses, pair_answers}

module _ (d : Desk) (first second : ℤ) {a b : ℤ} (ea : a ≡ first) (eb : b ≡ second) (o : InOrder d) where
  pair_asked : {n : ℕ} → PairAsked d.store.places a b n → PairAsked d.store.places first second n
  pair_asked k = rw (sym ea, sym eb) k

  pub pair_refused : {n : ℕ} → (n ≡ 0 → ⊥) → PairAsked d.store.places a b n → Pairs d first second (nothing n)
  pair_refused f k = pair_refuses (inr (λ f. f o, (pair_asked k).refusal)) (omega (arith, f))

  module _ {i j : ℕ} (k : PairAsked d.store.places a b 0) (is : (i ≡ nat_abs a) × (j ≡ nat_abs b)) where
    pair_given : MayPair d.store.places first second
    pair_given = (pair_asked k).given refl

    i-is : i ≡ nat_abs first
    i-is = is.0 ∙ ap nat_abs ea

    j_is : j ≡ nat_abs second
    j_is = is.1 ∙ ap nat_abs eb

    pub may_pair : PlacedPiece d.store i × PlacedPiece d.store j
    may_pair = (
      record { order = o.pieces; taken = subst (Taken d.store.places) (sym i-is) pair_given.first_taken },
      record { order = o.pieces; taken = subst (Taken d.store.places) (sym j_is) pair_given.second_taken },
    )

    pub paired : {g : ℕ} {r : Answer} → g ≡ gap_of d → (r.number ≡ 0) × Carries g (piece_at d.store i) (piece_at d.store j) r → Pairs d first second r
    paired {r = r} eg c =
        pair_answers (inr (λ f. f o, (pair_asked k).refusal)) i-is j_is
        (c.0, subst (λ (g : ℕ). Carries g (piece_at d.store i) (piece_at d.store j) r) eg c.1)

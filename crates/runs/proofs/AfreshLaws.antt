-- Two lists of rows that are worked out afresh from the same plan are equal.
-- Whether a place of a plan holds a piece is decided, and a pair has one row.
use Rattle.std.specs.Prelude.{◌≡◌, List, Bool, true, false, ℕ, T, ℤ}
use Rattle.std.proofs.Common.{sym, ◌∙◌, inl, inr, arith}
use Rattle.space.proofs.ExclusionLaws.{verdict_once}
use Rattle.rows.specs.Changes.{rows_once}
use Rattle.ints.specs.Cases.{by_less}
use Rattle.runs.specs.Log.{is_held, Plan}
use Rattle.runs.specs.Afresh.{piece_of, RowOf, PairIn, Afresh}

pub row_once : (g : ℕ) (A B : List ℤ) {u v : ℕ} → RowOf g A B u → RowOf g A B v → u ≡ v
row_once g A B (inl a) (inl b) = a.0 ∙ sym b.0
row_once g A B (inl a) (inr b) = absurd (b.0 a.1)
row_once g A B (inr a) (inl b) = absurd (a.0 b.1)
row_once g A B (inr a) (inr b) = verdict_once a.1 b.1

by_held : {C : Type 0} (b : Bool) → (T b → C) → ((T b → ⊥) → C) → C
by_held false f g = g (λ h. h)
by_held true f g = f tt

by_pair_in : {C : Type 0} (plan : Plan) (low high : ℕ) → (PairIn plan low high → C) → ((PairIn plan low high → ⊥) → C) → C
by_pair_in plan low high f g =
    by_less low high
    (λ lt.
    by_held (is_held (plan.place low))
    (λ a.
    by_held (is_held (plan.place high))
    (λ b. f (record { rising = lt; first = a; second = b }))
    (λ b. g (λ p. b p.second)))
    (λ a. g (λ p. a p.first)))
    (λ le. g (λ p. let r = p.rising in omega arith))

pub afresh_once : {plan : Plan} {a b : List ℕ} → Afresh plan a → Afresh plan b → a ≡ b
afresh_once {plan} {a} {b} p q =
    rows_once p.size q.size
    (λ low high h k.
    by_pair_in plan low high
    (λ o. row_once plan.gap (piece_of plan low) (piece_of plan high) (p.pairs low high o) (q.pairs low high o))
    (λ f. p.others low high h k f ∙ sym (q.others low high h k f)))

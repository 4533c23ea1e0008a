-- A setting of the gap, from its tests to its record: what the tests have asked, and the book that has the gap then.
-- A callee sees a signed number through its bits; each law is told that what was handed on is what was handed in.
use Rattle.std.specs.Prelude.{◌≡◌, refl, List, [], ◌∷◌, ◌⊎◌, ℕ, ◌≤◌, ◌<◌, ℤ, nat_abs, Ok, Err}
use Rattle.std.proofs.Common.{sym, ap, ◌∙◌, subst, inr, arith}
use Rattle.limits.specs.Limits
use Rattle.limits.specs.Lowest.{Lowest, ◌when◌}
use Rattle.limits.specs.Refusals.{number_of}
use Rattle.limits.specs.declared.Refusal.{Refusal}
use Rattle.rows_tally.specs.Tallies.{gap_put}
use Rattle.pieces.specs.Pieces.{Taken}
use Rattle.verdict.specs.Answers.{GapFits}
use Rattle.desk_state.specs.Desk.{Desk, InOrder}
use Rattle.desk_refusals.specs.Asked.{Asked}
use Rattle.desk.specs.Commands.{SomeTaken, gap_refusals, SetsGap}
use Rattle.desk.specs.CommandLaws.{refuses, accepts, gap_set_order}

-- 24: "gap out of range, or set while a place is taken"
abbrev pub GapAsked : List ℤ → ℤ → ℕ → Type 0
GapAsked places gap n = Asked (Limits.gap_refused when ((GapFits gap → ⊥) ⊎ SomeTaken places) ∷ []) (GapFits gap) n

-- ---- no place below p is taken
pub none_taken : {places : List ℤ} {p : ℕ} → ((q : ℕ) → q < p → Taken places q → ⊥) → Limits.places ≤ p → SomeTaken places → ⊥
none_taken none h t = none t.place (let l = t.taken.place in omega arith) t.taken

-- ---- a setting
module _ (d : Desk) (gap : ℤ) {a : ℤ} (ea : a ≡ gap) (o : InOrder d) where
  gap_asked : {n : ℕ} → GapAsked d.store.places a n → GapAsked d.store.places gap n
  gap_asked {n} k = subst (λ (z : ℤ). GapAsked d.store.places z n) ea k

  gap_lowest : {n : ℕ} → GapAsked d.store.places a n → Lowest (gap_refusals d gap) n
  gap_lowest k = inr (λ f. f o, (gap_asked k).refusal)

  pub gap_refused_lem : {r : Refusal} → GapAsked d.store.places a (number_of r) → SetsGap d gap d (Err r)
  gap_refused_lem k = refuses (gap_lowest k)

  module _ {i : ℕ} (k : GapAsked d.store.places a 0) (is : i ≡ nat_abs a) where
    pub gap_stored : {book : List ℕ} → book ≡ gap_put d.book i → SetsGap d gap (record { store = d.store; rows = d.rows; book = book; marks = d.marks }) (Ok 0)
    gap_stored {book} b =
        let e = ap {B = Desk} (λ (l : List ℕ). record { store = d.store; rows = d.rows; book = l; marks = d.marks }) (b ∙ ap (gap_put d.book) (is ∙ ap nat_abs ea)) in
        let fits = ((gap_asked k).given refl).below in
        accepts (gap_lowest k) (e, subst InOrder (sym e) (gap_set_order (omega arith) o), refl)

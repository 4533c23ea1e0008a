-- From a command's own record to the reply: the numbers that were handed on are those that were handed in, and the desk that was lent on is the one that was lent.
-- A callee sees a signed number through its bits; each law is told that they are the number's.
use Rattle.std.specs.Prelude.{◌≡◌, List, ℤ}
use Rattle.std.proofs.Common.{subst}
use Rattle.pieces.specs.declared.placement.Placement.{Placement}
use Rattle.pieces.specs.declared.placement.Offset.{Offset}
use Rattle.desk_state.specs.Desk.{Desk}
use Rattle.desk.specs.Commands.{Outcome, Loads, Places, Moves, Removed, SetsGap}
use Rattle.bench_desk.specs.declared.Reply.{Reply}
use Rattle.bench_desk.specs.Replies.{reply_to, Replies}

-- a reply to the command that was handed on
handed : (A : Desk → Outcome → Type 0) {lent after : Desk} {o : Outcome} {r : Reply} → lent ≡ after → r ≡ reply_to o → A lent o → Replies (A after) r
handed A {o = o} there same h = record { answer = o; allowed = subst (λ (k : Desk). A k o) there h; same = same }

module _ {d lent after : Desk} {o : Outcome} {r : Reply} (there : lent ≡ after) (same : r ≡ reply_to o) where
  pub loads_handed : {shape s : ℤ} (numbers : List ℤ) → s ≡ shape → Loads d s numbers lent o → Replies (λ (a : Outcome). Loads d shape numbers after a) r
  loads_handed {shape} numbers e h = handed (λ k a. Loads d shape numbers k a) there same (subst (λ (i : ℤ). Loads d i numbers lent o) e h)

  pub places_handed : {place p : ℤ} {q k : Placement} → p ≡ place → k ≡ q → Places d p k lent o → Replies (λ (a : Outcome). Places d place q after a) r
  places_handed {place} {q = q} {k} e f h =
      handed (λ k a. Places d place q k a) there same (subst (λ (i : Placement). Places d place i lent o) f (subst (λ (i : ℤ). Places d i k lent o) e h))

  pub moves_handed : {place turn p t : ℤ} {q k : Offset} → p ≡ place → t ≡ turn → k ≡ q → Moves d p t k lent o → Replies (λ (a : Outcome). Moves d place turn q after a) r
  moves_handed {place} {turn} {t = t} {q} {k} e f g h =
      handed (λ k a. Moves d place turn q k a) there same
      (subst (λ (i : Offset). Moves d place turn i lent o) g (subst (λ (i : ℤ). Moves d place i k lent o) f (subst (λ (i : ℤ). Moves d i t k lent o) e h)))

  pub removed_handed : {place p : ℤ} → p ≡ place → Removed d p lent o → Replies (λ (a : Outcome). Removed d place after a) r
  removed_handed {place} e h = handed (λ k a. Removed d place k a) there same (subst (λ (i : ℤ). Removed d i lent o) e h)

  pub gap_handed : {gap g : ℤ} → g ≡ gap → SetsGap d g lent o → Replies (λ (a : Outcome). SetsGap d gap after a) r
  gap_handed {gap} e h = handed (λ k a. SetsGap d gap k a) there same (subst (λ (i : ℤ). SetsGap d i lent o) e h)

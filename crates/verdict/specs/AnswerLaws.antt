-- That only witnesses may vary: what two answers share which are allowed for one question.
-- One law, for the pair question on two lists (here) and on two places (crate `desk`, CommandLaws).
use Rattle.std.specs.Prelude.{◌≡◌, ℕ, ◌≤◌, ℤ}
use Rattle.std.proofs.Common.{sym, ap, ◌∙◌, arith, ext_get_or}
use Rattle.std.proofs.Math.Decide.{ℕ_discrete}
use Rattle.limits.specs.Limits.{done}
use Rattle.limits.proofs.LowestLaws.{lowest_once}
use Rattle.space.specs.Verdicts.{Piece, separate}
use Rattle.space.proofs.ExclusionLaws.{verdict_once}
use Rattle.verdict_walk.specs.NoPairs.{no_pair, no_pairs}
use Rattle.verdict_walk.specs.GatherLaws.{none_at}
use Rattle.verdict.specs.Answers.{Answer, refusals, nothing, Carries, Answers, OneAnswer}

-- an answer carries no more than four pairs
pub carries_few : {g : ℕ} {A B : Piece} {r : Answer} → Carries g A B r → r.count ≤ 4
carries_few {r = r} c = go (ℕ_discrete r.verdict separate)
  where
    go : Dec (r.verdict ≡ separate) → r.count ≤ 4
    go (yes e) = let z = c.unpaired e in omega arith
    go (no f) = (c.paired f).1

-- separate pieces: four zero pairs
no_pairs_lem : {g : ℕ} {A B : Piece} {r : Answer} → Carries g A B r → r.verdict ≡ separate → r.pairs ≡ no_pairs
no_pairs_lem {r = r} c e = ext_get_or no_pair r.pairs no_pairs c.four (λ k h. c.rest k (let z = c.unpaired e in omega arith) ∙ sym (none_at k))

-- two answers with one number, of which each is all zero where it is refused and else carries a verdict of the same two pieces
module _ {g : ℕ} {A B : Piece} {q r : Answer} (same : q.number ≡ r.number)
    (zq : (q.number ≡ done → ⊥) → q ≡ nothing q.number) (zr : (r.number ≡ done → ⊥) → r ≡ nothing r.number)
    (cq : q.number ≡ done → Carries g A B q) (cr : r.number ≡ done → Carries g A B r) where
  equal : (q.number ≡ done → ⊥) → q ≡ r
  equal f = zq f ∙ ap nothing same ∙ sym (zr (λ z. f (same ∙ z)))

  pub one_answer : OneAnswer q r
  one_answer = go (ℕ_discrete q.number done)
    where
      go : Dec (q.number ≡ done) → OneAnswer q r
      go (yes z) =
          let c = cq z in
          let d = cr (sym same ∙ z) in
          let v = verdict_once c.right d.right in
          record {
            number = same;
            verdict = v;
            refused = λ f. absurd (f z);
            unpaired = λ e. (c.unpaired e ∙ sym (d.unpaired (sym v ∙ e)), no_pairs_lem c e ∙ sym (no_pairs_lem d (sym v ∙ e)));
            undirected = λ e. c.undirected e ∙ sym (d.undirected (sym v ∙ e));
          }
      go (no f) =
          let e = equal f in
          record {
            number = same;
            verdict = ap (λ (x : Answer). x.verdict) e;
            refused = equal;
            unpaired = λ _.
                (ap (λ (x : Answer). x.count) e, ap (λ (x : Answer). x.pairs) e);
            undirected = λ _. ap (λ (x : Answer). x.direction) e;
          }

-- two answers allowed for the same gap and lists
pub answers_once : {gap : ℤ} {A B : Piece} {q r : Answer} → Answers gap A B q → Answers gap A B r → OneAnswer q r
answers_once {gap} {A} {B} a b = one_answer (lowest_once (refusals gap A B) a.refusal b.refusal) a.zeros b.zeros a.carries b.carries

-- two answers with a verdict of the same two pieces
pub verdicts_once : {g : ℕ} {A B : Piece} {q r : Answer} → (q.number ≡ done) × Carries g A B q → (r.number ≡ done) × Carries g A B r → OneAnswer q r
verdicts_once a b = one_answer (a.0 ∙ sym b.0) (λ f. absurd (f a.0)) (λ f. absurd (f b.0)) (λ _. a.1) (λ _. b.1)

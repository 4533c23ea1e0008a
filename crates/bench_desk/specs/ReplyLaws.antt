-- A reply is the only one: where a call allows one answer, and of the pair question one number and one verdict.
-- That a call allows one answer stands in crate `desk`, CommandLaws, and in crate `verdict`, AnswerLaws.
use Rattle.std.specs.Prelude.{◌≡◌}
use Rattle.std.proofs.Common.{sym, ap, ◌∙◌}
use Rattle.space.specs.Verdicts.{Piece}
use Rattle.verdict.specs.Answers.{OneAnswer}
use Rattle.verdict.specs.AnswerLaws.{answers_once}
use Rattle.desk.specs.Commands.{Outcome}
use Rattle.bench_desk.specs.declared.Reply.{Reply}
use Rattle.bench_desk.specs.declared.VerdictReply.{VerdictReply}
use Rattle.bench_desk.specs.Replies.{reply_to, Replies, verdict_of, RepliesVerdict}

pub replies_once : {A B : Outcome → Type 0} {q r : Reply} → ((o p : Outcome) → A o → B p → o ≡ p) → Replies A q → Replies B r → q ≡ r
replies_once one p q = p.same ∙ ap reply_to (one p.answer q.answer p.allowed q.allowed) ∙ sym q.same

pub verdict_replies_once : {A B : Piece} {q r : VerdictReply} → RepliesVerdict A B q → RepliesVerdict A B r → q ≡ r
verdict_replies_once {A} {B} {q} {r} p s = p.same ∙ alike (answers_once p.allowed s.allowed) ∙ sym s.same
  where
    alike : OneAnswer p.answer s.answer → verdict_of p.answer ≡ verdict_of s.answer
    alike e = rw (e.number, e.verdict)

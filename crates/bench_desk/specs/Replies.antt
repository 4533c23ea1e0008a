-- WHAT A PROGRAM IN ANOTHER LANGUAGE IS TOLD: an answer of the desk, or the pair question's, as two numbers.
-- Each is the reply to an answer that the call's own record allows; no answer is allowed here that is not allowed there.
use Rattle.std.specs.Prelude.{◌≡◌, pos}
use Rattle.space.specs.Verdicts.{Piece}
use Rattle.verdict.specs.Answers.{Answer, Answers}
use Rattle.desk.specs.Commands.{Outcome, number_of, outcome_count}
use Rattle.bench_desk.specs.declared.Reply.{Reply}
use Rattle.bench_desk.specs.declared.VerdictReply.{VerdictReply}

-- document 01's number of a command's answer, and its count
abbrev pub reply_to : Outcome → Reply
reply_to o = record { number = number_of o; count = outcome_count o }

-- the reply to an answer that is allowed
pub record Replies (Allowed : Outcome → Type 0) (r : Reply) : Type 0 where
  pub answer : Outcome
  pub allowed : Allowed answer
  pub same : r ≡ reply_to answer

-- the reply to the pair question on two lists with no gap between them: the witnesses stay behind
abbrev pub verdict_of : Answer → VerdictReply
verdict_of a = record { number = a.number; verdict = a.verdict }

pub record RepliesVerdict (A B : Piece) (r : VerdictReply) : Type 0 where
  pub answer : Answer
  pub allowed : Answers (pos 0) A B answer
  pub same : r ≡ verdict_of answer

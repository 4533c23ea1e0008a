-- What two results share that are allowed for one question: refused, they are one result, else both have a verdict, of one kind.
-- A verdict has no pairs where the pieces are separate, and no direction where they penetrate each other; so what the law of the answers says of these
-- (specs/AnswerLaws) is in the type.
use Rattle.std.specs.Prelude.{◌≡◌, ℕ, ℤ, Result, Ok, Err}
use Rattle.std.proofs.Common.{ap, arith}
use Rattle.limits.specs.declared.Refusal.{Refusal}
use Rattle.limits.proofs.RefusalLaws.{number_once, number_some}
use Rattle.space.specs.Verdicts.{Piece}
use Rattle.verdict.specs.declared.witnessed.Verdict.{Verdict}
use Rattle.verdict.specs.declared.witnessed.Verdict.TheVariants.{Separate, Touching, Penetrating}
use Rattle.verdict.specs.Answers.{answer_with, answer_of, Carries, Answers, OneAnswer, OneVerdict, OneResult}
use Rattle.verdict.specs.Judged.{not_refused}
use Rattle.verdict.specs.AnswerLaws.{answers_once, verdicts_once}

one_verdict : (v w : Verdict) → (answer_with v).verdict ≡ (answer_with w).verdict → OneVerdict v w
one_verdict (Separate d) (Separate e) h = tt
one_verdict (Separate d) (Touching e q) h = absurd (omega arith)
one_verdict (Separate d) (Penetrating q) h = absurd (omega arith)
one_verdict (Touching d p) (Separate e) h = absurd (omega arith)
one_verdict (Touching d p) (Touching e q) h = tt
one_verdict (Touching d p) (Penetrating q) h = absurd (omega arith)
one_verdict (Penetrating p) (Separate e) h = absurd (omega arith)
one_verdict (Penetrating p) (Touching e q) h = absurd (omega arith)
one_verdict (Penetrating p) (Penetrating q) h = tt

pub one_result : (q r : Result Verdict Refusal) → OneAnswer (answer_of q) (answer_of r) → OneResult q r
one_result (Ok v) (Ok w) o = one_verdict v w o.verdict
one_result (Ok v) (Err r) o = absurd (omega (arith, number_some r, not_refused v, o.number))
one_result (Err q) (Ok w) o = absurd (omega (arith, number_some q, not_refused w, o.number))
one_result (Err q) (Err r) o = ap Err (number_once q r o.number)

-- two results allowed for the same gap and lists
pub answer_result_once : {gap : ℤ} {A B : Piece} (q r : Result Verdict Refusal) → Answers gap A B (answer_of q) → Answers gap A B (answer_of r) → OneResult q r
answer_result_once q r a b = one_result q r (answers_once a b)

-- two verdicts of the same two pieces
pub verdict_result_once : {g : ℕ} {A B : Piece} (v w : Verdict) → Carries g A B (answer_with v) → Carries g A B (answer_with w) → OneVerdict v w
verdict_result_once v w a b = one_verdict v w (verdicts_once (not_refused v, a) (not_refused w, b)).verdict

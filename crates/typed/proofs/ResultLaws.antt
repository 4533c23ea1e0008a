-- Two results that are allowed for one text are equal, since document 01's answers to it are, and no two refusals have one number.
-- It stands here, above `answers_once`, since an edit may make that false.
use Rattle.std.specs.Prelude.{ℕ, ◌≡◌, List, Result, Ok, Err}
use Rattle.std.proofs.Common.{ap}
use Rattle.limits.proofs.RefusalLaws.{number_once}
use Rattle.limits.specs.declared.Refusal.{Refusal}
use Rattle.typed.specs.TypedLength.{typed_of, number_of, steps_of, LengthAnswers}
use Rattle.typed.specs.TypedLaws.{answers_once}

pub typed_once : {text : List ℕ} (q r : Result ℕ Refusal) → LengthAnswers text (typed_of q) → LengthAnswers text (typed_of r) → q ≡ r
typed_once q r a b = back q r (answers_once (typed_of q) (typed_of r) a b)
  where
    back : (q r : Result ℕ Refusal) → typed_of q ≡ typed_of r → q ≡ r
    back (Ok s) (Ok t) e = ap Ok (ap steps_of e)
    back (Ok s) (Err t) e = cc
    back (Err s) (Ok t) e = cc
    back (Err s) (Err t) e = ap Err (number_once s t (ap number_of e))

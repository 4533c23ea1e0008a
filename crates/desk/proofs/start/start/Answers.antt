-- `desk::start::start`: the length is tested before anything is written.
use mathlib.Core.Path.{refl, ◌∙◌, ap}
use mathlib.Core.Logic.{inl, inr}
use lib.ListN.{replicate}
use Prim.Native.Nat.{ℕ}
use Rattle.limits.specs.Limits
use Rattle.desk.specs.CommandLaws.{refuses, accepts, fresh-is}
use Rattle.desk.proofs.start.start.Goals as goal

pub returns-then-desk-ne-MARKS-clause-started : goal.returns-then-desk-ne-MARKS-clause-started
returns-then-desk-ne-MARKS-clause-started c = refuses (inl (c.if-desk-ne-MARKS.true, refl))

pub returns-clause-started : goal.returns-clause-started
returns-clause-started c =
    let long = c.if-desk-ne-MARKS.false in
    let r = c.start_rows.ensures in
    accepts (inr (λ f. f long, refl)) (fresh-is refl refl r.rows r.book (c.start_marks.ensures ∙ ap (λ (n : ℕ). replicate n Limits.no_mark) long), refl)

-- `lower` meets its contract: the order of refusals is that of their numbers.
use borrow.Author.Tests.{ltb-true, ltb-false}
use mathlib.Core.Bool.{Bool, true, false, cond}
use mathlib.Core.Logic.{inr}
use mathlib.Core.Path.{◌≡◌, refl, sym, ap, ◌∙◌}
use lib.Dec.{ltb}
use native.Mathlib.Omega.{arith}
use Rattle.limits.specs.Refusals.{number_of}
use Rattle.limits.specs.declared.Refusal.{Refusal}
use Rattle.limits.proofs.RefusalLaws.{min_is, number_some}
use Rattle.scans.specs.Lower.{lower_left, lower_right}
use Rattle.scans.specs.Scanned.{lower_of}
use Rattle.off_read.proofs.lower.Goals as goal

lower_is : (q r : Refusal) → number_of (cond (ltb (number_of r) (number_of q)) r q) ≡ lower_of (number_of q) (number_of r)
lower_is q r = go (ltb (number_of r) (number_of q)) refl
  where
    go : (b : Bool) → ltb (number_of r) (number_of q) ≡ b → number_of (cond b r q) ≡ lower_of (number_of q) (number_of r)
    go true e = sym (lower_right (number_of r) (number_of q) (number_some r) (inr (omega (arith, ltb-true (number_of r) (number_of q) e))))
    go false e = sym (lower_left (number_of q) (number_of r) (number_some q) (inr (ltb-false (number_of r) (number_of q) e)))

pub returns-in-Err : goal.returns-in-Err
returns-in-Err c = rw c.in-Err.is (ap number_of (c.min.ensures ∙ min_is c.in-Err.first c.args.refusal) ∙ lower_is c.in-Err.first c.args.refusal)

-- `space::length_fits`: by three tests, in the order in which they are made.
use Rattle.std.specs.Prelude.{◌≡◌, true, not, eqb, T}
use Rattle.std.proofs.Common.{sym, ◌∙◌, subst, eqb-true}
use Rattle.space.specs.Reaching.{fits_most}
use Rattle.space.proofs.length_fits.Goals as goal
use Rattle.space.proofs.length_fits.Goals.{then-n-ne0, else-n-ne0}

pub returns-then-n-eq0 : goal.returns-then-n-eq0
returns-then-n-eq0 c = elim c.if-n-ne0.branch [
  | then-n-ne0 w ↦ fits_most _ w.if-n-ne0.true (eqb-true _ 0 (sym w.value-is ∙ c.if-n-eq0.true))
  | else-n-ne0 w ↦ absurd (subst T (sym (subst (λ n. not (eqb n 0) ≡ true) w.if-n-ne0.false (sym w.value-is ∙ c.if-n-eq0.true))) tt)
]

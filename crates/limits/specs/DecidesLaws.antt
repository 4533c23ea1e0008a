-- Laws of tests that decide: how an answer is drawn from a test, and that two answers to one question are equal.
-- The definitions stand in Decides.
use Rattle.std.specs.Prelude.{◌≡◌, refl, Bool, true, false, not, T}
use Rattle.std.proofs.Common.{sym, ◌∙◌, subst}
use Rattle.limits.specs.Decides.{Decides}

-- the two ways to decide
pub holds : {b : Bool} {C : Type 0} → b ≡ true → C → Decides b C
holds e h = record { yes = λ _. h; no = λ f. absurd (subst T (sym e ∙ f) tt) }

pub fails : {b : Bool} {C : Type 0} → b ≡ false → (C → ⊥) → Decides b C
fails e h = record { yes = λ t. absurd (subst T (sym t ∙ e) tt); no = λ _. h }

-- the same test, told by an equal answer or of an equal condition
pub decides_is : {a b : Bool} {C : Type 0} → a ≡ b → Decides b C → Decides a C
decides_is e d = record { yes = λ t. d.yes (sym e ∙ t); no = λ t. d.no (sym e ∙ t) }

-- of a test that the code turns round, `if !near(..)`
pub unless_taken : {b : Bool} {C : Type 0} → Decides b C → not b ≡ true → C → ⊥
unless_taken {b = true} d e = absurd (subst T (sym e) tt)
unless_taken {b = false} d e = d.no refl

pub unless_left : {b : Bool} {C : Type 0} → Decides b C → not b ≡ false → C
unless_left {b = true} d e = d.yes refl
unless_left {b = false} d e = absurd (subst T e tt)

-- two answers to one question are equal
pub decides_once : {a b : Bool} {C : Type 0} → Decides a C → Decides b C → a ≡ b
decides_once {a = true} {b = true} d e = refl
decides_once {a = true} {b = false} d e = absurd (e.no refl (d.yes refl))
decides_once {a = false} {b = true} d e = absurd (d.no refl (e.yes refl))
decides_once {a = false} {b = false} d e = refl

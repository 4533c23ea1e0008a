-- From a command's own record to `Does`, by which command it is.
-- A callee sees a signed number through its bits; each law is told that what was handed on is what was handed in.
use Rattle.std.specs.Prelude.{◌≡◌, List, ℤ}
use Rattle.std.proofs.Common.{sym, subst}
use Rattle.pieces.specs.declared.placement.Placement.{Placement}
use Rattle.pieces.specs.declared.placement.Offset.{Offset}
use Rattle.desk_state.specs.Desk.{Desk}
use Rattle.desk.specs.Commands.{Outcome, Started, Loads, Places, Moves, Removed, SetsGap, Does}
use Rattle.desk.specs.declared.Command.{Command}
use Rattle.desk.specs.declared.Command.TheVariants.{Start, Load, Place, Move, Remove, Gap}

-- a promise of one number holds of an equal one
pub loads_at : {d e : Desk} {s t : ℤ} {l : List ℤ} {r : Outcome} → s ≡ t → Loads d s l e r → Loads d t l e r
loads_at {d} {e} {s} {t} {l} {r} p h = subst (λ (z : ℤ). Loads d z l e r) p h

pub places_at : {d e : Desk} {s t : ℤ} {q : Placement} {r : Outcome} → s ≡ t → Places d s q e r → Places d t q e r
places_at {d} {e} {s} {t} {q} {r} p h = subst (λ (z : ℤ). Places d z q e r) p h

pub moves_at : {d e : Desk} {s t u v : ℤ} {o : Offset} {r : Outcome} → s ≡ t → u ≡ v → Moves d s u o e r → Moves d t v o e r
moves_at {d} {e} {s} {t} {u} {v} {o} {r} p q h = subst (λ (z : ℤ). Moves d t z o e r) q (subst (λ (z : ℤ). Moves d z u o e r) p h)

pub removed_at : {d e : Desk} {s t : ℤ} {r : Outcome} → s ≡ t → Removed d s e r → Removed d t e r
removed_at {d} {e} {s} {t} {r} p h = subst (λ (z : ℤ). Removed d z e r) p h

pub gap_at : {d e : Desk} {s t : ℤ} {r : Outcome} → s ≡ t → SetsGap d s e r → SetsGap d t e r
gap_at {d} {e} {s} {t} {r} p h = subst (λ (z : ℤ). SetsGap d z e r) p h

-- ---- the promise of a command is that of its own record
does_is : (command c : Command) (numbers : List ℤ) (d after : Desk) (r : Outcome) → command ≡ c → Does c numbers d after r → Does command numbers d after r
does_is command c numbers d after r e h = subst (λ (k : Command). Does k numbers d after r) (sym e) h

module _ (command : Command) (numbers : List ℤ) {d after : Desk} {r : Outcome} where
  pub does_start : command ≡ Start → Started d after r → Does command numbers d after r
  does_start e h = does_is command _ numbers d after r e h

  pub does_load : {shape s : ℤ} → command ≡ Load shape → s ≡ shape → Loads d s numbers after r → Does command numbers d after r
  does_load e es h = does_is command _ numbers d after r e (subst (λ (i : ℤ). Loads d i numbers after r) es h)

  pub does_place : {place p : ℤ} {q : Placement} → command ≡ Place place q → p ≡ place → Places d p q after r → Does command numbers d after r
  does_place {q = q} e ep h = does_is command _ numbers d after r e (subst (λ (i : ℤ). Places d i q after r) ep h)

  pub does_move : {place turn p t : ℤ} {o : Offset} → command ≡ Move place turn o → p ≡ place → t ≡ turn → Moves d p t o after r → Does command numbers d after r
  does_move {turn = turn} {p} {o = o} e ep et h = does_is command _ numbers d after r e (subst (λ (i : ℤ). Moves d i turn o after r) ep (subst (λ (i : ℤ). Moves d p i o after r) et h))

  pub does_remove : {place p : ℤ} → command ≡ Remove place → p ≡ place → Removed d p after r → Does command numbers d after r
  does_remove e ep h = does_is command _ numbers d after r e (subst (λ (i : ℤ). Removed d i after r) ep h)

  pub does_gap : {gap g : ℤ} → command ≡ Gap gap → g ≡ gap → SetsGap d g after r → Does command numbers d after r
  does_gap e eg h = does_is command _ numbers d after r e (subst (λ (i : ℤ). SetsGap d i after r) eg h)

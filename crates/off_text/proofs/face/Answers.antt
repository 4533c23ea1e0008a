-- `face` meets its contract: a number that is not below the length of what is left has not so many words behind it (FaceLaws).
use lib.Dec.{T}
use mathlib.Core.Path.{sym, subst}
use Rattle.off_text.specs.FaceLaws.{face_not}
use Rattle.off_text.proofs.face.Goals as goal

pub returns-in-None-clause-told : goal.returns-in-None-clause-told
returns-in-None-clause-told c = record { good = λ g. absurd (subst T (sym g) tt); bad = λ _. face_not c.args.corners _ _ c.in-None.ensures.counted }

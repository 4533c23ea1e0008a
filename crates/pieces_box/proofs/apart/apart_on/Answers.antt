-- The two ways to be apart on an axis, each by two keys; where the first does not hold the second decides.
use Rattle.std.proofs.Common.{sym, ◌∙◌, subst}
use Rattle.pieces_box.specs.Apart.{ApartOnBy}
use Rattle.pieces_box.specs.ApartLaws.{apart_first, apart_second}
use Rattle.pieces_box.proofs.apart.apart_on.Goals as goal

pub returns-then-earlier : goal.returns-then-earlier
returns-then-earlier c =
    λ g e. subst (ApartOnBy g c.args.keys.now c.args.p c.args.q) (sym c.if-earlier.true)
    (apart_first c.requires.1 c.requires.2 e (sym c.earlier.ensures ∙ c.if-earlier.true))

pub returns-else-earlier : goal.returns-else-earlier
returns-else-earlier c =
    λ g e. apart_second c.requires.1 c.requires.2 e (sym c.earlier.ensures ∙ c.if-earlier.false) c.earlier-else-earlier.ensures

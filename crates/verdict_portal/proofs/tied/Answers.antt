-- `verdict_portal::tied`: the sign that is tested is `tie`; the shift's part of it only where the plain part is 0.
use mathlib.Core.Path.{ap, ◌∙◌}
use lib.IntN.{pos}
use lib.Signed.{lt_z}
use Rattle.verdict_portal.specs.Rounds.{tied_level, tied_clear, leading_within, zero_made, other_made, sign_made}
use Rattle.verdict_portal.proofs.tied.Goals as goal

pub returns-then-u-eq0 : goal.returns-then-u-eq0
returns-then-u-eq0 c =
    let s = c.args in
    let p = c.requires in
    ap (λ z. lt_z z (pos 0))
    (sign_made c.leading.ensures (leading_within c.cross-n.ensures.1 p.3 p.4 p.5)
    ∙ tied_level s.q s.p s.r s.f c.cross.ensures.0 c.sub.ensures.0 c.cross-n.ensures.0
    (zero_made c.leading-u.ensures (leading_within c.cross.ensures.1 p.3 p.4 p.5)
    c.if-u-eq0.true))

pub returns : goal.returns
returns c =
    let s = c.args in
    let p = c.requires in
    ap (λ z. lt_z z (pos 0))
    (sign_made c.leading-u.ensures (leading_within c.cross.ensures.1 p.3 p.4 p.5)
    ∙ tied_clear s.q s.p s.r s.f c.cross.ensures.0 (other_made c.leading-u.ensures c.if-u-eq0.false))

-- `verdict_portal::outside`: the sign that is tested is `side`; the shift's part of it only where the plain part is 0.
use mathlib.Core.Path.{ap, ◌∙◌}
use lib.IntN.{pos}
use lib.Signed.{lt_z}
use mir.Syntax.{w64}
use Rattle.ints.specs.Bounds.{worth, k-is, k_back}
use Rattle.ints.proofs.Known.{known}
use Rattle.space.specs.Ranges.{upto_le}
use Rattle.verdict_portal.specs.Rounds.{side_level, side_clear, dot_within, zero_made, other_made, sign_made}
use Rattle.verdict_portal.proofs.outside.Goals as goal

pub returns-then-u-eq0 : goal.returns-then-u-eq0
returns-then-u-eq0 c =
    let s = c.args in
    let p = c.requires in
    ap (λ z. lt_z z (pos 0))
    (worth (k_back w64 c.dot.result (k-is c.dot.ensures (search known depth 25))) tt
    ∙ side_level s.q s.p s.b s.c p.x_value.0 c.sub.ensures.0 c.cross-e.ensures.0 c.add.ensures.0
    (zero_made c.dot-u.ensures (dot_within (upto_le tt p.x_value.1) p.upto.1) c.if-u-eq0.true))

pub returns : goal.returns
returns c =
    let s = c.args in
    let p = c.requires in
    ap (λ z. lt_z z (pos 0))
    (sign_made c.dot-u.ensures (dot_within (upto_le tt p.x_value.1) p.upto.1)
    ∙ side_clear s.q s.p s.b s.c p.x_value.0 (other_made c.dot-u.ensures c.if-u-eq0.false))

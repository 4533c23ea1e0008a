-- `verdict_walk::behind`: the sign of n·p, or of n·q on a tie.
use mathlib.Core.Path.{ap}
use lib.IntN.{pos}
use lib.Signed.{lt_z}
use mir.Syntax.{w64}
use Rattle.ints.specs.Bounds.{worth, k-is, k_back}
use Rattle.ints.proofs.Known.{known}
use Rattle.verdict_portal.specs.Rounds.{k_lex}
use Rattle.verdict_walk.proofs.path.behind.Goals as goal

pub returns : goal.returns
returns c =
    ap (λ z. lt_z z (pos 0))
    (worth (k_back w64 c.first_of.result (k-is c.first_of.ensures (search (known, k_lex, k-is c.dot-2.ensures, k-is c.dot.ensures) depth 25))) tt)

-- `verdict_portal::leading`: two choices of the first number that is not 0, of three dots.
use mir.Syntax.{w64}
use Rattle.ints.specs.Bounds.{worth, k-is, k_back, k_within}
use Rattle.verdict_portal.specs.Rounds.{k_lex, dot_within}
use Rattle.ints.specs.Bounds.{worth, k-is}
use Rattle.verdict_portal.specs.Rounds.{k_lex}
use Rattle.verdict_portal.proofs.leading.Goals as goal

pub returns : goal.returns
returns c =
    let s = c.requires in
    worth
    (k_back w64 _
    (k-is c.first_of-2.ensures
    (k_lex _ _ (k_back w64 _ (k-is c.dot.ensures (k_within (dot_within s.0 s.1))))
    (k_back w64 _
    (k-is c.first_of.ensures
    (k_lex _ _ (k_back w64 _ (k-is c.dot-2.ensures (k_within (dot_within s.0 s.2))))
    (k_back w64 _ (k-is c.dot-3.ensures (k_within (dot_within s.0 s.3))))))))))
    tt

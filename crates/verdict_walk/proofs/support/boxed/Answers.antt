-- `verdict_walk::boxed`: the three signs are put together.
use mir.Syntax.{w64}
use Rattle.ints.specs.Bounds.{worth, k_back, k_within}
use Rattle.verdict_walk.specs.PointLaws.{signed_is}
use Rattle.verdict_walk.specs.PointLaws.{boxed_by}
use Rattle.verdict_walk.proofs.support.boxed.Goals as goal

pub returns : goal.returns
returns c =
    let u = c.requires.0 in
    let v = c.requires.1 in
    boxed_by
    (signed_is (worth (k_back w64 _ (k_within u.ux)) tt) (worth (k_back w64 _ (k_within v.ux)) tt) (worth (k_back w64 _ (k_within c.signed.ensures.most)) tt)
    c.signed.ensures)
    (signed_is (worth (k_back w64 _ (k_within u.uy)) tt) (worth (k_back w64 _ (k_within v.uy)) tt) (worth (k_back w64 _ (k_within c.signed-2.ensures.most)) tt)
    c.signed-2.ensures)
    (signed_is (worth (k_back w64 _ (k_within u.uz)) tt) (worth (k_back w64 _ (k_within v.uz)) tt) (worth (k_back w64 _ (k_within c.signed-3.ensures.most)) tt) c.signed-3.ensures)

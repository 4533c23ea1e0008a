-- `verdict_walk::cube_of`: three bits, put together.
use mathlib.Core.Path.{ap, ◌∙◌}
use Prim.Native.Nat.{◌+◌, ◌*◌}
use mir.Syntax.{w64}
use Rattle.ints.specs.Bounds.{worth, k_back, k_within}
use Rattle.verdict_walk.specs.Points.{bit_of}
use Rattle.verdict_walk.proofs.support.cube_of.Goals as goal

pub returns : goal.returns
returns c =
    let u = c.requires in
    let x = c.bit_of.ensures.0 ∙ ap bit_of (worth (k_back w64 _ (k_within u.ux)) tt) in
    let y = c.bit_of-2.ensures.0 ∙ ap bit_of (worth (k_back w64 _ (k_within u.uy)) tt) in
    let z = c.bit_of-3.ensures.0 ∙ ap bit_of (worth (k_back w64 _ (k_within u.uz)) tt) in
    λ i. 4 * x i + 2 * y i + z i

-- `desk_move::moved_to`: the shape that the place holds, and the new turn and offset.
-- What a taken place holds is one of 1 to 32, so that one less fits.
use mathlib.Core.Path.{◌≡◌}
use native.Mathlib.Omega.{arith}
use borrow.Author.Rules.{rules}
use mir.Syntax.{w32}
use mir.Val.{to_z, of_z}
use mir.Facts.{to_z-of_z}
use Rattle.ints.specs.Bounds.{fits, worth, k_back, k_abs, k_lit_pos}
use Rattle.ints.proofs.Known.{k_sub}
use Rattle.pieces.specs.Pieces.{held_in}
use Rattle.desk_move.specs.Moving.{moved_eq}
use Rattle.desk_move.proofs.moved_to.Goals as goal

pub overflow_sub-result : goal.overflow_sub-result
overflow_sub-result c =
    fits (k_sub _ _ (k_back w32 _ (k_abs (held_in c.args.places.now c.args.place) 32 (omega (arith, c.requires.1.below)))) (k_lit_pos {n = 1})) tt

pub returns : goal.returns
returns c =
    let o = c.args.o in
    let x : to_z w32 (of_z w32 o.x) ≡ o.x = search rules in
    let y : to_z w32 (of_z w32 o.y) ≡ o.y = search rules in
    let z : to_z w32 (of_z w32 o.z) ≡ o.z = search rules in
    moved_eq (worth (k_back w32 _ (k_sub _ _ (k_back w32 _ (k_abs (held_in c.args.places.now c.args.place) 32 (omega (arith, c.requires.1.below)))) (k_lit_pos {n = 1}))) tt)
    (to_z-of_z c.ranges.turn) x y z

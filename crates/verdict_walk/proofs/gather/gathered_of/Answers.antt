-- `verdict_walk::gathered_of`: four pushes, each with a determinant for its weight.
use mathlib.Core.Path.{refl, ap}
use lib.IntN.{pos, ◌-ℤ◌}
use native.Mathlib.Omega.{arith}
use mir.Syntax.{w64}
use Rattle.ints.specs.Bounds.{fits, k-is, k_within, k_lit_pos, k_back}
use Rattle.ints.proofs.Known.{k_sub}
use Rattle.verdict_walk.specs.GatherLaws.{room_none, room_more, room_le, pushed_as, weight_within, minus_within, weight_is, weight_fits}
use Rattle.verdict_walk.proofs.gather.gathered_of.Goals as goal

pub overflow_sub-det : goal.overflow_sub-det
overflow_sub-det c =
    let s = c.requires in
    fits (k_sub (pos 0) _ k_lit_pos (k_back w64 _ (k-is c.det.ensures (k_within (weight_within s.portal.ina s.portal.inb s.portal.inc))))) tt

pub push-one-requires-clause-room : goal.push-one-requires-clause-room
push-one-requires-clause-room c =
    let s = c.requires in
    let w = weight_within s.portal.ina s.portal.inb s.portal.inc in room_none c.nothing_yet.ensures

pub push-one-requires-clause-within : goal.push-one-requires-clause-within
push-one-requires-clause-within c =
    let s = c.requires in
    let w = weight_within s.portal.ina s.portal.inb s.portal.inc in weight_fits (ap (λ z. pos 0 -ℤ z) (weight_is c.det.ensures w)) (minus_within w)

pub push-two-requires-clause-room : goal.push-two-requires-clause-room
push-two-requires-clause-room c =
    let s = c.requires in room_le (omega arith) (room_more (room_none {n = 0} c.nothing_yet.ensures) c.push-one.ensures)

pub push-two-requires-clause-within : goal.push-two-requires-clause-within
push-two-requires-clause-within c =
    let s = c.requires in weight_fits c.det-2.ensures (weight_within s.last s.portal.inb s.portal.inc)

pub push-three-requires-clause-room : goal.push-three-requires-clause-room
push-three-requires-clause-room c =
    let s = c.requires in room_le (omega arith)
    (room_more (room_more (room_none {n = 0} c.nothing_yet.ensures) c.push-one.ensures) c.push-two.ensures)

pub push-three-requires-clause-within : goal.push-three-requires-clause-within
push-three-requires-clause-within c =
    let s = c.requires in weight_fits c.det-3.ensures (weight_within s.portal.ina s.last s.portal.inc)

pub det-requires-4 : goal.det-requires-4
det-requires-4 c =
    let s = c.requires in
    (s.portal.ina, s.portal.inb, s.last)

pub push-requires-clause-room : goal.push-requires-clause-room
push-requires-clause-room c =
    let s = c.requires in room_le (omega arith)
    (room_more (room_more
    (room_more (room_none {n = 0} c.nothing_yet.ensures) c.push-one.ensures)
    c.push-two.ensures) c.push-three.ensures)

pub push-requires-clause-within : goal.push-requires-clause-within
push-requires-clause-within c =
    let s = c.requires in weight_fits c.det-4.ensures (weight_within s.portal.ina s.portal.inb s.last)

pub returns : goal.returns
returns c =
    let s = c.requires in
    let w = weight_within s.portal.ina s.portal.inb s.portal.inc in
    record {
      g1 = c.push-one.result;
      g2 = c.push-two.result;
      g3 = c.push-three.result;
      first =
          pushed_as c.nothing_yet.ensures
          (weight_is (ap (λ z. pos 0 -ℤ z) (weight_is c.det.ensures w)) (minus_within w))
          c.push-one.ensures;
      second =
          pushed_as refl (weight_is c.det-2.ensures (weight_within s.last s.portal.inb s.portal.inc))
          c.push-two.ensures;
      third = pushed_as refl (weight_is c.det-3.ensures (weight_within s.portal.ina s.last s.portal.inc)) c.push-three.ensures;
      fourth = pushed_as refl (weight_is c.det-4.ensures (weight_within s.portal.ina s.portal.inb s.last)) c.push.ensures;
    }

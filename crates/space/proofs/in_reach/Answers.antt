-- `space::in_reach`: every number before the index is near; the loop ends at the first that is not.
use mathlib.Core.Path.{refl, sym, subst}
use mir.Syntax.{w32}
use mir.Val.{to_z, of_z}
use mir.Facts.{to_z-of_z}
use native.Mathlib.Omega.{arith}
use lib.ListN.{get_or}
use lib.IntN.{pos}
use borrow.Author.Count.{below_more}
use Rattle.ints.specs.Bounds.{element}
use Rattle.limits.specs.DecidesLaws.{holds, fails}
use Rattle.space.specs.Lists.{IsNear}
use Rattle.space.proofs.in_reach.Goals as goal

pub returns-then-not-near : goal.returns-then-not-near
returns-then-not-near c =
    let i = c.loop-x.x-index in
    let z = get_or c.args.s.now i (pos 0) in
    let r = to_z w32 (of_z w32 c.args.reach) in
    fails refl
    (λ h. c.near.ensures.no c.if-not-near.true
    (subst (IsNear r) (sym (element w32 z c.near-arg-1.given)) (subst (λ n. IsNear n z) (sym (to_z-of_z c.ranges.reach)) (h.all i c.loop-x-test.true))))

pub loop-x-preserved : goal.loop-x-preserved
loop-x-preserved c =
    let i = c.loop-x.x-index in
    below_more _ i c.loop-x.invariant
    (subst (IsNear (to_z w32 (of_z w32 c.args.reach))) (element w32 (get_or c.args.s.now i (pos 0)) c.near-arg-1.given) (c.near.ensures.yes c.if-not-near.false))

pub returns : goal.returns
returns c =
    holds refl (record { all = λ k h. subst (λ n. IsNear n (get_or c.args.s.now k (pos 0))) (to_z-of_z c.ranges.reach) (c.loop-x.invariant k (omega arith)) })

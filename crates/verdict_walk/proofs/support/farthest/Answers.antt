-- `verdict_walk::farthest`: `best` is the farthest of the corners before `i`, and `far` how far it is.
use mathlib.Core.Path.{◌≡◌, ap, ◌∙◌}
use Prim.Native.Nat.{ℕ}
use native.Mathlib.Omega.{arith}
use lib.IntN.{ℤ}
use lib.Signed.{◌≤ℤ◌}
use mir.Syntax.{w64}
use mir.Val.{of_z, to_z}
use Rattle.ints.specs.Bounds.{k_back, k-is, k_within, worth}
use Rattle.ints.specs.Order.{le_of_eq}
use Rattle.ints.proofs.Tests.{t_less, lt-true, lt-false}
use Rattle.space.specs.Vectors.{dot}
use Rattle.space.specs.Ranges.{upto_le}
use Rattle.space.specs.Verdicts.{corner_at}
use Rattle.verdict_walk.specs.PointLaws.{far_within, most_taken, some_corner}
use borrow.Author.Count.{below_more}
use Rattle.verdict_walk.proofs.support.farthest.Goals as goal
use Rattle.verdict_walk.proofs.support.farthest.Goals.{then-far-v, else-far-v}

pub corner-requires-clause-placed : goal.corner-requires-clause-placed
corner-requires-clause-placed c = c.requires.placed

pub corner-requires-clause-i_bound : goal.corner-requires-clause-i_bound
corner-requires-clause-i_bound c = some_corner c.requires.placed

pub dot-far-requires : goal.dot-far-requires
dot-far-requires c = (upto_le tt c.requires.upto, upto_le tt c.corner.ensures.1)

pub loop-i-init : goal.loop-i-init
loop-i-init c =
    let h = some_corner c.requires.placed in (
      worth (k_back w64 _ (k-is (c.dot-far.ensures ∙ ap (dot c.args.d) c.corner.ensures.0) (k_within (far_within c.requires.upto c.requires.placed 0 h)))) tt,
      omega arith,
      λ k h. let e : k ≡ 0 = omega arith in le_of_eq (ap (λ j. dot c.args.d (corner_at c.args.s.now j)) e),
    )

pub corner-requires-in-loop-i-clause-placed : goal.corner-requires-in-loop-i-clause-placed
corner-requires-in-loop-i-clause-placed c = c.requires.placed

pub corner-requires-in-loop-i-clause-i_bound : goal.corner-requires-in-loop-i-clause-i_bound
corner-requires-in-loop-i-clause-i_bound c = omega arith

pub dot-v-requires : goal.dot-v-requires
dot-v-requires c = (upto_le tt c.requires.upto, upto_le tt c.corner-in-loop-i.ensures.1)

pub loop-i-preserved : goal.loop-i-preserved
loop-i-preserved c =
    let f : ℕ → ℤ = λ k. dot c.args.d (corner_at c.args.s.now k) in
    let l = c.loop-i in
    let v-is : c.dot-v.result ≡ f l.i = c.dot-v.ensures ∙ ap (dot c.args.d) c.corner-in-loop-i.ensures.0 in
    let far-is = k-is l.invariant.0 (k_within (far_within c.requires.upto c.requires.placed l.best (omega arith))) in
    let v-known = k-is v-is (k_within (far_within c.requires.upto c.requires.placed l.i (omega arith))) in
    let test = t_less (to_z w64 l.far-bits) (to_z w64 (of_z w64 c.dot-v.result)) far-is (k_back w64 c.dot-v.result v-known) in
    elim c.if-far-v.branch [
      | then-far-v w ↦ rw w.best-is (w.far-is ∙ worth (k_back w64 _ v-known) tt, omega arith, most_taken f l.best l.i l.invariant.2 (lt-true w.if-far-v.true test tt))
      | else-far-v w ↦ rw w.best-is (w.far-is ∙ l.invariant.0, omega arith, below_more (λ k. f k ≤ℤ f l.best) l.i l.invariant.2 (lt-false w.if-far-v.false test tt))
    ]

pub returns : goal.returns
returns c = record { inside = omega arith; most = λ k h. c.loop-i.invariant.2 k (omega arith) }

-- `pieces::placed::placed_number`: three corner numbers and an offset, each near, turned and moved.
use Rattle.std.proofs.Common.{◌≡◌, ◌*◌, ◌+◌, ℤ, sym, ◌∙◌, subst, w32, to_z, of_z, arith}
use Rattle.ints.specs.Bounds.{Within, worth, k_back, k_within}
use Rattle.limits.specs.Limits
use Rattle.pieces.specs.Placed.{number_at, placed_eq}
use Rattle.pieces.proofs.placed.placed_number.Goals as goal

-- what is near is read as it is
near : {v : ℤ} → Within Limits.shape_reach v → to_z w32 (of_z w32 v) ≡ v
near h = worth (k_back w32 _ (k_within h)) tt

pub returns : goal.returns
unfolding number_at
returns c =
    let h = c.requires.0 in
    let i = c.args.i in
    let e = c.placed_axis.ensures in
    let b : to_z w32 (of_z w32 c.placed_axis.result) ≡ c.placed_axis.result = worth (k_back w32 _ (k_within e.1)) tt in (
      b ∙ e.0 ∙ placed_eq c.args.pose.turn c.args.axis (near (h.near (3 * i) (omega arith))) (near (h.near (3 * i + 1) (omega arith))) (near (h.near (3 * i + 2) (omega arith)))
          (near (h.offset c.args.axis c.requires.2)),
      subst (Within Limits.placed_reach) (sym b) e.1,
    )

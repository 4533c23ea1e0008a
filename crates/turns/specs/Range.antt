-- How far a turned and a placed corner reach.
-- "A placed corner is the turned corner plus the offset, so it lies within ±131,072." (document 01, "What the desk holds")
use Rattle.std.specs.Prelude.{Bool, true, false, cond, ℕ, eqb, ℤ, pos, neg_ℤ, nat_abs}
use Rattle.std.proofs.Common.{arith}
use Rattle.std.specs.Int.Signed.{lt_z}
use Rattle.limits.specs.Limits
use Rattle.ints.specs.Bounds.{Within, nat_abs_neg, nat_abs_add}
use Rattle.turns.specs.Turns.{named_axis, along, signed_axis, turned_at, placed_at}

pub axis_within : (n : ℕ) {reach : ℕ} {x y z : ℤ} → Within reach x → Within reach y → Within reach z → Within reach (named_axis n x y z)
axis_within n {reach} {x} {y} {z} hx hy hz = first (eqb n 1) (eqb n 2)
  where
    first : (a b : Bool) → Within reach (cond a x (cond b y z))
    first true b = hx
    first false true = hy
    first false false = hz

pub along_within : (k : ℤ) {reach : ℕ} {x y z : ℤ} → Within reach x → Within reach y → Within reach z → Within reach (along k x y z)
along_within k {reach} {x} {y} {z} hx hy hz = signed (lt_z k (pos 0)) (named_axis (nat_abs k) x y z) (axis_within (nat_abs k) hx hy hz)
  where
    signed : (b : Bool) (v : ℤ) → Within reach v → Within reach (cond b (neg_ℤ v) v)
    signed true v h = record { abs = omega (arith, nat_abs_neg v, h.abs) }
    signed false v h = h

-- a turned coordinate is within what the corner's are
pub turned_within : (turn axis : ℕ) {reach : ℕ} {x y z : ℤ} → Within reach x → Within reach y → Within reach z → Within reach (turned_at turn axis x y z)
unfolding turned_at
turned_within turn axis hx hy hz = along_within (signed_axis turn axis) hx hy hz

-- a placed coordinate of a shape's corner at an offset
pub placed_within : (turn axis : ℕ) {x y z offset : ℤ} → Within Limits.shape_reach x → Within Limits.shape_reach y → Within Limits.shape_reach z → Within Limits.shape_reach offset
    → Within Limits.placed_reach (placed_at turn axis x y z offset)
unfolding placed_at
placed_within turn axis {x} {y} {z} {offset} hx hy hz ho =
    record { abs = omega (arith, nat_abs_add (turned_at turn axis x y z) offset, (turned_within turn axis hx hy hz).abs, ho.abs) }

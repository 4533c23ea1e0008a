-- Two pieces of the table: the pair question's answer on their lists, the row of their places, and that such a desk there is.
-- Each from one test of the two lists and their verdict.
use Rattle.std.specs.Prelude.{◌≡◌, refl, List, Bool, ◌&&◌, ℕ, ◌*◌, ◌/◌, ◌<◌, T, eqb, leb, ℤ, pos, nat_abs, length, get_or}
use Rattle.std.proofs.Common.{sym, subst, inl, inr, arith, eqb→eq, leb→le}
use Rattle.limits.specs.Limits
use Rattle.limits.specs.Lowest.{Lowest}
use Rattle.space.specs.Lists.{LengthFits, InReach, Placed}
use Rattle.space.specs.Verdicts.{VerdictIs}
use Rattle.space.proofs.ExclusionLaws.{verdict_once}
use Rattle.verdict.specs.Answers.{Answer, Answers, refusals}
use Rattle.turns.specs.Table.{and_left, and_right, below, number}
use Rattle.bench.specs.Table.{placed, Between}
use Rattle.bench.specs.Holding.{placed_length, is_apart, is_mixed, apart_row, verdict_row}
use Rattle.bench.specs.Standing.{Loadable, two_stand}

-- ---- what may be asked about: 1 to 64 corners, and no number of a placed one beyond ±131,072
abbrev pub is_near : ℕ → List ℤ → Bool
is_near reach s = below (λ k. leb (nat_abs (get_or s k (pos 0))) reach) (length s)

pub near_by : (reach : ℕ) (s : List ℤ) → T (is_near reach s) → InReach reach s
near_by reach s t = record { all = λ k l. record { abs = leb→le _ reach (number (λ k. leb (nat_abs (get_or s k (pos 0))) reach) (length s) t k l) } }

-- and what may be loaded: no number of a shape beyond ±65,536
abbrev is_long : List ℤ → Bool
is_long s = (leb 1 (length s / 3) && leb (length s / 3) Limits.corners) && eqb (length s) (3 * (length s / 3))

abbrev is_shape : List ℤ → Bool
is_shape s = is_long s && is_near Limits.shape_reach s

shape_by : (s : List ℤ) → T (is_shape s) → Loadable s
shape_by s t =
    let long = and_left (is_long s) _ t in
    let size = and_left (leb 1 (length s / 3) && leb (length s / 3) Limits.corners) _ long in
    record {
      fits = record {
        count = length s / 3;
        least = leb→le 1 (length s / 3) (and_left (leb 1 (length s / 3)) _ size);
        most = leb→le (length s / 3) Limits.corners (and_right (leb 1 (length s / 3)) _ size);
        is = eqb→eq (length s) (3 * (length s / 3)) (and_right (leb 1 (length s / 3) && leb (length s / 3) Limits.corners) _ long);
      };
      near = near_by Limits.shape_reach s (and_right (is_long s) _ t);
    }

placed_by : (shape : List ℤ) (x y z : ℕ) → LengthFits (length shape) → T (is_near Limits.placed_reach (placed shape x y z)) → Placed (placed shape x y z)
placed_by shape x y z f t = record { fits = subst LengthFits (sym (placed_length f.count shape x y z (sym f.is))) f; near = near_by Limits.placed_reach (placed shape x y z) t }

-- the pair question on two such lists is not refused, and its verdict is the right one
answered : {A B : List ℤ} {v : ℕ} → Placed A → Placed B → VerdictIs 0 A B v → (r : Answer) → Answers (pos 0) A B r → (r.number ≡ 0) × (r.verdict ≡ v)
answered {A} {B} {v} a b right r h = go h.refusal
  where
    go : Lowest (refusals (pos 0) A B) r.number → (r.number ≡ 0) × (r.verdict ≡ v)
    go (inl (inl f, e)) = absurd (f a.fits)
    go (inl (inr f, e)) = absurd (f b.fits)
    go (inr (k, inl (inl f, e))) = absurd (f a.near)
    go (inr (k, inl (inr f, e))) = absurd (f b.near)
    go (inr (k, inr (l, inl (f, e)))) = absurd (f (record { natural = refl; below = omega arith }))
    go (inr (k, inr (l, inr (f, e)))) = (e, verdict_once (h.carries e).right right)

-- ---- two pieces, the first at 0
abbrev pub is_case : List ℤ → List ℤ → ℕ → ℕ → ℕ → Bool
is_case first second x y z = (is_shape first && is_shape second) && (is_near Limits.placed_reach (placed first 0 0 0) && is_near Limits.placed_reach (placed second x y z))

pub record Case (first second : List ℤ) (x y z v : ℕ) : Type 0 where
  pub test : T (is_case first second x y z)
  pub right : VerdictIs 0 (placed first 0 0 0) (placed second x y z) v

module _ {first second : List ℤ} {x y z v : ℕ} (c : Case first second x y z v) where
  shapes : Loadable first × Loadable second
  shapes =
      let t = and_left (is_shape first && is_shape second) _ c.test in
      (shape_by first (and_left (is_shape first) _ t), shape_by second (and_right (is_shape first) _ t))

  answers : (r : Answer) → Answers (pos 0) (placed first 0 0 0) (placed second x y z) r → (r.number ≡ 0) × (r.verdict ≡ v)
  answers =
      let t = and_right (is_shape first && is_shape second) _ c.test in
      answered
      (placed_by first 0 0 0 shapes.0.fits (and_left (is_near Limits.placed_reach (placed first 0 0 0)) _ t))
      (placed_by second x y z shapes.1.fits (and_right (is_near Limits.placed_reach (placed first 0 0 0)) _ t))
      c.right

  -- boxes that are not apart: the row is the verdict
  pub mixed : T (is_mixed (placed first 0 0 0) (placed second x y z)) → Between first second x y z v v
  mixed t = record { lists = c.right; answers = answers; desks = λ d p q h k. verdict_row h k t c.right; there_is = two_stand first second shapes.0 shapes.1 x y z }

  -- boxes that are apart along an axis: the row is 0
  pub apart : (axis : ℕ) → axis < 3 → T (is_apart axis (placed first 0 0 0) (placed second x y z)) → Between first second x y z v 0
  apart axis l t = record { lists = c.right; answers = answers; desks = λ d p q h k. apart_row h k axis l t; there_is = two_stand first second shapes.0 shapes.1 x y z }

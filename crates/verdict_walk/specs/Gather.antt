-- How the pairs of a meeting are gathered: one point after the other, those of no weight left out.
-- What was gathered is a list of fair pairs whose weighted differences have a known sum. gap is how far the first piece is widened.
use Rattle.std.specs.Prelude.{◌≡◌, ℕ, zero, suc, ◌+◌, ◌≤◌, length, set, take, get_or, ℤ, pos, ◌-ℤ◌}
use mathlib.Core.List.{Memᴰ}
use Rattle.space.specs.declared.Vec3.{Vec3}
use Rattle.space.specs.declared.Pair.{Pair}
use Rattle.space.specs.Vectors.{minus, det}
use Rattle.space.specs.Verdicts.{Piece, corner_at, widened_at, weighted, Fair}
use Rattle.verdict_walk.specs.declared.support.Difference.{Difference}
use Rattle.verdict_walk.specs.declared.path.Ended.{Ended}
use Rattle.space.specs.declared.Pairs.{Pairs}
use Rattle.verdict_walk.specs.NoPairs.{no_pair, no_pairs}

-- with no gap answers carry cube corner 0
abbrev pub named : ℕ → ℕ → ℕ
named zero c = 0
named (suc gap) c = c

abbrev pub weighed_pair : ℕ → Difference → ℤ → Pair
weighed_pair gap p w = record { first = p.first; cube = named gap p.cube; second = p.second; weight = w }

-- the difference of the pair that a point gives
abbrev pub base_of : ℕ → Piece → Piece → Difference → Vec3
base_of gap A B p = minus (widened_at gap A p.first (named gap p.cube)) (corner_at B p.second)

abbrev pub nothing_yet : Pairs
nothing_yet = record { count = 0; pairs = no_pairs }

-- one point more, unless it weighs nothing
pub record Pushed (gap : ℕ) (g : Pairs) (p : Difference) (w : ℤ) (r : Pairs) : Type 0 where
  pub none : w ≡ pos 0 → r ≡ g
  pub counted : (w ≡ pos 0 → ⊥) → r.count ≡ g.count + 1
  pub stored : (w ≡ pos 0 → ⊥) → r.pairs ≡ set g.pairs g.count (weighed_pair gap p w)

-- what has been gathered of n points, with the sums of its weighted differences
pub record Gather (gap : ℕ) (A B : Piece) (n : ℕ) (x y z : ℤ) (g : Pairs) : Type 0 where
  pub size : length g.pairs ≡ 4
  pub few : g.count ≤ n
  pub fair : (p : Pair) → Memᴰ p (take g.count g.pairs) → Fair A B p
  pub sum_x : weighted (λ v. v.x) gap A B (take g.count g.pairs) ≡ x
  pub sum_y : weighted (λ v. v.y) gap A B (take g.count g.pairs) ≡ y
  pub sum_z : weighted (λ v. v.z) gap A B (take g.count g.pairs) ≡ z
  pub rest : (k : ℕ) → g.count ≤ k → get_or g.pairs k no_pair ≡ no_pair
  pub uncubed : gap ≡ 0 → (k : ℕ) → (get_or g.pairs k no_pair).cube ≡ 0

-- there is room for the next of four
pub record Room (n : ℕ) (g : Pairs) : Type 0 where
  pub few : g.count ≤ n
  pub size : length g.pairs ≡ 4

-- ---- the weights of a meeting
pub record Weighed (gap : ℕ) (e : Ended) (r : Pairs) : Type 0 where
  pub g1 : Pairs
  pub g2 : Pairs
  pub g3 : Pairs
  pub first : Pushed gap nothing_yet e.last (pos 0 -ℤ det e.portal.a.at e.portal.b.at e.portal.c.at) g1
  pub second : Pushed gap g1 e.portal.a (det e.last.at e.portal.b.at e.portal.c.at) g2
  pub third : Pushed gap g2 e.portal.b (det e.portal.a.at e.last.at e.portal.c.at) g3
  pub fourth : Pushed gap g3 e.portal.c (det e.portal.a.at e.portal.b.at e.last.at) r

-- What follows from the definitions: separate, touching and penetrating exclude each other, so a right verdict is one number, right both ways.
-- That one of the three always holds is what the walk shows.
use Rattle.std.specs.Prelude.{◌≡◌, refl, ℕ, ◌≤◌, length, pos, negsuc, ◌+ℤ◌, ◌-ℤ◌, ◌*ℤ◌, ◌≤ℤ◌, ◌<ℤ◌}
use Rattle.std.proofs.Common.{sym, ap₂, ◌∙◌, subst, inl, inr, arith}
use Rattle.std.proofs.Math.Path.{ap}
use mathlib.Core.List.Memᴰ
use mathlib.Core.List.{List, [], ◌∷◌, Memᴰ}
use Rattle.std.proofs.Math.Logic.{⊎_elim}
use Rattle.std.proofs.Math.IntN.{ℤ, +ℤ_idr}
use Rattle.std.specs.Int.Signed.{<ℤ_irrefl, <ℤ-≤ℤ_trans, ≤ℤ_refl}
use Rattle.ints.proofs.Quote.{sides, by_ring}
use Rattle.ints.specs.Order.{lt→≤ℤ, ≤ℤ-antisymm}
use Rattle.ints.proofs.OrderLaws.{le_comb, lt_comb, nn_of_le, pos_of_lt, nn_add, nn_mul, pos_add, pos_mul, pos_suc, zero-product, eq_comb, z_diff}
use Rattle.ints.proofs.SignLaws.{gt_other}
use Rattle.space.specs.Vectors.{Vec3, dot, minus, origin, env1}
use Rattle.space.specs.Verdicts.{Piece, Pair, corner_at, widened_at, difference_of, Below, NotAbove, Separate, weighted, Fair, Balance, Meeting, Supported, Touching, Penetrating}
use Rattle.space.specs.Verdicts.{VerdictIs}
use Rattle.space.specs.Exclusion.{BothWays}

-- ---- a balance along a direction d
weighted_dot : (d : Vec3) (g : ℕ) (A B : Piece) (ps : List Pair)
    → weighted (dot d) g A B ps ≡ d.x *ℤ weighted (λ v. v.x) g A B ps +ℤ d.y *ℤ weighted (λ v. v.y) g A B ps +ℤ d.z *ℤ weighted (λ v. v.z) g A B ps
unfolding weighted
weighted_dot d g A B [] = by_ring (env1 d []) (search sides depth 9) refl
weighted_dot d g A B (p ∷ ps) =
    ap (λ z. p.weight *ℤ dot d (difference_of g A B p) +ℤ z) (weighted_dot d g A B ps)
    ∙ by_ring
    (p.weight ∷ weighted (λ v. v.x) g A B ps ∷ weighted (λ v. v.y) g A B ps ∷ weighted (λ v. v.z) g A B ps ∷ env1 d (env1 (widened_at g A p.first p.cube) (env1 (corner_at B p.second) [])))
    (search sides depth 40) refl

balance_dot : {g : ℕ} {A B : Piece} {ps : List Pair} → Balance g A B ps → (d : Vec3) → weighted (dot d) g A B ps ≡ pos 0
balance_dot {g} {A} {B} {ps} b d =
    weighted_dot d g A B ps
    ∙ ap₂ (λ u v. d.x *ℤ u +ℤ d.y *ℤ v +ℤ d.z *ℤ weighted (λ w. w.z) g A B ps) b.zero_x b.zero_y
    ∙ ap (λ u. d.x *ℤ pos 0 +ℤ d.y *ℤ pos 0 +ℤ d.z *ℤ u) b.zero_z ∙ by_ring (env1 d []) (search sides depth 9) refl

-- along a direction that has no pair above, fair pairs weigh no more than nothing; where it parts them all, less
positive : {A B : Piece} {p : Pair} → Fair A B p → pos 0 <ℤ p.weight
positive f = <ℤ-≤ℤ_trans (pos_suc 0) f.least

behind : (d a b : Vec3) → dot d a ≤ℤ dot d b → dot d (minus a b) ≤ℤ pos 0
behind d a b h = le_comb (nn_of_le h) (by_ring (env1 d (env1 a (env1 b []))) (search sides depth 40) refl)

ahead : (d a b : Vec3) → dot d a <ℤ dot d b → pos 0 <ℤ (pos 0 -ℤ dot d (minus a b))
ahead d a b h = subst (λ z. pos 0 <ℤ z) (by_ring (env1 d (env1 a (env1 b []))) (search sides depth 40) refl) (pos_of_lt h)

outweighed : (w g r : ℤ) → pos 0 -ℤ (w *ℤ g +ℤ r) ≡ w *ℤ (pos 0 -ℤ g) +ℤ (pos 0 -ℤ r)
outweighed w g r = by_ring (w ∷ g ∷ r ∷ []) (search sides depth 9) refl

module _ {d : Vec3} {g : ℕ} {A B : Piece} (above : NotAbove d g A B) where
  pair_behind : {p : Pair} → Fair A B p → dot d (difference_of g A B p) ≤ℤ pos 0
  pair_behind {p} k = behind d (widened_at g A p.first p.cube) (corner_at B p.second) (above.all p.first p.cube p.second k.of_first k.of_cube k.of_second)

  not_more : (ps : List Pair) → ((p : Pair) → Memᴰ p ps → Fair A B p) → weighted (dot d) g A B ps ≤ℤ pos 0
  unfolding weighted
  not_more [] f = ≤ℤ_refl (pos 0)
  not_more (p ∷ ps) f =
      let k = f p (Memᴰ.head refl) in
      le_comb (nn_add (nn_mul (lt→≤ℤ (positive k)) (nn_of_le (pair_behind k))) (nn_of_le (not_more ps (λ q m. f q (Memᴰ.tail m)))))
      (outweighed p.weight (dot d (difference_of g A B p)) (weighted (dot d) g A B ps))

  -- so where they balance, each of them is level with it
  level_pairs : (ps : List Pair) → ((p : Pair) → Memᴰ p ps → Fair A B p) → weighted (dot d) g A B ps ≡ pos 0
      → (p : Pair) → Memᴰ p ps → dot d (difference_of g A B p) ≡ pos 0
  unfolding weighted
  level_pairs [] f e p m = absurd (Memᴰ.not-nil m)
  level_pairs (q ∷ ps) f e p m = ⊎_elim
      (λ k. ap (λ (r : Pair). dot d (difference_of g A B r)) k ∙ here)
      (λ k. level_pairs ps (λ r l. f r (Memᴰ.tail l)) rest p k) (Memᴰ.cases_cons m)
    where
      l : ℤ
      l = dot d (difference_of g A B q)

      r : ℤ
      r = weighted (dot d) g A B ps

      fair : Fair A B q
      fair = f q (Memᴰ.head refl)

      rest : r ≡ pos 0
      rest = ≤ℤ-antisymm (not_more ps (λ s l. f s (Memᴰ.tail l)))
          (subst (λ z. pos 0 ≤ℤ z) (eq_comb (z_diff (negsuc 0) e) (by_ring (q.weight ∷ l ∷ r ∷ []) (search sides depth 9) refl)) (nn_mul (lt→≤ℤ (positive fair)) (nn_of_le (pair_behind fair))))

      here : l ≡ pos 0
      here = ⊎_elim (λ z. absurd (gt_other (positive fair) z)) (λ z. z) (zero-product q.weight l (sym (+ℤ_idr (q.weight *ℤ l)) ∙ ap (λ z. q.weight *ℤ l +ℤ z) (sym rest) ∙ e))

pub balanced_level : {d : Vec3} {g : ℕ} {A B : Piece} {ps : List Pair} → NotAbove d g A B → Balance g A B ps
    → (p : Pair) → Memᴰ p ps → dot d (difference_of g A B p) ≡ pos 0
balanced_level {d} {ps = ps} above b = level_pairs above ps b.fair (balance_dot b d)

not_above : {d : Vec3} {g : ℕ} {A B : Piece} → Below d g A B → NotAbove d g A B
not_above b = record { all = λ i c j hi hc hj. lt→≤ℤ (b.all i c j hi hc hj) }

less : {d : Vec3} {g : ℕ} {A B : Piece} → Below d g A B → (ps : List Pair) → 1 ≤ length ps → ((p : Pair) → Memᴰ p ps → Fair A B p) → weighted (dot d) g A B ps <ℤ pos 0
unfolding weighted
less b [] n f = absurd (omega arith)
less {d} {g} {A} {B} b (p ∷ ps) n f =
    let k = f p (Memᴰ.head refl) in
    lt_comb
    (pos_add
    (pos_mul (positive k) (ahead d (widened_at g A p.first p.cube) (corner_at B p.second) (b.all p.first p.cube p.second k.of_first k.of_cube k.of_second)))
    (nn_of_le (not_more (not_above b) ps (λ q m. f q (Memᴰ.tail m)))))
    (outweighed p.weight (dot d (difference_of g A B p)) (weighted (dot d) g A B ps))

-- ---- the exclusions
pub not_both : {g : ℕ} {A B : Piece} → Separate g A B → Meeting g A B → ⊥
not_both s m =
    <ℤ_irrefl (subst (λ z. z <ℤ pos 0) (balance_dot m.balance s.direction) (less s.parts m.pairs m.balance.some m.balance.fair))

-- ---- what W5 asks of a direction implies what document 01 asked: it is not zero
pub supported_nonzero : {g : ℕ} {A B : Piece} {d : Vec3} → Supported d g A B → d ≡ origin → ⊥
supported_nonzero {g} {A} {B} s e =
    let p = s.parted in
    <ℤ_irrefl (subst (λ z. z <ℤ pos 0) (zero (widened_at g A p.first p.cube)) (subst (λ z. dot origin (widened_at g A p.first p.cube) <ℤ z) (zero (corner_at B p.second))
    (subst (λ v. dot v (widened_at g A p.first p.cube) <ℤ dot v (corner_at B p.second)) e p.less)))
  where
    zero : (v : Vec3) → dot origin v ≡ pos 0
    zero v = by_ring (env1 v []) (search sides depth 9) refl

pub not_touching : {g : ℕ} {A B : Piece} → Touching g A B → Penetrating g A B → ⊥
not_touching t p = p.free t.direction t.supported

-- ---- a right verdict is one number
pub verdict_once : {g : ℕ} {A B : Piece} {u v : ℕ} → VerdictIs g A B u → VerdictIs g A B v → u ≡ v
verdict_once (inl p) (inl q) = p.0 ∙ sym q.0
verdict_once (inl p) (inr (inl q)) = absurd (not_both p.1 q.1.meeting)
verdict_once (inl p) (inr (inr q)) = absurd (not_both p.1 q.1.meeting)
verdict_once (inr (inl p)) (inl q) = absurd (not_both q.1 p.1.meeting)
verdict_once (inr (inl p)) (inr (inl q)) = p.0 ∙ sym q.0
verdict_once (inr (inl p)) (inr (inr q)) = absurd (not_touching p.1 q.1)
verdict_once (inr (inr p)) (inl q) = absurd (not_both q.1 p.1.meeting)
verdict_once (inr (inr p)) (inr (inl q)) = absurd (not_touching q.1 p.1)
verdict_once (inr (inr p)) (inr (inr q)) = p.0 ∙ sym q.0

pub both_ways : {g : ℕ} {A B : Piece} {v : ℕ} → VerdictIs g A B v → BothWays g A B v
both_ways {v} r = record {
  is_separate = λ e. ⊎_elim (λ p. p.1) (⊎_elim (λ p. absurd (let k : ◌≡◌ {A = ℕ} 1 2 = sym e ∙ p.0 in omega arith)) (λ p. absurd (let k : ◌≡◌ {A = ℕ} 1 3 = sym e ∙ p.0 in omega arith))) r;
  of_separate = λ s. verdict_once r (inl (refl, s));
  is_touching_lem = λ e. ⊎_elim (λ p. absurd (let k : ◌≡◌ {A = ℕ} 2 1 = sym e ∙ p.0 in omega arith)) (⊎_elim (λ p. p.1) (λ p. absurd (let k : ◌≡◌ {A = ℕ} 2 3 = sym e ∙ p.0 in omega arith))) r;
  of_touching = λ s. verdict_once r (inr (inl (refl, s)));
  is_penetrating_lem = λ e. ⊎_elim (λ p. absurd (let k : ◌≡◌ {A = ℕ} 3 1 = sym e ∙ p.0 in omega arith)) (⊎_elim (λ p. absurd (let k : ◌≡◌ {A = ℕ} 3 2 = sym e ∙ p.0 in omega arith)) (λ p. p.1)) r;
  of_penetrating = λ s. verdict_once r (inr (inr (refl, s)));
}

-- Laws of the points that a walk sees: supports, what lies below, and what a wall of the widened difference says of the pieces.
-- The definitions stand in Points.
use Rattle.std.specs.Prelude.{◌≡◌, refl, [], ◌∷◌, ℕ, zero, suc, ◌+◌, ◌-◌, ◌*◌, ◌/◌, ◌%◌, ◌≤◌, ◌<◌, ℤ, pos, negsuc, neg_ℤ, ◌+ℤ◌, ◌-ℤ◌, ◌*ℤ◌, ◌≤ℤ◌, ◌<ℤ◌}
use Rattle.std.proofs.Common.{sym, ap, ◌∙◌, subst, inl, inr, arith, below_more}
use Rattle.std.specs.Int.Signed.{clash_ℤ}
use Rattle.ints.proofs.Quote.{sides, by_ring}
use Rattle.ints.specs.Order.{lt→≤ℤ, le_of_eq, ≤ℤ-trans}
use Rattle.ints.proofs.OrderLaws.{le_comb, lt_comb, nn_of_le, pos_of_lt, nn_add, nn_mul, nn_pos, <ℤ-neg, <ℤ-cancel, ≤ℤ-cancel, <ℤ-add}
use Rattle.ints.specs.Bounds.{Within, within}
use Rattle.ints.proofs.Known.{known}
use Rattle.limits.specs.Limits.{placed_reach, gap_most}
use Rattle.space.specs.declared.Vec3.{Vec3}
use Rattle.space.specs.Vectors.{dot, minus, plus, env1, origin, opposite, vec_eq}
use Rattle.space.specs.Ranges.{Upto, point_reach, normal_reach, upto_le}
use Rattle.space.specs.Verdicts.{Piece, corner_count, corner_at, cube_corners, side, cube_corner, widened_at, Below, Supported}
use Rattle.space.specs.NoGap.{PlainBelow, PlainSupported}
use Rattle.space.proofs.NoGapLaws.{below_plain, supported_plain}
use Rattle.space.specs.Lists.{Placed}
use Rattle.verdict_portal.specs.Flat.{had, vec, Sign, Signs}
use Rattle.verdict_portal.specs.Rounds.{dot_within}
use Rattle.verdict_portal.specs.Exits.{Wall}
use Rattle.verdict_walk.specs.declared.support.Difference.{Difference}
use Rattle.verdict_walk.specs.Points.{sign_at, cube_signs, bit_of, cube_of, Spread, Tagged, Box, cube_widths, BoxOf, Farthest, Signed, Boxed, Supports}

pub spread_of : {A B : Piece} {g : Vec3} {p : Difference} → Tagged A B g p → Spread A B g p.at
spread_of {p} t = record { first = p.first; cube = p.cube; second = p.second; of_first = t.of_first; of_cube = t.of_cube; of_second = t.of_second; is = t.is }

-- ---- the signs of a cube corner
sign_at_lem : (k : ℕ) → Sign (sign_at k)
sign_at_lem zero = inr refl
sign_at_lem (suc k) = inl refl

cube_signs_lem : (c : ℕ) → Signs (cube_signs c)
cube_signs_lem c = record { one_x = sign_at_lem (c / 4 % 2); one_y = sign_at_lem (c / 2 % 2); one_z = sign_at_lem (c % 2) }

-- a cube of half-width g, by its signs, is the cube of the definitions
side_signed : (g k : ℕ) → sign_at k *ℤ pos g ≡ side g k
side_signed g zero = down (pos g)
  where
    down : (u : ℤ) → negsuc 0 *ℤ u ≡ neg_ℤ u
    down u = by_ring (u ∷ []) (search sides depth 9) refl
side_signed g (suc k) = up (pos g)
  where
    up : (u : ℤ) → pos 1 *ℤ u ≡ u
    up u = by_ring (u ∷ []) (search sides depth 9) refl

cube_had : (g c : ℕ) → had (cube_signs c) (cube_widths g) ≡ cube_corner g c
cube_had g c = vec_eq (side_signed g (c / 4 % 2)) (side_signed g (c / 2 % 2)) (side_signed g (c % 2))

-- so a point of the widened difference is a widened corner less a corner of the second piece
pub widened_spread : (g : ℕ) (A : Piece) (b : Vec3) (i c : ℕ) → plus (minus (corner_at A i) b) (had (cube_signs c) (cube_widths g)) ≡ minus (widened_at g A i c) b
unfolding widened_at
widened_spread g A b i c = ap (plus (minus (corner_at A i) b)) (cube_had g c) ∙ moved (corner_at A i) b (cube_corner g c)
  where
    moved : (a b s : Vec3) → plus (minus a b) s ≡ minus (plus a s) b
    moved a b s = vec_eq (r a.x b.x s.x) (r a.y b.y s.y) (r a.z b.z s.z)
      where
        r : (u v t : ℤ) → u -ℤ v +ℤ t ≡ u +ℤ t -ℤ v
        r u v t = by_ring (u ∷ v ∷ t ∷ []) (search sides depth 9) refl

-- the opposite corner of the cube has the opposite signs
turned : (k l : ℕ) → k + l ≡ 1 → pos 0 -ℤ sign_at k ≡ sign_at l
turned zero zero e = absurd (omega arith)
turned zero (suc l) e = refl
turned (suc k) zero e = refl
turned (suc k) (suc l) e = absurd (omega arith)

turned_cube : (c : ℕ) → c < cube_corners → opposite (cube_signs c) ≡ cube_signs (7 - c)
turned_cube c h = vec_eq (turned (c / 4 % 2) ((7 - c) / 4 % 2) (omega arith)) (turned (c / 2 % 2) ((7 - c) / 2 % 2) (omega arith)) (turned (c % 2) ((7 - c) % 2) (omega arith))

-- ---- the cube corner that a vector looks at
pub bit_below : {n : ℤ} → n <ℤ pos 0 → bit_of n ≡ 0
bit_below {n = pos m} h = absurd (clash_ℤ h (nn_pos m))
bit_below {n = negsuc m} h = refl

pub bit_above : {n : ℤ} → pos 0 ≤ℤ n → bit_of n ≡ 1
bit_above {n = pos m} h = refl
bit_above {n = negsuc m} h = absurd h.le

bit_most : (n : ℤ) → bit_of n < 2
bit_most (pos n) = omega arith
bit_most (negsuc n) = omega arith

pub cube_inside : (v : Vec3) → cube_of v < cube_corners
cube_inside v = omega (arith, bit_most v.x, bit_most v.y, bit_most v.z)

-- its signs, coordinate by coordinate
pub looking : (v : Vec3) → cube_signs (cube_of v) ≡ vec (sign_at (bit_of v.x)) (sign_at (bit_of v.y)) (sign_at (bit_of v.z))
looking v = go (bit_of v.x) (bit_of v.y) (bit_of v.z) (bit_most v.x) (bit_most v.y) (bit_most v.z)
  where
    go : (x y z : ℕ) → x < 2 → y < 2 → z < 2 → cube_signs (4 * x + 2 * y + z) ≡ vec (sign_at x) (sign_at y) (sign_at z)
    go x y z hx hy hz =
        let ex : (4 * x + 2 * y + z) / 4 % 2 ≡ x = omega arith in
        let ey : (4 * x + 2 * y + z) / 2 % 2 ≡ y = omega arith in
        let ez : (4 * x + 2 * y + z) % 2 ≡ z = omega arith in
        vec_eq (ap sign_at ex) (ap sign_at ey) (ap sign_at ez)

-- ---- sizes
pub corner_upto : {s : Piece} → Placed s → (i : ℕ) → i < corner_count s → Upto placed_reach (corner_at s i)
unfolding corner_at
corner_upto {s} p i h = record { ux = p.near.all (3 * i) (omega arith); uy = p.near.all (3 * i + 1) (omega arith); uz = p.near.all (3 * i + 2) (omega arith) }

sign_size : {s : ℤ} → Sign s → Within 1 s
sign_size (inl e) = subst (Within 1) (sym e) (within (search known depth 3) tt)
sign_size (inr e) = subst (Within 1) (sym e) (within (search known depth 3) tt)

sum_size : {a b s g : ℤ} → Within placed_reach a → Within placed_reach b → Within 1 s → Within gap_most g → Within point_reach (a -ℤ b +ℤ s *ℤ g)
sum_size ha hb hs hg = within (search known depth 9) tt

pub spread_upto : {A B : Piece} {g y : Vec3} → Placed A → Placed B → Box g → Spread A B g y → Upto point_reach y
spread_upto {A} {B} {g} pa pb bx s =
    let ua = corner_upto pa s.first s.of_first in
    let ub = corner_upto pb s.second s.of_second in
    let sg = cube_signs_lem s.cube in
    subst (Upto point_reach) (sym s.is)
    (record {
      ux = sum_size ua.ux ub.ux (sign_size sg.one_x) bx.most.ux;
      uy = sum_size ua.uy ub.uy (sign_size sg.one_y) bx.most.uy;
      uz = sum_size ua.uz ub.uz (sign_size sg.one_z) bx.most.uz;
    })

-- 36H³ bounds what a scan compares
pub far_within : {d : Vec3} {s : Piece} → Upto normal_reach d → Placed s → (k : ℕ) → k < corner_count s → Within 679395106750464000 (dot d (corner_at s k))
far_within u p k h = dot_within (upto_le tt u) (upto_le tt (corner_upto p k h))

pub most_taken : (f : ℕ → ℤ) (b i : ℕ) → ((k : ℕ) → k < i → f k ≤ℤ f b) → f b <ℤ f i → (k : ℕ) → k < i + 1 → f k ≤ℤ f i
most_taken f b i h t = below_more (λ k. f k ≤ℤ f i) i (λ k e. ≤ℤ-trans (h k e) (lt→≤ℤ t)) (le_of_eq refl)

-- of g with either sign, n's product with the one that has n's own sign is the greatest
sign_up : (n t g : ℤ) → pos 0 ≤ℤ n → pos 0 ≤ℤ g → Sign t → (n *ℤ (t *ℤ g)) ≤ℤ (n *ℤ (pos 1 *ℤ g))
sign_up n t g k hg (inl e) = le_of_eq (ap (λ z. n *ℤ (z *ℤ g)) e)
sign_up n t g k hg (inr e) =
    subst (λ z. (n *ℤ (z *ℤ g)) ≤ℤ (n *ℤ (pos 1 *ℤ g))) (sym e) (le_comb (nn_mul (nn_pos 2) (nn_mul k hg)) (by_ring (n ∷ g ∷ []) (search sides depth 9) refl))

sign_down : (n t g : ℤ) → n <ℤ pos 0 → pos 0 ≤ℤ g → Sign t → (n *ℤ (t *ℤ g)) ≤ℤ (n *ℤ (negsuc 0 *ℤ g))
sign_down n t g k hg (inl e) =
    subst (λ z. (n *ℤ (z *ℤ g)) ≤ℤ (n *ℤ (negsuc 0 *ℤ g))) (sym e) (le_comb (nn_mul (nn_pos 2) (nn_mul (lt→≤ℤ (<ℤ-neg k)) hg)) (by_ring (n ∷ g ∷ []) (search sides depth 9) refl))
sign_down n t g k hg (inr e) = le_of_eq (ap (λ z. n *ℤ (z *ℤ g)) e)

sign_most : (n t g : ℤ) → pos 0 ≤ℤ g → Sign t → (n *ℤ (t *ℤ g)) ≤ℤ (n *ℤ (sign_at (bit_of n) *ℤ g))
sign_most (pos m) t g hg u = sign_up (pos m) t g (nn_pos m) hg u
sign_most (negsuc m) t g hg u = sign_down (negsuc m) t g (record { lt = tt }) hg u

pub signed_below : {n g r : ℤ} → n <ℤ pos 0 → Within gap_most g → r ≡ pos 0 -ℤ g → Signed n g r
signed_below {g} h w e = record {
  is = e ∙ by_ring (g ∷ []) (search sides depth 9) refl ∙ ap (λ k. sign_at k *ℤ g) (sym (bit_below h));
  most = subst (Within gap_most) (sym e) (within (search known depth 9) tt);
}

pub signed_above : {n g r : ℤ} → pos 0 ≤ℤ n → Within gap_most g → r ≡ g → Signed n g r
signed_above {g} h w e = record {
  is = e ∙ by_ring (g ∷ []) (search sides depth 9) refl ∙ ap (λ k. sign_at k *ℤ g) (sym (bit_above h));
  most = subst (Within gap_most) (sym e) w;
}

pub signed_is : {n m g h r t : ℤ} → n ≡ m → g ≡ h → t ≡ r → Signed n g r → Signed m h t
signed_is {m} {g} {h} {r} en eg et s = subst (λ z. Signed m h z) (sym et) (subst (λ z. Signed m z r) eg (subst (λ z. Signed z g r) en s))

-- and it is one
pub signed_once : {n g q r : ℤ} → Signed n g q → Signed n g r → q ≡ r
signed_once a b = a.is ∙ sym b.is

pub boxed_by : {n g : Vec3} {x y z : ℤ} → Signed n.x g.x x → Signed n.y g.y y → Signed n.z g.z z → Boxed n g (vec x y z)
boxed_by {n} {g} sx sy sz = record {
  is = vec_eq sx.is sy.is sz.is ∙ ap (λ s. had s g) (sym (looking n));
  most = record { ux = sx.most; uy = sy.most; uz = sz.most };
}

pub supports : {A B : Piece} {g n m : Vec3} {p : Difference} → Box g → Farthest n A p.first → m ≡ minus origin n → Farthest m B p.second → p.cube ≡ cube_of n
    → p.at ≡ plus (minus (corner_at A p.first) (corner_at B p.second)) (had (cube_signs (cube_of n)) g) → Supports A B g n p
supports {A} {B} {g} {n} {m} {p} bx fa em fb ec e = record {
  tagged = here;
  support = record {
    of = spread_of here;
    most = λ y k.
        let t = cube_signs_lem k.cube in
        subst (λ v. dot n y ≤ℤ dot n v) (sym at-is) (subst (λ v. dot n v ≤ℤ dot n (plus (minus a b) (had s g))) (sym k.is) (le_comb
        (nn_add (nn_add (nn_of_le (fa.most k.first k.of_first)) (nn_of_le (subst (λ v. dot v (corner_at B k.second) ≤ℤ dot v b) em (fb.most k.second k.of_second))))
        (nn_add (nn_add (nn_of_le (sign_most n.x (cube_signs k.cube).x g.x bx.nn_x t.one_x))
        (nn_of_le (sign_most n.y (cube_signs k.cube).y g.y bx.nn_y t.one_y)))
        (nn_of_le (sign_most n.z (cube_signs k.cube).z g.z bx.nn_z t.one_z))))
        (cert s (corner_at A k.first) (corner_at B k.second) (cube_signs k.cube))));
  };
}
  where
    a : Vec3
    a = corner_at A p.first

    b : Vec3
    b = corner_at B p.second

    s : Vec3
    s = vec (sign_at (bit_of n.x)) (sign_at (bit_of n.y)) (sign_at (bit_of n.z))

    at-is : p.at ≡ plus (minus a b) (had s g)
    at-is = e ∙ ap (λ v. plus (minus a b) (had v g)) (looking n)

    here : Tagged A B g p
    here = record {
      of_first = fa.inside;
      of_cube = subst (λ c. c < cube_corners) (sym ec) (cube_inside n);
      of_second = fb.inside;
      is = e ∙ ap (λ c. plus (minus a b) (had (cube_signs c) g)) (sym ec);
    }

    cert : (s c d t : Vec3) → dot n (plus (minus a b) (had s g)) -ℤ dot n (plus (minus c d) (had t g))
        ≡ (dot n a -ℤ dot n c) +ℤ (dot (minus origin n) b -ℤ dot (minus origin n) d) +ℤ
        ((n.x *ℤ (s.x *ℤ g.x) -ℤ n.x *ℤ (t.x *ℤ g.x)) +ℤ (n.y *ℤ (s.y *ℤ g.y) -ℤ n.y *ℤ (t.y *ℤ g.y)) +ℤ (n.z *ℤ (s.z *ℤ g.z) -ℤ n.z *ℤ (t.z *ℤ g.z)))
    cert s c d t = by_ring (env1 n (env1 a (env1 b (env1 s (env1 g (env1 c (env1 d (env1 t [])))))))) (search sides depth 40) refl

-- ---- what the pieces see of it
abbrev pub spread_at : {A B : Piece} {g : Vec3} (i c j : ℕ) → i < corner_count A → c < cube_corners → j < corner_count B
    → Spread A B g (plus (minus (corner_at A i) (corner_at B j)) (had (cube_signs c) g))
spread_at i c j hi hc hj = record { first = i; cube = c; second = j; of_first = hi; of_cube = hc; of_second = hj; is = refl }

-- what is said of a difference along n is said of its two corners
parted_less : (n a b : Vec3) → dot n (minus a b) <ℤ pos 0 → dot n a <ℤ dot n b
parted_less n a b h = lt_comb (pos_of_lt h) (by_ring (env1 n (env1 a (env1 b []))) (search sides depth 40) refl)

parted_most : (n a b : Vec3) → dot n (minus a b) ≤ℤ pos 0 → dot n a ≤ℤ dot n b
parted_most n a b h = le_comb (nn_of_le h) (by_ring (env1 n (env1 a (env1 b []))) (search sides depth 40) refl)

-- F3: two opposite corners of the box about one base come to twice the base, so what is said of both along n is said of it
twice : (n a b s g : Vec3) → dot n (plus (minus a b) (had s g)) +ℤ dot n (plus (minus a b) (had (opposite s) g)) ≡ pos 2 *ℤ dot n (minus a b)
twice n a b s g = by_ring (env1 n (env1 a (env1 b (env1 s (env1 g []))))) (search sides depth 40) refl

base_less : (n a b s g : Vec3) → dot n (plus (minus a b) (had s g)) <ℤ pos 0 → dot n (plus (minus a b) (had (opposite s) g)) ≤ℤ pos 0 → dot n a <ℤ dot n b
base_less n a b s g h k =
    parted_less n a b (<ℤ-cancel {a = dot n (minus a b)} {b = pos 0} (pos 2) (record { lt = tt }) (subst (λ z. z <ℤ pos 0) (twice n a b s g) (<ℤ-add h k)))

base_most : (n a b s g : Vec3) → dot n (plus (minus a b) (had s g)) ≤ℤ pos 0 → dot n (plus (minus a b) (had (opposite s) g)) ≤ℤ pos 0 → dot n a ≤ℤ dot n b
base_most n a b s g h k =
    parted_most n a b (≤ℤ-cancel {a = dot n (minus a b)} {b = pos 0} (pos 2) (record { lt = tt }) (subst (λ z. z ≤ℤ pos 0) (twice n a b s g) (sum h k)))
  where
    sum : {u v : ℤ} → u ≤ℤ pos 0 → v ≤ℤ pos 0 → (u +ℤ v) ≤ℤ pos 0
    sum {u} {v} h k = le_comb (nn_add (nn_of_le h) (nn_of_le k)) (by_ring (u ∷ v ∷ []) (search sides depth 9) refl)

-- all of the set behind n: separate. With no gap by F3, with one since its points are the differences of the widened piece
module _ {A B : Piece} {g : Vec3} (n : Vec3) (h : (y : Vec3) → Spread A B g y → dot n y <ℤ pos 0) where
  plain_below : PlainBelow n A B
  plain_below = record {
    all = λ i j hi hj. base_less n (corner_at A i) (corner_at B j) (cube_signs 7) g (h _ (spread_at i 7 j hi (omega arith) hj)) (lt→≤ℤ (h _ (spread_at i 0 j hi (omega arith) hj)));
  }

  pub below_of : {gap : ℕ} → BoxOf gap g → Below n gap A B
  below_of {gap} (inl e) = subst (λ k. Below n k A B) (sym e) ((below_plain A B).1 plain_below)
  below_of {gap} (inr e) = record {
    all = λ i c j hi hc hj. parted_less n (widened_at gap A i c) (corner_at B j)
        (subst (λ v. dot n v <ℤ pos 0) (ap (λ w. plus (minus (corner_at A i) (corner_at B j)) (had (cube_signs c) w)) e ∙ widened_spread gap A (corner_at B j) i c) (h _ (spread_at i c j hi hc hj)));
  }

-- a wall of the set is a direction of touching: the pair of the point behind it is parted
module _ {A B : Piece} {g n : Vec3} (w : Wall (Spread A B g) n) where
  some : Spread A B g w.some
  some = w.some_of

  plain_supported : PlainSupported n A B
  plain_supported = record {
    above = λ i j hi hj. base_most n (corner_at A i) (corner_at B j) (cube_signs 7) g (w.flat _ (spread_at i 7 j hi (omega arith) hj)) (w.flat _ (spread_at i 0 j hi (omega arith) hj));
    first = some.first;
    second = some.second;
    of_first = some.of_first;
    of_second = some.of_second;
    less = base_less n (corner_at A some.first) (corner_at B some.second) (cube_signs some.cube) g (subst (λ v. dot n v <ℤ pos 0) some.is w.some_less)
        (subst (λ s. dot n (plus (minus (corner_at A some.first) (corner_at B some.second)) (had s g)) ≤ℤ pos 0) (sym (turned_cube some.cube some.of_cube))
        (w.flat _ (spread_at some.first (7 - some.cube) some.second some.of_first (omega arith) some.of_second)));
  }

  pub supported_of : {gap : ℕ} → BoxOf gap g → Supported n gap A B
  supported_of {gap} (inl e) = subst (λ k. Supported n k A B) (sym e) ((supported_plain A B).1 plain_supported)
  supported_of {gap} (inr e) = record {
    above = record {
      all = λ i c j hi hc hj. parted_most n (widened_at gap A i c) (corner_at B j) (subst (λ v. dot n v ≤ℤ pos 0) (widened i c j) (w.flat _ (spread_at i c j hi hc hj)));
    };
    parted = record {
      first = some.first;
      cube = some.cube;
      second = some.second;
      of_first = some.of_first;
      of_cube = some.of_cube;
      of_second = some.of_second;
      less = parted_less n (widened_at gap A some.first some.cube) (corner_at B some.second)
          (subst (λ v. dot n v <ℤ pos 0) (some.is ∙ widened some.first some.cube some.second) w.some_less);
    };
  }
    where
      widened : (i c j : ℕ) → plus (minus (corner_at A i) (corner_at B j)) (had (cube_signs c) g) ≡ minus (widened_at gap A i c) (corner_at B j)
      widened i c j = ap (λ w. plus (minus (corner_at A i) (corner_at B j)) (had (cube_signs c) w)) e ∙ widened_spread gap A (corner_at B j) i c

-- with no box: the plain differences
pub plain_at : (a b s : Vec3) → plus (minus a b) (had s origin) ≡ minus a b
plain_at a b s = vec_eq (none (a.x -ℤ b.x) s.x) (none (a.y -ℤ b.y) s.y) (none (a.z -ℤ b.z) s.z)
  where
    none : (u v : ℤ) → u +ℤ v *ℤ pos 0 ≡ u
    none u v = by_ring (u ∷ v ∷ []) (search sides depth 9) refl

-- a list that fits has a corner
pub some_corner : {s : Piece} → Placed s → 1 ≤ corner_count s
some_corner p = let a = p.fits.least in let e = p.fits.is in omega arith

-- against n is as far as along it
pub opposite_upto : {n m : Vec3} → Upto normal_reach n → m ≡ minus origin n → Upto normal_reach m
opposite_upto {n} u e = subst (Upto normal_reach) (sym e) (opposed n u)
  where
    opposed : (n : Vec3) → Upto normal_reach n → Upto normal_reach (minus origin n)
    opposed n u = record { ux = within (search known depth 9) tt; uy = within (search known depth 9) tt; uz = within (search known depth 9) tt }

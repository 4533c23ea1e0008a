-- Laws of frames: each look of the scan, each kind of flat set, and that what is found starts a walk.
-- The definitions stand in Frames.
use Rattle.std.specs.Prelude.{◌≡◌, refl, [], ◌∷◌, Bool, true, false, ◌⊎◌, ℕ, ◌+◌, ◌-◌, ◌≤◌, ◌<◌, T, leb, eqb, ℤ, pos, negsuc, neg_ℤ, ◌+ℤ◌, ◌-ℤ◌, ◌*ℤ◌, ◌≤ℤ◌, ◌<ℤ◌}
use Rattle.std.proofs.Common.{sym, ap, ap₂, ◌∙◌, subst, inl, inr, ⊎_elim, arith, leb→le, of_z, lt-ltb, le-ltb, eqb-true}
use Rattle.std.specs.Int.{w64}
use Rattle.std.specs.Int.Signed.{clash_ℤ, lt_z}
use Rattle.std.proofs.lemmas.Bool.{eqb-false}
use Rattle.ints.proofs.Quote.{sides, by_ring}
use Rattle.ints.specs.Order.{le-or-lt, lt→≤ℤ, lt-or-ge}
use Rattle.ints.proofs.OrderLaws.{le_comb, lt_comb, nn_of_le, pos_of_lt, nn_mul, pos_mul, pos_add, pos_suc, pos_lt, <ℤ-neg, eq_comb, z_diff, z_add, nn_pos}
use Rattle.ints.proofs.SignLaws.{lt_other, gt_other}
use Rattle.ints.specs.Bounds.{Within, within, nat_abs_add, nat_abs_neg}
use Rattle.ints.proofs.Known.{known}
use Rattle.limits.specs.Limits.{gap_most}
use Rattle.limits.specs.Decides.{Decides}
use Rattle.limits.specs.DecidesLaws.{holds, fails}
use Rattle.space.specs.declared.Vec3.{Vec3}
use Rattle.space.specs.declared.Axis.{Axis}
use Rattle.space.specs.declared.Axis.TheVariants.{X, Y, Z}
use Rattle.space.specs.Vectors.{dot, cross, minus, plus, scale, det, env1, origin, opposite, vec_eq, unit, next_axis, coordinate}
use Rattle.space.specs.Ranges.{Upto, normal_reach, upto_le}
use Rattle.space.specs.Verdicts.{Piece, corner_count, corner_at, cube_corners, widened_at, Supported}
use Rattle.space.proofs.NoGapLaws.{unwidened}
use Rattle.space.specs.Lists.{Placed}
use Rattle.verdict_portal.specs.declared.Three.{Three}
use Rattle.verdict_portal.specs.Flat.{had, vec, ones, axis, had_plus}
use Rattle.verdict_portal.specs.Flat.{f2_plane, f2_line, times_other, Drops, plane_row, drops_plane, drops_line, lifted, lifted_dot, square_pos}
use Rattle.verdict_portal.specs.Exits.{Walled}
use Rattle.verdict_portal.specs.Portal.{det_rot}
use Rattle.verdict_walk.specs.declared.support.Difference.{Difference}
use Rattle.verdict_frame.specs.declared.frame.Frame.{Frame}
use Rattle.verdict_walk.specs.Points.{sign_at, cube_signs, bit_of, cube_of, Spread, Tagged, Box, cube_widths, Signed}
use Rattle.verdict_walk.specs.PointLaws.{some_corner, plain_at, corner_upto, spread_at, widened_spread, bit_below, bit_above, cube_inside, looking}
use Rattle.verdict_portal.specs.Rounds.{zero_bits}
use Rattle.verdict_frame.specs.Frames.{difference_at, Level, Rows, pick_left, pick_right, left_at, right_at, scanned, AllLevel, NotLevel, ScannedAt, Dropping, Framed, thick_of, Widened}
use Rattle.verdict_frame.specs.Frames.{solid_frame, plane_frame, AxisOf, line_frame, line_rows, point_frame, unit_rows, OnLine, InPlane, plane_rows, OffPoint, Wide, FirstPortal}

-- ---- the sizes of a sum and of a difference
sum_within : {m n k : ℕ} {u v : ℤ} → T (leb (m + n) k) → Within m u → Within n v → Within k (u +ℤ v)
sum_within {m} {n} {k} {u} {v} t hu hv = record { abs = omega (arith, nat_abs_add u v, hu.abs, hv.abs, leb→le (m + n) k t) }

minus_within : {m n k : ℕ} {u v : ℤ} → T (leb (m + n) k) → Within m u → Within n v → Within k (u -ℤ v)
minus_within {v} t hu hv = sum_within t hu (record { abs = omega (arith, nat_abs_neg v, hv.abs) })

pub sum_upto : {m n k : ℕ} {a b y : Vec3} → T (leb (m + n) k) → Upto m a → Upto n b → y ≡ plus a b → Upto k y
sum_upto {k} t u v e = subst (Upto k) (sym e) (record { ux = sum_within t u.ux v.ux; uy = sum_within t u.uy v.uy; uz = sum_within t u.uz v.uz })

pub minus_upto : {m n k : ℕ} {a b y : Vec3} → T (leb (m + n) k) → Upto m a → Upto n b → y ≡ minus a b → Upto k y
minus_upto {k} t u v e = subst (Upto k) (sym e) (record { ux = minus_within t u.ux v.ux; uy = minus_within t u.uy v.uy; uz = minus_within t u.uz v.uz })

pub difference_tagged : {A B : Piece} {i j : ℕ} {p : Difference} → p ≡ difference_at A B i j → i < corner_count A → j < corner_count B → Tagged A B origin p
difference_tagged {A} {B} {i} {j} e hi hj =
    subst (Tagged A B origin) (sym e) (record { of_first = hi; of_cube = omega arith; of_second = hj; is = sym (plain_at (corner_at A i) (corner_at B j) (cube_signs 0)) })

pub plain_tagged : {A B : Piece} {p : Difference} → Tagged A B origin p → p.at ≡ minus (corner_at A p.first) (corner_at B p.second)
plain_tagged {A} {B} {p} t = t.is ∙ plain_at (corner_at A p.first) (corner_at B p.second) (cube_signs p.cube)

pub difference_upto : {A B : Piece} {i j : ℕ} → Placed A → Placed B → i < corner_count A → j < corner_count B → Upto 262144 (minus (corner_at A i) (corner_at B j))
difference_upto {i} {j} pa pb hi hj = minus_upto tt (corner_upto pa i hi) (corner_upto pb j hj) refl

pub tagged_upto : {A B : Piece} {p : Difference} → Placed A → Placed B → Tagged A B origin p → Upto 262144 p.at
tagged_upto pa pb t = subst (Upto 262144) (sym (plain_tagged t)) (difference_upto pa pb t.of_first t.of_second)

pub left_inside : (k m : ℕ) → 1 ≤ m → left_at k m < m
left_inside k m h = ⊎_elim
    (λ (l : k < m). subst (λ b. pick_left b k < m) (sym (lt-ltb k m l)) l)
    (λ (l : m ≤ k). subst (λ b. pick_left b k < m) (sym (le-ltb k m l)) h) (lt-or-ge k m)

pub right_inside : (k m n : ℕ) → 1 ≤ n → k < m + n → right_at k m < n
right_inside k m n h t = ⊎_elim
    (λ (l : k < m). subst (λ b. pick_right b k m < n) (sym (lt-ltb k m l)) h)
    (λ (l : m ≤ k). subst (λ b. pick_right b k m < n) (sym (le-ltb k m l)) (omega arith)) (lt-or-ge k m)

-- F1: what is level on the scan is level on every difference
all_level : (A B : Piece) (n : Vec3) → ((i : ℕ) → i < corner_count A → dot n (minus (corner_at A i) (corner_at B 0)) ≡ pos 0)
    → ((j : ℕ) → j < corner_count B → dot n (minus (corner_at A 0) (corner_at B j)) ≡ pos 0)
    → 1 ≤ corner_count A → (i j : ℕ) → i < corner_count A → j < corner_count B → dot n (minus (corner_at A i) (corner_at B j)) ≡ pos 0
all_level A B n ha hb some i j hi hj = eq_comb (z_add (z_add (z_diff (pos 1) (ha i hi)) (z_diff (pos 1) (hb j hj))) (z_diff (negsuc 0) (ha 0 some)))
    (by_ring (env1 n (env1 (corner_at A 0) (env1 (corner_at B 0) (env1 (corner_at A i) (env1 (corner_at B j) []))))) (search sides depth 40) refl)

pub scan_level : {rows : Three Vec3} {A B : Piece} → Placed A → Placed B → ((k : ℕ) → k < corner_count A + corner_count B → Level rows (scanned A B k)) → AllLevel rows A B
scan_level {rows} {A} {B} pa pb h = record {
  all = λ i j hi hj. record {
    one = all_level A B rows.a (λ k l. (left k l).one) (λ k l. (right k l).one) (some_corner pa) i j hi hj;
    two = all_level A B rows.b (λ k l. (left k l).two) (λ k l. (right k l).two) (some_corner pa) i j hi hj;
    three = all_level A B rows.c (λ k l. (left k l).three) (λ k l. (right k l).three) (some_corner pa) i j hi hj;
  };
}
  where
    left : (i : ℕ) → i < corner_count A → Level rows (minus (corner_at A i) (corner_at B 0))
    left i l = subst (λ b. Level rows (minus (corner_at A (pick_left b i)) (corner_at B (pick_right b i (corner_count A))))) (lt-ltb i (corner_count A) l) (h i (omega arith))

    right : (j : ℕ) → j < corner_count B → Level rows (minus (corner_at A 0) (corner_at B j))
    right j l =
        let e : corner_count A + j - corner_count A ≡ j = omega arith in
        subst (λ i. Level rows (minus (corner_at A 0) (corner_at B i))) e
        (subst (λ b. Level rows (minus (corner_at A (pick_left b (corner_count A + j))) (corner_at B (pick_right b (corner_count A + j) (corner_count A)))))
        (le-ltb (corner_count A + j) (corner_count A) (omega arith)) (h (corner_count A + j) (omega arith)))

pub scanned_at : {A B : Piece} {k i j : ℕ} {p : Difference} → Placed A → Placed B → k < corner_count A + corner_count B → i ≡ left_at k (corner_count A) → j ≡ right_at k (corner_count A)
    → p ≡ difference_at A B i j → ScannedAt A B k p
scanned_at {A} {B} {k} {p} pa pb h ei ej e =
    let f : p ≡ difference_at A B (left_at k (corner_count A)) (right_at k (corner_count A)) = e ∙ ap₂ (difference_at A B) ei ej in
    let t = difference_tagged f (left_inside k (corner_count A) (some_corner pa)) (right_inside k (corner_count A) (corner_count B) (some_corner pb) h) in
    record { tagged = t; near = upto_le tt (tagged_upto pa pb t); is = ap (λ q. q.at) f }

-- w is a corner of the box of half-widths g, the one that it looks at
abbrev Corner : Vec3 → Vec3 → Type 0
Corner g w = w ≡ had (cube_signs (cube_of w)) g

thick_tagged : {A B : Piece} {g w : Vec3} {p : Difference} → Tagged A B origin p → Corner g w → Tagged A B g (thick_of p w)
thick_tagged {w} t e = record { of_first = t.of_first; of_cube = cube_inside w; of_second = t.of_second; is = ap₂ plus (plain_tagged t) e }

unit_corner : (j : Axis) → Corner (unit j) (unit j) × Corner (unit j) (opposite (unit j))
unit_corner X = (refl, refl)
unit_corner Y = (refl, refl)
unit_corner Z = (refl, refl)

two_corner : (j : Axis) → Corner (plus (unit j) (unit (next_axis j))) (plus (unit j) (unit (next_axis j))) × Corner (plus (unit j) (unit (next_axis j))) (minus (unit (next_axis j)) (unit j)) ×
    Corner (plus (unit j) (unit (next_axis j))) (minus (unit j) (unit (next_axis j)))
two_corner X = (refl, refl, refl)
two_corner Y = (refl, refl, refl)
two_corner Z = (refl, refl, refl)

bit_box : (x y z : ℕ) → Within gap_most (pos x) → Within gap_most (pos y) → Within gap_most (pos z) → Box (vec (pos x) (pos y) (pos z))
bit_box x y z u v w = record { nn_x = nn_pos x; nn_y = nn_pos y; nn_z = nn_pos z; most = record { ux = u; uy = v; uz = w } }

small : (n : ℕ) → T (leb n gap_most) → Within gap_most (pos n)
small n t = record { abs = leb→le n gap_most t }

unit_box : (j : Axis) → Box (unit j)
unit_box X = bit_box 1 0 0 (small 1 tt) (small 0 tt) (small 0 tt)
unit_box Y = bit_box 0 1 0 (small 0 tt) (small 1 tt) (small 0 tt)
unit_box Z = bit_box 0 0 1 (small 0 tt) (small 0 tt) (small 1 tt)

two_box : (j : Axis) → Box (plus (unit j) (unit (next_axis j)))
two_box X = bit_box 1 1 0 (small 1 tt) (small 1 tt) (small 0 tt)
two_box Y = bit_box 0 1 1 (small 0 tt) (small 1 tt) (small 1 tt)
two_box Z = bit_box 1 0 1 (small 1 tt) (small 0 tt) (small 1 tt)

-- ---- W5: a direction of touching lifts to one that walls the set
pub walled_of : {gap : ℕ} {A B : Piece} {g d : Vec3} (w : Dropping gap A B g) → Supported d gap A B → Walled (Spread A B g) (lifted w.k w.r1 w.r2 w.r3 d)
walled_of {gap} {A} {B} {g} {d} w s = record {
  flat = λ y m. subst (λ z. z ≤ℤ pos 0) (sym (along m))
      (low (widened_at gap A m.first m.cube) (corner_at B m.second) (s.above.all m.first m.cube m.second m.of_first m.of_cube m.of_second));
  some = other;
}
  where
    square : pos 0 <ℤ (w.k *ℤ w.k)
    square = square_pos w.k w.nonzero

    along : {y : Vec3} (m : Spread A B g y)
        → dot (lifted w.k w.r1 w.r2 w.r3 d) y ≡ w.k *ℤ w.k *ℤ dot d (minus (widened_at gap A m.first m.cube) (corner_at B m.second))
    along m =
        ap (dot (lifted w.k w.r1 w.r2 w.r3 d)) m.is ∙ lifted_dot (w.drop m.first m.cube m.second m.of_first m.of_cube m.of_second) d

    falls : (k : ℤ) (a b : Vec3) → pos 0 -ℤ k *ℤ k *ℤ dot d (minus a b) ≡ k *ℤ k *ℤ (dot d b -ℤ dot d a)
    falls k a b = by_ring (k ∷ env1 d (env1 a (env1 b []))) (search sides depth 40) refl

    low : (a b : Vec3) → dot d a ≤ℤ dot d b → (w.k *ℤ w.k *ℤ dot d (minus a b)) ≤ℤ pos 0
    low a b h = le_comb (nn_mul (lt→≤ℤ square) (nn_of_le h)) (falls w.k a b)

    less : (a b : Vec3) → dot d a <ℤ dot d b → (w.k *ℤ w.k *ℤ dot d (minus a b)) <ℤ pos 0
    less a b h = lt_comb (pos_mul square (pos_of_lt h)) (falls w.k a b)

    -- the point of the parted pair
    there : Vec3
    there = plus (minus (corner_at A s.parted.first) (corner_at B s.parted.second)) (had (cube_signs s.parted.cube) g)

    here : Spread A B g there
    here = spread_at s.parted.first s.parted.cube s.parted.second s.parted.of_first s.parted.of_cube s.parted.of_second

    zero : (v : Vec3) → dot origin v ≡ pos 0
    zero v = by_ring (env1 v []) (search sides depth 9) refl

    other : lifted w.k w.r1 w.r2 w.r3 d ≡ origin → ⊥
    other e = lt_other (less (widened_at gap A s.parted.first s.parted.cube) (corner_at B s.parted.second) s.parted.less) (sym (along here) ∙ ap (λ v. dot v there) e ∙ zero there)

-- with no gap the base is the plain difference
plain_drop : (A B : Piece) (g : Vec3) (k : ℤ) (r1 r2 r3 : Vec3)
    → ((i j : ℕ) → i < corner_count A → j < corner_count B → (s : Vec3) → Drops k r1 r2 r3 (plus (minus (corner_at A i) (corner_at B j)) (had s g)) (minus (corner_at A i) (corner_at B j)))
    → (i c j : ℕ) → i < corner_count A → c < cube_corners → j < corner_count B
    → Drops k r1 r2 r3 (plus (minus (corner_at A i) (corner_at B j)) (had (cube_signs c) g)) (minus (widened_at 0 A i c) (corner_at B j))
plain_drop A B g k r1 r2 r3 h i c j hi hc hj =
    subst (λ v. Drops k r1 r2 r3 (plus (minus (corner_at A i) (corner_at B j)) (had (cube_signs c) g)) (minus v (corner_at B j))) (sym (unwidened A i c)) (h i j hi hj (cube_signs c))

one_other : pos 1 ≡ pos 0 → ⊥
one_other e = subst (λ z. T (lt_z (pos 0) z)) e tt

-- a point that is its base drops to itself
itself : (y' y : Vec3) → y' ≡ y → Drops (pos 1) (unit X) (unit Y) (unit Z) y' y
itself y' y e = subst (λ v. Drops (pos 1) (unit X) (unit Y) (unit Z) v y) (sym e) (record {
  dx = by_ring (env1 y []) (search sides depth 9) refl;
  dy = by_ring (env1 y []) (search sides depth 9) refl;
  dz = by_ring (env1 y []) (search sides depth 9) refl;
})

dropping_solid : (A B : Piece) → Dropping 0 A B origin
dropping_solid A B = record {
  k = pos 1;
  r1 = unit X;
  r2 = unit Y;
  r3 = unit Z;
  nonzero = one_other;
  drop = plain_drop A B origin (pos 1) (unit X) (unit Y) (unit Z) (λ i j hi hj s. itself _ _ (plain_at (corner_at A i) (corner_at B j) s));
}

dropping_cube : (gap : ℕ) (A B : Piece) → Dropping gap A B (cube_widths gap)
dropping_cube gap A B = record {
  k = pos 1;
  r1 = unit X;
  r2 = unit Y;
  r3 = unit Z;
  nonzero = one_other;
  drop = λ i c j hi hc hj. itself _ _ (widened_spread gap A (corner_at B j) i c);
}

pub origin_upto : (n : ℕ) → Upto n origin
origin_upto n = record { ux = zero_within; uy = zero_within; uz = zero_within }
  where
    zero_within : Within n (pos 0)
    zero_within = record { abs = omega arith }

pub framed_solid : {A B : Piece} {a b c : Difference} → Tagged A B origin a → Tagged A B origin b → Tagged A B origin c → (det a.at b.at c.at ≡ pos 0 → ⊥) → Framed 0 A B (solid_frame a b c)
framed_solid {A} {B} ta tb tc f = record {
  ofa = ta;
  ofb = tb;
  ofc = tc;
  free = f;
  box = bit_box 0 0 0 (small 0 tt) (small 0 tt) (small 0 tt);
  of_gap = inl refl;
  dropping = dropping_solid A B;
}

pub framed_plane : {A B : Piece} {a b : Difference} {n : Vec3} (j : Axis) → Tagged A B origin a → Tagged A B origin b → n ≡ cross a.at b.at → (coordinate j n ≡ pos 0 → ⊥)
    → AllLevel (record { a = n; b = n; c = n }) A B → Framed 0 A B (plane_frame a b j)
framed_plane {A} {B} {a} {b} {n} j ta tb en f h = record {
  ofa = thick_tagged ta (unit_corner j).0;
  ofb = thick_tagged tb (unit_corner j).0;
  ofc = thick_tagged ta (unit_corner j).1;
  free = λ e. times_other (negsuc 1) (dot n (unit j)) (λ k. subst (λ z. T (lt_z z (pos 0))) k tt) other (ap (λ v. negsuc 1 *ℤ dot v (unit j)) en ∙ sym (f2_plane a.at b.at (unit j)) ∙ e);
  box = unit_box j;
  of_gap = inl refl;
  dropping = record {
    k = dot n (unit j);
    r1 = plane_row n (unit j) X;
    r2 = plane_row n (unit j) Y;
    r3 = plane_row n (unit j) Z;
    nonzero = other;
    drop =
        plain_drop A B (unit j) (dot n (unit j)) (plane_row n (unit j) X) (plane_row n (unit j) Y) (plane_row n (unit j) Z) (λ i l hi hl s. subst
        (λ v. Drops (dot n (unit j)) (plane_row n (unit j) X) (plane_row n (unit j) Y) (plane_row n (unit j) Z) (plus (minus (corner_at A i) (corner_at B l)) v) (minus (corner_at A i) (corner_at B l)))
        (sym ((axis j).spread s)) (drops_plane n (unit j) (minus (corner_at A i) (corner_at B l)) (coordinate j s) (h.all i l hi hl).one));
  };
}
  where
    other : dot n (unit j) ≡ pos 0 → ⊥
    other e = f (sym ((axis j).along n) ∙ e)

-- what is not along c makes a plane with it
pub not_along : (c y : Vec3) → (Level (line_rows c) y → ⊥) → cross c y ≡ origin → ⊥
not_along c y f e =
    f (record {
      one = by_ring (env1 c (env1 y [])) (search sides depth 9) refl ∙ ap (λ v. pos 0 -ℤ v.x) e;
      two = by_ring (env1 c (env1 y [])) (search sides depth 9) refl ∙ ap
          (λ v. pos 0 -ℤ v.y) e;
      three = by_ring (env1 c (env1 y [])) (search sides depth 9) refl ∙ ap (λ v. pos 0 -ℤ v.z) e;
    })

pub framed_line : {A B : Piece} {a : Difference} (j : Axis) → Tagged A B origin a → (coordinate j a.at ≡ pos 0 → ⊥) → AllLevel (line_rows a.at) A B → Framed 0 A B (line_frame a j)
framed_line {A} {B} {a} j ta nz h = record {
  ofa = thick_tagged ta (two_corner (next_axis j)).0;
  ofb = thick_tagged ta (two_corner (next_axis j)).1;
  ofc = thick_tagged ta (two_corner (next_axis j)).2;
  free = λ k. times_other (pos 4) (det a.at e f) (λ z. subst (λ w. T (lt_z (pos 0) w)) z tt) other (sym (f2_line a.at e f) ∙ k);
  box = two_box (next_axis j);
  of_gap = inl refl;
  dropping = record {
    k = det e f a.at;
    r1 = scale a.at.x (cross e f);
    r2 = scale a.at.y (cross e f);
    r3 = scale a.at.z (cross e f);
    nonzero = λ k. other (sym (det_rot a.at e f) ∙ k);
    drop = plain_drop A B (plus e f) (det e f a.at) (scale a.at.x (cross e f)) (scale a.at.y (cross e f)) (scale a.at.z (cross e f)) (λ i l hi hl s.
        let y = h.all i l hi hl in
        subst (λ v. Drops (det e f a.at) (scale a.at.x (cross e f)) (scale a.at.y (cross e f)) (scale a.at.z (cross e f)) (plus (minus (corner_at A i) (corner_at B l)) v)
        (minus (corner_at A i) (corner_at B l)))
        (sym (had_plus s e f ∙ ap₂ plus ((axis (next_axis j)).spread s) ((axis (next_axis (next_axis j))).spread s)))
        (drops_line a.at e f (minus (corner_at A i) (corner_at B l)) (coordinate (next_axis j) s) (coordinate (next_axis (next_axis j)) s) y.one y.two y.three));
  };
}
  where
    e : Vec3
    e = unit (next_axis j)

    f : Vec3
    f = unit (next_axis (next_axis j))

    other : det a.at e f ≡ pos 0 → ⊥
    other k = nz (sym ((axis j).box a.at) ∙ k)

pub level_origin : (y : Vec3) → Level unit_rows y → y ≡ origin
level_origin y l = vec_eq (sym (r0 y) ∙ l.one) (sym (r1 y) ∙ l.two) (sym (r2 y) ∙ l.three)
  where
    r0 : (y : Vec3) → dot (unit X) y ≡ y.x
    r0 y = by_ring (env1 y []) (search sides depth 9) refl

    r1 : (y : Vec3) → dot (unit Y) y ≡ y.y
    r1 y = by_ring (env1 y []) (search sides depth 9) refl

    r2 : (y : Vec3) → dot (unit Z) y ≡ y.z
    r2 y = by_ring (env1 y []) (search sides depth 9) refl

pub not_origin : (y : Vec3) → (Level unit_rows y → ⊥) → y ≡ origin → ⊥
not_origin y f e = f (record { one = ap (dot (unit X)) e; two = ap (dot (unit Y)) e; three = ap (dot (unit Z)) e })

pub framed_point : {A B : Piece} → Placed A → Placed B → AllLevel unit_rows A B → Framed 0 A B point_frame
framed_point {A} {B} pa pb h = record {
  ofa = tag 7 (omega arith);
  ofb = tag 3 (omega arith);
  ofc = tag 5 (omega arith);
  free = λ k. subst (λ z. T (lt_z (pos 0) z)) k tt;
  box = bit_box 1 1 1 (small 1 tt) (small 1 tt) (small 1 tt);
  of_gap = inl refl;
  dropping = record {
    k = pos 1;
    r1 = origin;
    r2 = origin;
    r3 = origin;
    nonzero = one_other;
    drop = plain_drop A B ones (pos 1) origin origin origin
        (λ i j hi hj s. none (plus (minus (corner_at A i) (corner_at B j)) (had s ones)) (minus (corner_at A i) (corner_at B j)) (level_origin _ (h.all i j hi hj)));
  };
}
  where
    base : minus (corner_at A 0) (corner_at B 0) ≡ origin
    base = level_origin _ (h.all 0 0 (some_corner pa) (some_corner pb))

    tag : (c : ℕ) → c < cube_corners → Tagged A B ones (record { at = plus origin (had (cube_signs c) ones); first = 0; cube = c; second = 0 })
    tag c hc = record { of_first = some_corner pa; of_cube = hc; of_second = some_corner pb; is = ap (λ v. plus v (had (cube_signs c) ones)) (sym base) }

    none : (y' y : Vec3) → y ≡ origin → Drops (pos 1) origin origin origin y' y
    none y' y e = record { dx = zeros y' ∙ ap (λ v. pos 1 *ℤ v.x) (sym e); dy = zeros y' ∙ ap (λ v. pos 1 *ℤ v.y) (sym e); dz = zeros y' ∙ ap (λ v. pos 1 *ℤ v.z) (sym e) }
      where
        zeros : (v : Vec3) → dot origin v ≡ pos 0
        zeros v = by_ring (env1 v []) (search sides depth 9) refl

-- ---- with a gap: the cube about the first difference
-- a coordinate of a corner of the cube, and the side of the cube that it is on
up_corner : (g : ℤ) → pos 0 <ℤ g → sign_at (bit_of g) *ℤ g ≡ g
up_corner g h = ap (λ k. sign_at k *ℤ g) (bit_above (lt→≤ℤ h)) ∙ by_ring (g ∷ []) (search sides depth 9) refl

down_corner : (g : ℤ) → pos 0 <ℤ g → sign_at (bit_of (pos 0 -ℤ g)) *ℤ g ≡ pos 0 -ℤ g
down_corner g h = ap (λ k. sign_at k *ℤ g) (bit_below {n = pos 0 -ℤ g} (lt_comb h (by_ring (g ∷ []) (search sides depth 9) refl))) ∙ by_ring (g ∷ []) (search sides depth 9) refl

-- away from the origin's height: up where p is not below it, else down
away_is : (n g r : ℤ) → Signed n g r → ((pos 0 ≤ℤ n) × (r ≡ g)) ⊎ ((n <ℤ pos 0) × (r ≡ pos 0 -ℤ g))
away_is n g r s = ⊎_elim
    (λ h. inl (h, s.is ∙ ap (λ k. sign_at k *ℤ g) (bit_above h) ∙ by_ring (g ∷ []) (search sides depth 9) refl))
    (λ h. inr (h, s.is ∙ ap (λ k. sign_at k *ℤ g) (bit_below h) ∙ by_ring (g ∷ []) (search sides depth 9) refl)) (le-or-lt (pos 0) n)

-- the determinant of the three: 4 g² times the height that they have
f2_cube : (p : Vec3) (g s : ℤ) → det (plus p (vec g g s)) (plus p (vec (pos 0 -ℤ g) g s)) (plus p (vec g (pos 0 -ℤ g) s)) ≡ pos 4 *ℤ (g *ℤ g) *ℤ (p.z +ℤ s)
f2_cube p g s = by_ring (g ∷ s ∷ env1 p []) (search sides depth 40) refl

cube_corner_lem : (g w : Vec3) → sign_at (bit_of w.x) *ℤ g.x ≡ w.x → sign_at (bit_of w.y) *ℤ g.y ≡ w.y → sign_at (bit_of w.z) *ℤ g.z ≡ w.z → Corner g w
cube_corner_lem g w ex ey ez = sym (ap (λ s. had s g) (looking w) ∙ vec_eq ex ey ez)

pub framed_gap : {gap : ℕ} {A B : Piece} {p : Difference} {f : Frame} → Placed A → Placed B → (gap ≡ 0 → ⊥) → gap ≤ gap_most → p ≡ difference_at A B 0 0 → Widened gap p f → Framed gap A B f
framed_gap {gap} {A} {B} {p} pa pb f most ep w = subst (Framed gap A B) (sym w.is) (record {
  ofa = thick_tagged base (cube_corner_lem (cube_widths gap) (vec g g w.away) up up side);
  ofb = thick_tagged base (cube_corner_lem (cube_widths gap) (vec (pos 0 -ℤ g) g w.away) down up side);
  ofc = thick_tagged base (cube_corner_lem (cube_widths gap) (vec g (pos 0 -ℤ g) w.away) up down side);
  free = λ e. times_other (pos 4 *ℤ (g *ℤ g)) (p.at.z +ℤ w.away) (λ z. gt_other (pos_mul (pos_suc 3) (pos_mul some some)) z) (apart height) (sym (f2_cube p.at g w.away) ∙ e);
  box = bit_box gap gap gap near near near;
  of_gap = inr refl;
  dropping = dropping_cube gap A B;
})
  where
    g : ℤ
    g = pos gap

    some : pos 0 <ℤ g
    some = pos_lt (omega (arith, f))

    near : Within gap_most g
    near = record { abs = most }

    base : Tagged A B origin p
    base = difference_tagged ep (some_corner pa) (some_corner pb)

    up : sign_at (bit_of g) *ℤ g ≡ g
    up = up_corner g some

    down : sign_at (bit_of (pos 0 -ℤ g)) *ℤ g ≡ pos 0 -ℤ g
    down = down_corner g some

    height : ((pos 0 ≤ℤ p.at.z) × (w.away ≡ g)) ⊎ ((p.at.z <ℤ pos 0) × (w.away ≡ pos 0 -ℤ g))
    height = away_is p.at.z g w.away w.of

    side : sign_at (bit_of w.away) *ℤ g ≡ w.away
    side = ⊎_elim
        (λ h. subst (λ u. sign_at (bit_of u) *ℤ g ≡ u) (sym h.1) up)
        (λ h. subst (λ u. sign_at (bit_of u) *ℤ g ≡ u) (sym h.1) down) height

    apart : ((pos 0 ≤ℤ p.at.z) × (w.away ≡ g)) ⊎ ((p.at.z <ℤ pos 0) × (w.away ≡ pos 0 -ℤ g)) → p.at.z +ℤ w.away ≡ pos 0 → ⊥
    apart (inl h) e = gt_other (pos_add some h.0) (swap g p.at.z ∙ ap (λ u. p.at.z +ℤ u) (sym h.1) ∙ e)
      where
        swap : (u v : ℤ) → u +ℤ v ≡ v +ℤ u
        swap u v = by_ring (u ∷ v ∷ []) (search sides depth 9) refl
    apart (inr h) e = lt_other (lt_comb (pos_add some (lt→≤ℤ (<ℤ-neg h.0))) (swap g p.at.z)) (ap (λ u. p.at.z +ℤ u) (sym h.1) ∙ e)
      where
        swap : (u v : ℤ) → pos 0 -ℤ (v +ℤ (pos 0 -ℤ u)) ≡ u +ℤ neg_ℤ v
        swap u v = by_ring (u ∷ v ∷ []) (search sides depth 9) refl

pub axis_last : {v : Vec3} → v.x ≡ pos 0 → v.y ≡ pos 0 → AxisOf v Z
axis_last ex ey = record { other = λ f ez. f (vec_eq ex ey ez) }

-- ---- points
pub point_eq : {u v : Vec3} {i c d j : ℕ} → u ≡ v → c ≡ d → ◌≡◌ {A = Difference} (record { at = u; first = i; cube = c; second = j }) (record { at = v; first = i; cube = d; second = j })
point_eq {i} {j} e f = ap₂ (λ w d. record { at = w; first = i; cube = d; second = j }) e f

-- ---- a dot that is tested for 0 by its bits
pub zero_decided : {z : ℤ} {C : Type 0} → Within 679395106750464000 z → (z ≡ pos 0 → C) → (C → z ≡ pos 0) → Decides (eqb (of_z w64 z) 0) C
zero_decided {z} {C} w f g = go (eqb (of_z w64 z) 0) refl
  where
    go : (b : Bool) → eqb (of_z w64 z) 0 ≡ b → Decides b C
    go true e = holds refl (f (zero_bits w (eqb-true (of_z w64 z) 0 e)))
    go false e = fails refl (λ k. eqb-false (of_z w64 z) 0 e (ap (of_z w64) (g k)))

pub frame_eq : {w w' : Vec3} {a a' b b' c c' : Difference} → w ≡ w' → a ≡ a' → b ≡ b' → c ≡ c'
    → ◌≡◌ {A = Frame} (record { widths = w; a = a; b = b; c = c }) (record { widths = w'; a = a'; b = b'; c = c' })
frame_eq ew ea eb ec = λ i. record { widths = ew i; a = ea i; b = eb i; c = ec i }

pub off_point_of : {A B : Piece} {rows : Three Vec3} {p : Difference} → rows ≡ unit_rows → NotLevel rows A B p → OffPoint A B p
off_point_of {p} er s = record { tagged = s.tagged; other = not_origin p.at (λ l. s.apart (subst (λ w. Level w p.at) (sym er) l)) }

pub wide_of : {A B : Piece} {a p : Difference} {rows : Three Vec3} → OffPoint A B a → rows ≡ line_rows a.at → NotLevel rows A B p → Wide A B a p
wide_of {a} {p} h er s = record { tagged_a = h.tagged; tagged_b = s.tagged; other = not_along a.at p.at (λ l. s.apart (subst (λ w. Level w p.at) (sym er) l)) }

pub level_is : {A B : Piece} {rows w : Three Vec3} → rows ≡ w → AllLevel rows A B → AllLevel w A B
level_is {A} {B} e h = subst (λ r. AllLevel r A B) e h

-- the product of two differences
pub cross_near : {A B : Piece} {a b : Difference} {n : Vec3} → Placed A → Placed B → Wide A B a b → n ≡ cross a.at b.at → Upto 137438953472 n
cross_near {a} {b} pa pb h e = subst (Upto 137438953472) (sym e) (go a.at b.at (tagged_upto pa pb h.tagged_a) (tagged_upto pa pb h.tagged_b))
  where
    go : (u v : Vec3) → Upto 262144 u → Upto 262144 v → Upto 137438953472 (cross u v)
    go u v hu hv = record { ux = within (search known depth 9) tt; uy = within (search known depth 9) tt; uz = within (search known depth 9) tt }

-- ---- the four frames, from what the scans found
pub framed_at_a_point : {A B : Piece} {rows : Three Vec3} {f : Frame} → Placed A → Placed B → rows ≡ unit_rows → AllLevel rows A B → f ≡ point_frame → Framed 0 A B f
framed_at_a_point {A} {B} pa pb er s ef = subst (Framed 0 A B) (sym ef) (framed_point pa pb (level_is er s))

pub framed_on_a_line : {A B : Piece} {a : Difference} {rows : Three Vec3} {f : Frame} → Placed A → Placed B → OffPoint A B a → rows ≡ line_rows a.at → AllLevel rows A B
    → OnLine a f → Framed 0 A B f
framed_on_a_line {A} {B} pa pb h er s l = subst (Framed 0 A B) (sym l.is) (framed_line l.axis_is h.tagged (l.of.other h.other) (level_is er s))

pub framed_in_a_plane : {A B : Piece} {a b : Difference} {n : Vec3} {rows : Three Vec3} {f : Frame} → Placed A → Placed B → Wide A B a b → n ≡ cross a.at b.at → rows ≡ plane_rows n
    → AllLevel rows A B → InPlane a b n f → Framed 0 A B f
framed_in_a_plane {A} {B} pa pb h en er s l =
    subst (Framed 0 A B) (sym l.is)
    (framed_plane l.axis_is h.tagged_a h.tagged_b en (l.of.other (λ z. h.other (sym en ∙ z))) (level_is er s))

pub framed_solid_of : {A B : Piece} {a b p : Difference} {n : Vec3} {rows : Three Vec3} → Wide A B a b → n ≡ cross a.at b.at → rows ≡ plane_rows n → NotLevel rows A B p
    → Framed 0 A B (solid_frame a b p)
framed_solid_of {A} {B} {a} {b} {p} {n} h en er s = framed_solid h.tagged_a h.tagged_b s.tagged
    (λ z. s.apart (subst (λ w. Level w p.at) (sym er) (let k = ap (λ v. dot v p.at) en ∙ z in record { one = k; two = k; three = k })))

pub rows_made : {a a' b b' c c' : Vec3} → (a ≡ a') × Upto normal_reach a → (b ≡ b') × Upto normal_reach b → (c ≡ c') × Upto normal_reach c
    → (◌≡◌ {A = Three Vec3} (record { a = a; b = b; c = c }) (record { a = a'; b = b'; c = c' })) × Rows (record { a = a; b = b; c = c })
rows_made p q r = (λ i. record { a = p.0 i; b = q.0 i; c = r.0 i }, record { one = p.1; two = q.1; three = r.1 })

-- a frame has one portal to start from
pub started_once : (f : Frame) {q r : Three Difference} → FirstPortal f q → FirstPortal f r → q ≡ r
started_once f (inl a) (inl b) = a.1 ∙ sym b.1
started_once f (inl a) (inr b) = clash_ℤ a.0 b.0
started_once f (inr a) (inl b) = clash_ℤ b.0 a.0
started_once f (inr a) (inr b) = a.1 ∙ sym b.1

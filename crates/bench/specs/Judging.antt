-- A verdict by its witnesses: each condition of document 01's verdicts, as W5 amends them, as a test that is computed, and the verdict where the tests pass.
-- There is no gap between the pieces, so the tests are those of `space` NoGap. Nothing here speaks of the bench pieces.
use Rattle.std.specs.Prelude.{◌≡◌, refl, Bool, true, false, ◌&&◌, ◌||◌, ◌⊎◌, ℕ, ◌<◌, T, ltb, leb, eqb, length, ℤ, pos, negsuc, ◌<ℤ◌}
use Rattle.std.proofs.Common.{sym, ap, ◌∙◌, subst, inl, inr, ⊎_elim, ltb→lt, leb→le, eqb→eq}
use mathlib.Core.List.Memᴰ
use mathlib.Core.List.{List, [], ◌∷◌, Memᴰ}
use Rattle.std.specs.Int.Signed.{le_z, lt_z, le_z_yes, lt_z_yes, <ℤ_irrefl}
use Rattle.ints.proofs.Quote.{sides, by_ring}
use Rattle.ints.specs.Order.{≤ℤ-antisymm}
use Rattle.ints.proofs.OrderLaws.{eq_comb, z_diff}
use Rattle.ints.proofs.SignLaws.{gt_other}
use Rattle.limits.specs.Limits.{weight_most}
use Rattle.space.specs.declared.Vec3.{Vec3}
use Rattle.space.specs.declared.Pair.{Pair}
use Rattle.space.specs.Vectors.{dot, minus, det, env1}
use Rattle.space.specs.Verdicts.{Piece, corner_count, corner_at, cube_corners, Fair, VerdictIs, separate, touching, penetrating}
use Rattle.space.specs.NoGap.{PlainBelow, plain_weighted, PlainBalance, PlainSupported}
use Rattle.space.proofs.NoGapLaws.{unwidened, supported_plain, balance_plain, verdict_plain}
use Rattle.space.proofs.ExclusionLaws.{supported_nonzero, balanced_level}
use Rattle.verdict_portal.specs.Exits.{frame_origin}
use Rattle.turns.specs.Table.{and_left, and_right, below, number}

-- ---- the tests
-- a test of all corners a of the one and b of the other
abbrev pub every_pair : (Vec3 → Vec3 → Bool) → Piece → Piece → Bool
every_pair f A B = below (λ i. below (λ j. f (corner_at A i) (corner_at B j)) (corner_count B)) (corner_count A)

abbrev pub is_below : Vec3 → Piece → Piece → Bool
is_below d A B = every_pair (λ a b. lt_z (dot d a) (dot d b)) A B

abbrev pub is_not_above : Vec3 → Piece → Piece → Bool
is_not_above d A B = every_pair (λ a b. le_z (dot d a) (dot d b)) A B

abbrev pub is_fair : Piece → Piece → Pair → Bool
is_fair A B p = (ltb p.first (corner_count A) && (ltb p.cube cube_corners && ltb p.second (corner_count B))) && (le_z (pos 1) p.weight && le_z p.weight (pos weight_most))

abbrev pub are_fair : Piece → Piece → List Pair → Bool
are_fair A B [] = true
are_fair A B (p ∷ ps) = is_fair A B p && are_fair A B ps

abbrev is_zero : ℤ → Bool
is_zero z = le_z z (pos 0) && le_z (pos 0) z

abbrev pub is_balance : Piece → Piece → List Pair → Bool
is_balance A B ps =
    (leb 1 (length ps) && leb (length ps) 4)
    && (are_fair A B ps && (is_zero (plain_weighted (λ v. v.x) A B ps) && (is_zero (plain_weighted (λ v. v.y) A B ps) && is_zero (plain_weighted (λ v. v.z) A B ps))))

-- the difference a − b of a pair
abbrev pub apart_by : Piece → Piece → Pair → Vec3
apart_by A B p = minus (corner_at A p.first) (corner_at B p.second)

-- d·a < d·b for the corners i and j
abbrev pub is_parted : Vec3 → ℕ → ℕ → Piece → Piece → Bool
is_parted d i j A B = (ltb i (corner_count A) && ltb j (corner_count B)) && lt_z (dot d (corner_at A i)) (dot d (corner_at B j))

abbrev pub is_touching : Vec3 → ℕ → ℕ → List Pair → Piece → Piece → Bool
is_touching d i j ps A B = is_balance A B ps && (is_not_above d A B && is_parted d i j A B)

-- a pair of corners is among those weighed
abbrev pub is_weighed : ℕ → ℕ → List Pair → Bool
is_weighed i j [] = false
is_weighed i j (p ∷ ps) = (eqb i p.first && eqb j p.second) || is_weighed i j ps

-- a balance of all pairs of corners: no direction parts one of them, so this serves flat pieces too
abbrev pub is_whole : List Pair → Piece → Piece → Bool
is_whole ps A B = is_balance A B ps && below (λ i. below (λ j. is_weighed i j ps) (corner_count B)) (corner_count A)

-- where the last three of four in balance are independent, the origin is inside the four
abbrev pub is_penetrating : Pair → Pair → Pair → Pair → Piece → Piece → Bool
is_penetrating k l m n A B = is_balance A B (k ∷ l ∷ m ∷ n ∷ []) && lt_z (pos 0) (det (apart_by A B l) (apart_by A B m) (apart_by A B n))

-- ---- what they tell
every_pair_lem : (f : Vec3 → Vec3 → Bool) (A B : Piece) → T (every_pair f A B) → (i j : ℕ) → i < corner_count A → j < corner_count B → T (f (corner_at A i) (corner_at B j))
every_pair_lem f A B t i j hi hj =
    number (λ j. f (corner_at A i) (corner_at B j)) (corner_count B) (number (λ i. below (λ j. f (corner_at A i) (corner_at B j)) (corner_count B)) (corner_count A) t i hi) j hj

pub below_by : (d : Vec3) (A B : Piece) → T (is_below d A B) → PlainBelow d A B
below_by d A B t = record { all = λ i j hi hj. lt_z_yes (every_pair_lem (λ a b. lt_z (dot d a) (dot d b)) A B t i j hi hj) }

fair_by : (A B : Piece) (p : Pair) → T (is_fair A B p) → Fair A B p
fair_by A B p t =
    let corners = and_left (ltb p.first (corner_count A) && (ltb p.cube cube_corners && ltb p.second (corner_count B))) _ t in
    let weights = and_right (ltb p.first (corner_count A) && (ltb p.cube cube_corners && ltb p.second (corner_count B))) _ t in
    let others = and_right (ltb p.first (corner_count A)) _ corners in
    record {
      of_first = ltb→lt p.first (corner_count A) (and_left (ltb p.first (corner_count A)) _ corners);
      of_cube = ltb→lt p.cube cube_corners (and_left (ltb p.cube cube_corners) _ others);
      of_second = ltb→lt p.second (corner_count B) (and_right (ltb p.cube cube_corners) _ others);
      least = le_z_yes (and_left (le_z (pos 1) p.weight) _ weights);
      most = le_z_yes (and_right (le_z (pos 1) p.weight) _ weights);
    }

all_fair : (A B : Piece) (ps : List Pair) → T (are_fair A B ps) → (p : Pair) → Memᴰ p ps → Fair A B p
all_fair A B [] t p m = absurd (Memᴰ.not-nil m)
all_fair A B (q ∷ ps) t p m =
    ⊎_elim (λ e. subst (Fair A B) (sym e) (fair_by A B q (and_left (is_fair A B q) _ t))) (λ n. all_fair A B ps (and_right (is_fair A B q) _ t) p n) (Memᴰ.cases_cons m)

zero_by : (z : ℤ) → T (is_zero z) → z ≡ pos 0
zero_by z t = ≤ℤ-antisymm (le_z_yes (and_left (le_z z (pos 0)) _ t)) (le_z_yes (and_right (le_z z (pos 0)) _ t))

other_by : (z : ℤ) → T (lt_z (pos 0) z) → z ≡ pos 0 → ⊥
other_by z t e = gt_other (lt_z_yes t) e

balance_by : (A B : Piece) (ps : List Pair) → T (is_balance A B ps) → PlainBalance A B ps
balance_by A B ps t =
    let size = and_left (leb 1 (length ps) && leb (length ps) 4) _ t in
    let rest = and_right (leb 1 (length ps) && leb (length ps) 4) _ t in
    let sums = and_right (are_fair A B ps) _ rest in
    let last = and_right (is_zero (plain_weighted (λ v. v.x) A B ps)) _ sums in
    record {
      some = leb→le 1 (length ps) (and_left (leb 1 (length ps)) _ size);
      few = leb→le (length ps) 4 (and_right (leb 1 (length ps)) _ size);
      fair = all_fair A B ps (and_left (are_fair A B ps) _ rest);
      zero_x = zero_by _ (and_left (is_zero (plain_weighted (λ v. v.x) A B ps)) _ sums);
      zero_y = zero_by _ (and_left (is_zero (plain_weighted (λ v. v.y) A B ps)) _ last);
      zero_z = zero_by _ (and_right (is_zero (plain_weighted (λ v. v.y) A B ps)) _ last);
    }

supported_by : (d : Vec3) (i j : ℕ) (A B : Piece) → T (is_not_above d A B) → T (is_parted d i j A B) → PlainSupported d A B
supported_by d i j A B u t =
    let corners = and_left (ltb i (corner_count A) && ltb j (corner_count B)) _ t in
    record {
      above = λ i j hi hj. le_z_yes (every_pair_lem (λ a b. le_z (dot d a) (dot d b)) A B u i j hi hj);
      first = i;
      second = j;
      of_first = ltb→lt i (corner_count A) (and_left (ltb i (corner_count A)) _ corners);
      of_second = ltb→lt j (corner_count B) (and_right (ltb i (corner_count A)) _ corners);
      less = lt_z_yes (and_right (ltb i (corner_count A) && ltb j (corner_count B)) _ t);
    }

-- ---- penetrating: each pair of a balance is level with a direction that has no pair above
-- where every pair is weighed, none is parted
either : (a b : Bool) → T (a || b) → T a ⊎ T b
either true b t = inl tt
either false b t = inr t

weighed_level : (A B : Piece) (d : Vec3) (i j : ℕ) (ps : List Pair) → T (is_weighed i j ps) → ((p : Pair) → Memᴰ p ps → dot d (apart_by A B p) ≡ pos 0)
    → dot d (minus (corner_at A i) (corner_at B j)) ≡ pos 0
weighed_level A B d i j [] t h = elim t [ ]
weighed_level A B d i j (p ∷ ps) t h = ⊎_elim
    (λ k. ap (λ n. dot d (minus (corner_at A n) (corner_at B j))) (eqb→eq i p.first (and_left (eqb i p.first) _ k))
    ∙ ap (λ n. dot d (minus (corner_at A p.first) (corner_at B n))) (eqb→eq j p.second (and_right (eqb i p.first) _ k)) ∙ h p (Memᴰ.head refl))
    (λ k. weighed_level A B d i j ps k (λ q m. h q (Memᴰ.tail m))) (either (eqb i p.first && eqb j p.second) (is_weighed i j ps) t)

not_parted : (d a b : Vec3) → dot d a <ℤ dot d b → dot d (minus a b) ≡ pos 0 → ⊥
not_parted d a b h e = <ℤ_irrefl (subst (λ z. dot d a <ℤ z) (eq_comb (z_diff (negsuc 0) e) (by_ring (env1 d (env1 a (env1 b []))) (search sides depth 40) refl)) h)

-- where nothing is above a direction and some pairs balance, each of these is level with it
levels : {A B : Piece} {d : Vec3} {ps : List Pair} → PlainSupported d A B → PlainBalance A B ps → (p : Pair) → Memᴰ p ps → dot d (apart_by A B p) ≡ pos 0
levels {A} {B} {d} w b p m =
    ap (λ v. dot d (minus v (corner_at B p.second))) (sym (unwidened A p.first p.cube)) ∙ balanced_level ((supported_plain A B).1 w).above ((balance_plain A B).1 b) p m

-- ---- the verdicts, with no gap
pub separate_by : (d : Vec3) {A B : Piece} → T (is_below d A B) → VerdictIs 0 A B separate
separate_by d {A} {B} t = (verdict_plain A B).1 (inl (refl, record { direction = d; parts = below_by d A B t }))

pub touching_by : (d : Vec3) (i j : ℕ) (ps : List Pair) {A B : Piece} → T (is_touching d i j ps A B) → VerdictIs 0 A B touching
touching_by d i j ps {A} {B} t =
    let rest = and_right (is_balance A B ps) _ t in
    (verdict_plain A B).1 (inr (inl (
      refl,
      record {
        meeting = record { pairs = ps; balance = balance_by A B ps (and_left (is_balance A B ps) _ t) };
        direction = d;
        supported = supported_by d i j A B (and_left (is_not_above d A B) _ rest) (and_right (is_not_above d A B) _ rest);
      },
    )))

-- the origin is inside a tetrahedron of four differences
pub penetrating_by : (k l m n : Pair) {A B : Piece} → T (is_penetrating k l m n A B) → VerdictIs 0 A B penetrating
penetrating_by k l m n {A} {B} t =
    let b = balance_by A B (k ∷ l ∷ m ∷ n ∷ []) (and_left (is_balance A B (k ∷ l ∷ m ∷ n ∷ [])) _ t) in
    let f = other_by (det (apart_by A B l) (apart_by A B m) (apart_by A B n)) (and_right (is_balance A B (k ∷ l ∷ m ∷ n ∷ [])) _ t) in
    (verdict_plain A B).1 (inr (inr (
      refl,
      record {
        meeting = record { pairs = k ∷ l ∷ m ∷ n ∷ []; balance = b };
        free = λ d w.
            let level = levels w b in
            supported_nonzero ((supported_plain A B).1 w) (frame_origin (apart_by A B l) (apart_by A B m) (apart_by A B n) d f
            (level l (Memᴰ.tail (Memᴰ.head refl)))
            (level m (Memᴰ.tail (Memᴰ.tail (Memᴰ.head refl))))
            (level n (Memᴰ.tail (Memᴰ.tail (Memᴰ.tail (Memᴰ.head refl))))));
      },
    )))

-- all pairs of corners balance
pub whole_by : (ps : List Pair) {A B : Piece} → T (is_whole ps A B) → VerdictIs 0 A B penetrating
whole_by ps {A} {B} t =
    let b = balance_by A B ps (and_left (is_balance A B ps) _ t) in
    (verdict_plain A B).1 (inr (inr (
      refl,
      record {
        meeting = record { pairs = ps; balance = b };
        free = λ d w.
            let weighed = number (λ j. is_weighed w.first j ps) (corner_count B)
            (number (λ i. below (λ j. is_weighed i j ps) (corner_count B)) (corner_count A) (and_right (is_balance A B ps) _ t) w.first w.of_first) w.second w.of_second in
            not_parted d (corner_at A w.first) (corner_at B w.second) w.less (weighed_level A B d w.first w.second ps weighed (levels w b));
      },
    )))

-- Laws of the pairs that a meeting gathers: one weight more, and what all four come to.
-- The definitions stand in Gather.
use Rattle.std.specs.Prelude.{◌≡◌, refl, ℕ, zero, suc, ◌+◌, ◌≤◌, ◌<◌, length, set, take, get_or, ℤ, pos, ◌+ℤ◌, ◌-ℤ◌, ◌*ℤ◌, ◌≤ℤ◌}
use Rattle.std.proofs.Common.{sym, ap, ap₂, ◌∙◌, subst, ⊎_elim, arith, add-one, to_z, of_z, length-set, take-suc-set, get_or-set_same, get_or-set_other}
use mathlib.Core.List.Memᴰ
use mathlib.Core.List.{List, [], ◌∷◌, ◌++◌, Memᴰ}
use Rattle.std.proofs.Math.Decide.{ℕ_discrete}
use Rattle.std.specs.Int.{w64}
use Rattle.std.proofs.Math.IntN.{+ℤ_idl, +ℤ_idr, +ℤ_assoc, zero-*ℤ}
use Rattle.std.specs.Int.Signed.{clash_ℤ}
use Rattle.ints.specs.Order.{trichotomy}
use Rattle.ints.proofs.OrderLaws.{lt_succ}
use Rattle.ints.specs.Bounds.{Within, within, worth, k_back, k-is, k_within}
use Rattle.ints.proofs.Known.{known}
use Rattle.ints.proofs.SignLaws.{lt_other, gt_other}
use Rattle.limits.specs.Limits.{weight_most}
use Rattle.space.specs.declared.Vec3.{Vec3}
use Rattle.space.specs.declared.Pair.{Pair}
use Rattle.space.specs.Vectors.{det}
use Rattle.space.specs.Ranges.{Upto, point_reach, weight_reach}
use Rattle.space.specs.Verdicts.{Piece, cube_corners, widened_at, difference_of, weighted, Fair}
use Rattle.space.proofs.NoGapLaws.{unwidened}
use Rattle.verdict_walk.specs.declared.support.Difference.{Difference}
use Rattle.verdict_walk.specs.declared.path.Ended.{Ended}
use Rattle.space.specs.declared.Pairs.{Pairs}
use Rattle.verdict_walk.specs.NoPairs.{no_pair, no_pairs}
use Rattle.verdict_walk.specs.Points.{Tagged}
use Rattle.verdict_walk.specs.Gather.{named, weighed_pair, base_of, nothing_yet, Pushed, Gather, Room, Weighed}

-- there is no pair among none
pub none_at : (k : ℕ) → get_or no_pairs k no_pair ≡ no_pair
none_at zero = refl
none_at (suc zero) = refl
none_at (suc (suc zero)) = refl
none_at (suc (suc (suc zero))) = refl
none_at (suc (suc (suc (suc k)))) = refl

pub gather_none : (gap : ℕ) (A B : Piece) → Gather gap A B 0 (pos 0) (pos 0) (pos 0) nothing_yet
unfolding weighted
gather_none gap A B = record {
  size = refl;
  few = omega arith;
  fair = λ p m. absurd (Memᴰ.not-nil m);
  sum_x = refl;
  sum_y = refl;
  sum_z = refl;
  rest = λ k _. none_at k;
  uncubed = λ _ k. ap (λ (p : Pair). p.cube) (none_at k);
}

-- ---- lists
weighted_snoc : (along : Vec3 → ℤ) (gap : ℕ) (A B : Piece) (ps : List Pair) (p : Pair)
    → weighted along gap A B (ps ++ (p ∷ [])) ≡ weighted along gap A B ps +ℤ p.weight *ℤ along (difference_of gap A B p)
unfolding weighted
weighted_snoc along gap A B [] p = +ℤ_idr t ∙ sym (+ℤ_idl t)
  where
    t : ℤ
    t = p.weight *ℤ along (difference_of gap A B p)
weighted_snoc along gap A B (q ∷ ps) p =
    ap (λ s. q.weight *ℤ along (difference_of gap A B q) +ℤ s) (weighted_snoc along gap A B ps p)
    ∙ sym (+ℤ_assoc (q.weight *ℤ along (difference_of gap A B q)) (weighted along gap A B ps) (p.weight *ℤ along (difference_of gap A B p)))

-- ---- the cube corner that a pair names
pub named_rest : (gap : ℕ) {c : ℕ} → (gap ≡ 0 → ⊥) → c ≡ named gap c
named_rest zero f = absurd (f refl)
named_rest (suc gap) f = refl

named_inside : (gap : ℕ) {c : ℕ} → c < cube_corners → named gap c < cube_corners
named_inside zero h = omega arith
named_inside (suc gap) h = h

-- it stands for the corner that the point has: with no gap all corners of the cube are one
pub named_same : (gap : ℕ) (A : Piece) (i c : ℕ) → widened_at gap A i c ≡ widened_at gap A i (named gap c)
named_same zero A i c = unwidened A i c ∙ sym (unwidened A i 0)
named_same (suc gap) A i c = refl

-- ---- one more
module _ {gap : ℕ} {A B : Piece} {n : ℕ} {x y z w : ℤ} {b : Vec3} {g r : Pairs} {p : Difference} (h : Gather gap A B n x y z g) (room : n < 4)
    (t : Tagged A B b p) (nn : pos 0 ≤ℤ w) (most : w ≤ℤ pos weight_most) (u : Pushed gap g p w r) where
  skipped : w ≡ pos 0 → Gather gap A B (n + 1) (x +ℤ w *ℤ (base_of gap A B p).x) (y +ℤ w *ℤ (base_of gap A B p).y) (z +ℤ w *ℤ (base_of gap A B p).z) r
  skipped e = subst (Gather gap A B (n + 1) (x +ℤ w *ℤ (base_of gap A B p).x) (y +ℤ w *ℤ (base_of gap A B p).y) (z +ℤ w *ℤ (base_of gap A B p).z)) (sym (u.none e)) (record {
    size = h.size;
    few = let k = h.few in omega arith;
    fair = h.fair;
    sum_x = h.sum_x ∙ nil x (base_of gap A B p).x;
    sum_y = h.sum_y ∙ nil y (base_of gap A B p).y;
    sum_z = h.sum_z ∙ nil z (base_of gap A B p).z;
    rest = h.rest;
    uncubed = h.uncubed;
  })
    where
      nil : (s t : ℤ) → s ≡ s +ℤ w *ℤ t
      nil s t = sym (+ℤ_idr s) ∙ ap (λ v. s +ℤ v) (sym (zero-*ℤ t) ∙ ap (λ v. v *ℤ t) (sym e))

  taken : (w ≡ pos 0 → ⊥) → Gather gap A B (n + 1) (x +ℤ w *ℤ (base_of gap A B p).x) (y +ℤ w *ℤ (base_of gap A B p).y) (z +ℤ w *ℤ (base_of gap A B p).z) r
  taken f = record {
    size = ap length (u.stored f) ∙ length-set g.pairs g.count (weighed_pair gap p w) ∙ h.size;
    few = let k = h.few in let e = u.counted f in omega arith;
    fair = λ q m. ⊎_elim (λ k. h.fair q k) (λ k. subst (Fair A B) (sym (Memᴰ.eq_of_singleton k)) new) (Memᴰ.append_cases (take g.count g.pairs) (subst (Memᴰ q) now_is m));
    sum_x = ap (weighted (λ v. v.x) gap A B) now_is ∙ weighted_snoc (λ v. v.x) gap A B (take g.count g.pairs) (weighed_pair gap p w) ∙ ap (λ s. s +ℤ w *ℤ (base_of gap A B p).x) h.sum_x;
    sum_y = ap (weighted (λ v. v.y) gap A B) now_is ∙ weighted_snoc (λ v. v.y) gap A B (take g.count g.pairs) (weighed_pair gap p w) ∙ ap (λ s. s +ℤ w *ℤ (base_of gap A B p).y) h.sum_y;
    sum_z = ap (weighted (λ v. v.z) gap A B) now_is ∙ weighted_snoc (λ v. v.z) gap A B (take g.count g.pairs) (weighed_pair gap p w) ∙ ap (λ s. s +ℤ w *ℤ (base_of gap A B p).z) h.sum_z;
    rest =
        λ k l. ap (λ ps. get_or ps k no_pair) (u.stored f) ∙ get_or-set_other g.pairs g.count k (weighed_pair gap p w) no_pair (λ e. let n = u.counted f in omega arith) ∙ h.rest k
        (let n = u.counted f in omega arith);
    uncubed = λ z k. ap (λ ps. (get_or ps k no_pair).cube) (u.stored f) ∙ stored_cube z k;
  }
    where
      count-is : r.count ≡ suc g.count
      count-is = u.counted f ∙ add-one g.count

      now_is : take r.count r.pairs ≡ take g.count g.pairs ++ (weighed_pair gap p w ∷ [])
      now_is = ap₂ take count-is (u.stored f) ∙ take-suc-set g.pairs g.count (weighed_pair gap p w) (let k = h.few in let e = h.size in omega arith)

      positive : pos 1 ≤ℤ w
      positive = ⊎_elim (λ k. absurd (clash_ℤ k nn)) (⊎_elim (λ k. absurd (f k)) (λ k. lt_succ k)) (trichotomy w (pos 0))

      new : Fair A B (weighed_pair gap p w)
      new = record { of_first = t.of_first; of_cube = named_inside gap t.of_cube; of_second = t.of_second; least = positive; most = most }

      stored_cube : gap ≡ 0 → (k : ℕ) → (get_or (set g.pairs g.count (weighed_pair gap p w)) k no_pair).cube ≡ 0
      stored_cube z k = go (ℕ_discrete g.count k)
        where
          go : Dec (g.count ≡ k) → (get_or (set g.pairs g.count (weighed_pair gap p w)) k no_pair).cube ≡ 0
          go (yes e) = ap (λ j. (get_or (set g.pairs g.count (weighed_pair gap p w)) j no_pair).cube) (sym e)
              ∙ ap (λ (q : Pair). q.cube) (get_or-set_same g.pairs g.count (weighed_pair gap p w) no_pair (let l = h.few in let e = h.size in omega arith))
              ∙ ap (λ j. named j p.cube) z
          go (no f) = ap (λ (q : Pair). q.cube) (get_or-set_other g.pairs g.count k (weighed_pair gap p w) no_pair (λ e. f (sym e))) ∙ h.uncubed z k

  pub gather_more : Gather gap A B (n + 1) (x +ℤ w *ℤ (base_of gap A B p).x) (y +ℤ w *ℤ (base_of gap A B p).y) (z +ℤ w *ℤ (base_of gap A B p).z) r
  gather_more = ⊎_elim (λ k. absurd (clash_ℤ k nn)) (⊎_elim skipped (λ k. taken (λ e. gt_other k e))) (trichotomy w (pos 0))

-- ---- what the code makes
pub push_none : {gap : ℕ} {g : Pairs} {p : Difference} {w : ℤ} → w ≡ pos 0 → Pushed gap g p w g
push_none e = record { none = λ _. refl; counted = λ f. absurd (f e); stored = λ f. absurd (f e) }

pub push_some : {gap c : ℕ} {g : Pairs} {p : Difference} {w v : ℤ} → (w ≡ pos 0 → ⊥) → c ≡ named gap p.cube → v ≡ w
    → Pushed gap g p w (record { count = g.count + 1; pairs = set g.pairs g.count (record { first = p.first; cube = c; second = p.second; weight = v }) })
push_some {g} {p} f ec e = record {
  none = λ k. absurd (f k);
  counted = λ _. refl;
  stored = λ _. ap₂ (λ d z. set g.pairs g.count (record { first = p.first; cube = d; second = p.second; weight = z })) ec e;
}

pub room_more : {gap : ℕ} {g r : Pairs} {p : Difference} {w : ℤ} {n : ℕ} → Room n g → Pushed gap g p w r → Room (n + 1) r
room_more {gap} {g} {r} {p} {w} {n} h u =
    ⊎_elim (λ k. some (λ e. lt_other k e)) (⊎_elim (λ k. subst (Room (n + 1)) (sym (u.none k)) (record { few = let l = h.few in omega arith; size = h.size })) (λ k. some (λ e. gt_other k e)))
    (trichotomy w (pos 0))
  where
    some : (w ≡ pos 0 → ⊥) → Room (n + 1) r
    some f = record { few = let l = h.few in let e = u.counted f in omega arith; size = ap length (u.stored f) ∙ length-set g.pairs g.count (weighed_pair gap p w) ∙ h.size }

-- what weighs nothing is not counted
count_stays : {gap : ℕ} {g r : Pairs} {p : Difference} {w : ℤ} → Pushed gap g p w r → w ≡ pos 0 → r.count ≡ g.count
count_stays u e = ap (λ h. h.count) (u.none e)

-- nothing that was gathered is lost
pub count_grows : {gap : ℕ} {g r : Pairs} {p : Difference} {w : ℤ} → Pushed gap g p w r → g.count ≤ r.count
count_grows {g} {r} {p} {w} u =
    ⊎_elim (λ k. some (λ e. lt_other k e)) (⊎_elim (λ k. let e : r.count ≡ g.count = count_stays u k in omega arith) (λ k. some (λ e. gt_other k e))) (trichotomy w (pos 0))
  where
    some : (w ≡ pos 0 → ⊥) → g.count ≤ r.count
    some f = let e = u.counted f in omega arith

-- and no push adds more than one
count_once : {gap : ℕ} {g r : Pairs} {p : Difference} {w : ℤ} → Pushed gap g p w r → r.count ≤ g.count + 1
count_once {g} {r} {p} {w} u =
    ⊎_elim (λ k. some (λ e. lt_other k e)) (⊎_elim (λ k. let e : r.count ≡ g.count = count_stays u k in omega arith) (λ k. some (λ e. gt_other k e))) (trichotomy w (pos 0))
  where
    some : (w ≡ pos 0 → ⊥) → r.count ≤ g.count + 1
    some f = let e = u.counted f in omega arith

-- where four were gathered, each of them weighs something
pub record FourWeigh (e : Ended) : Type 0 where
  pub first : pos 0 -ℤ det e.portal.a.at e.portal.b.at e.portal.c.at ≡ pos 0 → ⊥
  pub second : det e.last.at e.portal.b.at e.portal.c.at ≡ pos 0 → ⊥
  pub third : det e.portal.a.at e.last.at e.portal.c.at ≡ pos 0 → ⊥
  pub fourth : det e.portal.a.at e.portal.b.at e.last.at ≡ pos 0 → ⊥

pub four_weigh : {gap : ℕ} {e : Ended} {r : Pairs} → Weighed gap e r → r.count ≡ 4 → FourWeigh e
four_weigh {e} {r} h n = record {
  first = λ z. let k : h.g1.count ≡ 0 = count_stays h.first z in omega (arith, most2, most3, most4);
  second = λ z. let k = count_stays h.second z in omega (arith, most1, most3, most4);
  third = λ z. let k = count_stays h.third z in omega (arith, most1, most2, most4);
  fourth = λ z. let k = count_stays h.fourth z in omega (arith, most1, most2, most3);
}
  where
    most1 : h.g1.count ≤ 0 + 1
    most1 = count_once h.first

    most2 : h.g2.count ≤ h.g1.count + 1
    most2 = count_once h.second

    most3 : h.g3.count ≤ h.g2.count + 1
    most3 = count_once h.third

    most4 : r.count ≤ h.g3.count + 1
    most4 = count_once h.fourth

pub room_none : {n : ℕ} {g : Pairs} → g ≡ nothing_yet → Room n g
room_none {n} e = subst (Room n) (sym e) (record { few = omega arith; size = refl })

pub room_le : {m n : ℕ} {g : Pairs} → m ≤ n → Room m g → Room n g
room_le h r = record { few = let k = r.few in omega arith; size = r.size }

pub pushed_as : {gap : ℕ} {g h r : Pairs} {p : Difference} {w v : ℤ} → g ≡ h → w ≡ v → Pushed gap g p w r → Pushed gap h p v r
pushed_as {gap} {g} {h} {r} {p} {w} {v} e k u = subst (λ x. Pushed gap x p v r) e (subst (λ x. Pushed gap g p x r) k u)

-- ---- what is gathered is one
pushed_once : {gap : ℕ} {g q r : Pairs} {p : Difference} {w : ℤ} → Pushed gap g p w q → Pushed gap g p w r → q ≡ r
pushed_once {g} {q} {r} {p} {w} u v = ⊎_elim (λ k. some (λ e. lt_other k e)) (⊎_elim (λ k. u.none k ∙ sym (v.none k)) (λ k. some (λ e. gt_other k e))) (trichotomy w (pos 0))
  where
    some : (w ≡ pos 0 → ⊥) → q ≡ r
    some f = λ i. record { count = (u.counted f ∙ sym (v.counted f)) i; pairs = (u.stored f ∙ sym (v.stored f)) i }

pub weighed_once : {gap : ℕ} {e : Ended} {q r : Pairs} → Weighed gap e q → Weighed gap e r → q ≡ r
weighed_once a b =
    let one = pushed_once a.first b.first in
    let two = pushed_once (pushed_as one refl a.second) b.second in
    let three = pushed_once (pushed_as two refl a.third) b.third in
    pushed_once (pushed_as three refl a.fourth) b.fourth

-- ---- the weights as the code holds them
pub weight_within : {a b c : Vec3} → Upto point_reach a → Upto point_reach b → Upto point_reach c → Within weight_reach (det a b c)
weight_within u v w = within (search known depth 15) tt

pub minus_within : {z : ℤ} → Within weight_reach z → Within weight_reach (pos 0 -ℤ z)
minus_within w = within (search known depth 9) tt

pub weight_is : {w v : ℤ} → w ≡ v → Within weight_reach v → to_z w64 (of_z w64 w) ≡ v
weight_is e h = worth (k_back w64 _ (k-is e (k_within h))) tt

pub weight_fits : {w v : ℤ} → w ≡ v → Within weight_reach v → Within weight_reach (to_z w64 (of_z w64 w))
weight_fits e h = subst (Within weight_reach) (sym (weight_is e h)) h

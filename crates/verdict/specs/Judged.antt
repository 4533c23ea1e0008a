-- From the ends of the two walks to the verdict and what it carries.
-- Strict walk: separate, or a meeting; then the weak walk: touching, or penetrating. Both walk the thick set where the difference is flat.
use Rattle.std.specs.Prelude.{◌≡◌, refl, [], ◌∷◌, Bool, true, false, ◌⊎◌, ℕ, ◌+◌, ◌≤◌, T, length, take, get_or, ℤ, pos, neg_ℤ, nat_abs, ◌+ℤ◌, ◌-ℤ◌, ◌*ℤ◌, ◌≤ℤ◌, ◌<ℤ◌}
use Rattle.std.proofs.Common.{sym, ap, ◌∙◌, subst, inl, inr, ⊎_elim, arith, length-take}
use Rattle.std.proofs.Math.IntN.{*ℤ-zero, +ℤ_idl}
use Rattle.std.specs.Int.Signed.{clash_ℤ}
use Rattle.ints.proofs.Quote.{sides, by_ring}
use Rattle.ints.specs.Order.{trichotomy, lt→≤ℤ, ≤ℤ-trans}
use Rattle.ints.proofs.OrderLaws.{<ℤ-cancel, nn_pos}
use Rattle.ints.proofs.MeasureLaws.{nat_of}
use Rattle.ints.specs.Bounds.{Within, within, within_upper}
use Rattle.ints.proofs.Known.{known}
use Rattle.ints.specs.Sign.{Under}
use Rattle.ints.proofs.SignLaws.{gt_other}
use Rattle.limits.specs.Decides.{Decides}
use Rattle.limits.specs.Limits.{done, weight_most, direction_reach, placed_reach, placed_range, list_length, gap_most, gap_refused}
use Rattle.limits.specs.Lowest.{Lowest}
use Rattle.space.specs.declared.Vec3.{Vec3}
use Rattle.space.specs.declared.Pair.{Pair}
use Rattle.space.specs.Vectors.{dot, minus, det, env1, origin}
use Rattle.space.specs.Ranges.{Upto, point_reach, shift_reach, weight_reach}
use Rattle.space.specs.Verdicts.{Piece, corner_at, widened_at, Below, Supported, Balance}
use Rattle.space.specs.Lists.{LengthFits, InReach, Placed}
use Rattle.verdict_portal.specs.declared.Three.{Three}
use Rattle.verdict_portal.specs.Portal.{ZeroSum, cramer}
use Rattle.verdict_portal.specs.Sizes.{big_k, pos_k, front_under, start, start_flipped, start_shifted, plain, plain_nn}
use Rattle.verdict_portal.specs.Round.{Setting, PortalHeld, Met}
use Rattle.verdict_portal.specs.Exits.{sum3, w1, w2, e1}
use Rattle.verdict_portal.specs.Flat.{Drops, f4}
use Rattle.verdict_walk.specs.declared.support.Difference.{Difference}
use Rattle.verdict_walk.specs.declared.path.Ended.{Ended}
use Rattle.verdict_frame.specs.declared.frame.Frame.{Frame}
use Rattle.space.specs.declared.Pairs.{Pairs}
use Rattle.verdict_walk.specs.NoPairs.{no_pair}
use Rattle.verdict_walk.specs.Points.{Tagged}
use Rattle.verdict_walk.specs.PointLaws.{spread_of, below_of, supported_of}
use Rattle.verdict_walk.specs.Ends.{Ground, Begun, Walked, Corners, Near}
use Rattle.verdict_walk.specs.EndLaws.{point_upto}
use Rattle.verdict_frame.specs.Frames.{Framed, Dropping, frame_places, FirstPortal}
use Rattle.verdict_frame.specs.FrameLaws.{origin_upto, walled_of}
use Rattle.verdict_walk.specs.Gather.{base_of, Gather, Weighed}
use Rattle.verdict_walk.specs.GatherLaws.{weight_within, minus_within, none_at, named_same, gather_none, gather_more, count_grows, FourWeigh, four_weigh}
use Rattle.verdict.specs.declared.witnessed.Verdict.{Verdict}
use Rattle.verdict.specs.declared.witnessed.Verdict.TheVariants.{Separate, Touching, Penetrating}
use Rattle.verdict.specs.Answers.{Answer, refusals, nothing, answer_with, BadLength, OutOfReach, GapFits, Carries, Answers}

-- what is not negative and not 0 is positive
above_zero : {w : ℤ} → pos 0 ≤ℤ w → (w ≡ pos 0 → ⊥) → pos 0 <ℤ w
above_zero {w} h f = ⊎_elim (λ l. absurd (clash_ℤ l h)) (⊎_elim (λ l. absurd (f l)) (λ l. l)) (trichotomy w (pos 0))

-- ---- what the walks of a frame begin with
module _ {gap : ℕ} {A B : Piece} {f : Frame} (pa : Placed A) (pb : Placed B) (k : Framed gap A B f) where
  pub grounded : Ground A B f.widths
  grounded = record { first = pa; second = pb; box = k.box }

  pub frame_corners : {v : Three Vec3} → v ≡ frame_places f → Corners v
  frame_corners e = subst Corners (sym e) (record { ina = point_upto grounded k.ofa; inb = point_upto grounded k.ofb; inc = point_upto grounded k.ofc })

  cs : Corners (frame_places f)
  cs = frame_corners refl

  set_at : (q : Vec3) → Upto shift_reach q → Setting q f.a.at f.b.at f.c.at
  set_at q u = record { inq = u; in1 = cs.ina; in2 = cs.inb; in3 = cs.inc; free = k.free }

  pub begun_strict : {q : Vec3} {v : Three Vec3} {t : Three Difference} → q ≡ origin → v ≡ frame_places f → FirstPortal f t → Begun A B f.widths q v t
  begun_strict {q} {v} {t} eq ev s = subst (λ w. Begun A B f.widths w v t) (sym eq) (subst (λ w. Begun A B f.widths origin w t) (sym ev) (⊎_elim
      (λ h. subst (Begun A B f.widths origin (frame_places f)) (sym h.1) (first h.0))
      (λ h. subst (Begun A B f.widths origin (frame_places f)) (sym h.1) (second (above_zero h.0 k.free))) s))
    where
      o : Upto shift_reach origin
      o = origin_upto shift_reach

      first : det f.a.at f.b.at f.c.at <ℤ pos 0 → Begun A B f.widths origin (frame_places f) (record { a = f.a; b = f.b; c = f.c })
      first d = record {
        setting = set_at origin o;
        held = record { ina = cs.ina; inb = cs.inb; inc = cs.inc; inv = start_shifted o cs.ina cs.inb cs.inc cs.ina cs.inb cs.inc (start f.a.at f.b.at f.c.at d) };
        ofa = k.ofa;
        ofb = k.ofb;
        ofc = k.ofc;
      }

      second : pos 0 <ℤ det f.a.at f.b.at f.c.at → Begun A B f.widths origin (frame_places f) (record { a = f.a; b = f.c; c = f.b })
      second d = record {
        setting = set_at origin o;
        held =
            record {
              ina = cs.ina;
              inb = cs.inc;
              inc = cs.inb;
              inv = start_shifted o cs.ina cs.inc cs.inb cs.ina cs.inb cs.inc (start_flipped f.a.at f.b.at f.c.at d);
            };
        ofa = k.ofa;
        ofb = k.ofc;
        ofc = k.ofb;
      }

  -- the strict walk's end, with what it began with put in
  pub strict : {q : Vec3} {v : Three Vec3} {e : Ended} → q ≡ origin → v ≡ frame_places f → Walked A B f.widths q v e → Walked A B f.widths origin (frame_places f) e
  strict {q} {v} {e} eq ev w = subst (λ u. Walked A B f.widths u (frame_places f) e) eq (subst (λ u. Walked A B f.widths q u e) ev w)

  sum_upto : Upto shift_reach (sum3 f.a.at f.b.at f.c.at)
  sum_upto = go f.a.at f.b.at f.c.at cs.ina cs.inb cs.inc
    where
      go : (a b c : Vec3) → Upto point_reach a → Upto point_reach b → Upto point_reach c → Upto shift_reach (sum3 a b c)
      go a b c u v w = record { ux = within (search known depth 9) tt; uy = within (search known depth 9) tt; uz = within (search known depth 9) tt }

  pub begun_weak : {q : Vec3} {v : Three Vec3} {e : Ended} → q ≡ sum3 f.a.at f.b.at f.c.at → v ≡ frame_places f → Walked A B f.widths origin (frame_places f) e
      → Begun A B f.widths q v e.portal
  begun_weak {q} {v} {e} eq ev w = subst (λ u. Begun A B f.widths u v e.portal) (sym eq) (subst (λ u. Begun A B f.widths (sum3 f.a.at f.b.at f.c.at) u e.portal) (sym ev)
      (let h = w.begun.held in
      record {
        setting = set_at (sum3 f.a.at f.b.at f.c.at) sum_upto;
        held = record {
          ina = h.ina;
          inb = h.inb;
          inc = h.inc;
          inv =
              start_shifted sum_upto h.ina h.inb h.inc cs.ina cs.inb cs.inc
              (plain e.portal.a.at e.portal.b.at e.portal.c.at f.a.at f.b.at f.c.at h.inv);
        };
        ofa = w.begun.ofa;
        ofb = w.begun.ofb;
        ofc = w.begun.ofc;
      }))

  -- ---- apart: separate
  pub separate_by : {e : Ended} → Walked A B f.widths origin (frame_places f) e → e.met ≡ false → Below e.normal gap A B
  separate_by {e} w t =
      below_of n
      (λ y m. <ℤ-cancel {a = dot n y} {b = pos 0} big_k pos_k
      (subst (λ z. z <ℤ (big_k *ℤ pos 0)) (flat big_k (dot n y)) (subst (λ z. (big_k *ℤ dot n y +ℤ dot n origin) <ℤ z) (sym (*ℤ-zero big_k)) ((w.apart t).all y m)))) k.of_gap
    where
      n : Vec3
      n = e.normal

      flat : (u v : ℤ) → u *ℤ v +ℤ dot n origin ≡ u *ℤ v
      flat u v = by_ring (u ∷ v ∷ env1 n []) (search sides depth 9) refl

-- ---- the weights of a meeting
weight_most_lem : {z : ℤ} → Within weight_reach z → z ≤ℤ pos weight_most
weight_most_lem w = ≤ℤ-trans (within_upper w) (record { le = tt })

drops : {gap : ℕ} {A B : Piece} {g : Vec3} {p : Difference} (d : Dropping gap A B g) → Tagged A B g p → Drops d.k d.r1 d.r2 d.r3 p.at (base_of gap A B p)
drops {gap} {A} {B} {g} {p} d t =
    subst (λ v. Drops d.k d.r1 d.r2 d.r3 p.at (minus v (corner_at B p.second))) (named_same gap A p.first p.cube)
    (subst (λ v. Drops d.k d.r1 d.r2 d.r3 v (minus (widened_at gap A p.first p.cube) (corner_at B p.second))) (sym t.is)
    (d.drop p.first p.cube p.second t.of_first t.of_cube t.of_second))

pub record Weights (gap : ℕ) (A B : Piece) (r : Pairs) : Type 0 where
  pub counted : (1 ≤ r.count) × (r.count ≤ 4)
  pub balance : Balance gap A B (take r.count r.pairs)
  pub four : length r.pairs ≡ 4
  pub rest : (k : ℕ) → r.count ≤ k → get_or r.pairs k no_pair ≡ no_pair
  pub uncubed : gap ≡ 0 → (k : ℕ) → (get_or r.pairs k no_pair).cube ≡ 0

pub weights : {gap : ℕ} {A B : Piece} {f : Frame} {e : Ended} {r : Pairs} (pa : Placed A) (pb : Placed B) (k : Framed gap A B f) → Walked A B f.widths origin (frame_places f) e → e.met ≡ true
    → Weighed gap e r → Weights gap A B r
weights {gap} {A} {B} {f} {e} {r} pa pb k w t h = record {
  counted = (counted, g4.few);
  balance = record {
    some = some;
    few = few;
    fair = g4.fair;
    zero_x = g4.sum_x ∙ back (w0 *ℤ bp.x) (w1' *ℤ ba.x) (w2' *ℤ bb.x) (w3 *ℤ bc.x) ∙ zero.bx;
    zero_y = g4.sum_y ∙ back (w0 *ℤ bp.y) (w1' *ℤ ba.y) (w2' *ℤ bb.y) (w3 *ℤ bc.y) ∙ zero.by;
    zero_z = g4.sum_z ∙ back (w0 *ℤ bp.z) (w1' *ℤ ba.z) (w2' *ℤ bb.z) (w3 *ℤ bc.z) ∙ zero.bz;
  };
  four = g4.size;
  rest = g4.rest;
  uncubed = g4.uncubed;
}
  where
    p : Vec3
    p = e.last.at

    a : Vec3
    a = e.portal.a.at

    b : Vec3
    b = e.portal.b.at

    c : Vec3
    c = e.portal.c.at

    bp : Vec3
    bp = base_of gap A B e.last

    ba : Vec3
    ba = base_of gap A B e.portal.a

    bb : Vec3
    bb = base_of gap A B e.portal.b

    bc : Vec3
    bc = base_of gap A B e.portal.c

    w0 : ℤ
    w0 = pos 0 -ℤ det a b c

    w1' : ℤ
    w1' = det p b c

    w2' : ℤ
    w2' = det a p c

    w3 : ℤ
    w3 = det a b p

    gr : Ground A B f.widths
    gr = grounded pa pb k

    up : Upto point_reach p
    up = point_upto gr w.last

    hd : PortalHeld origin f.a.at f.b.at f.c.at a b c
    hd = w.begun.held

    met : Met origin p a b c
    met = w.met t

    n0 : pos 0 <ℤ w0
    n0 = subst (λ z. pos 0 <ℤ z) (sym (+ℤ_idl (neg_ℤ (det a b c)))) (plain a b c f.a.at f.b.at f.c.at hd.inv).hp

    g1 : Gather gap A B 1 (pos 0 +ℤ w0 *ℤ bp.x) (pos 0 +ℤ w0 *ℤ bp.y) (pos 0 +ℤ w0 *ℤ bp.z) h.g1
    g1 = gather_more (gather_none gap A B) (omega arith) w.last (lt→≤ℤ n0) (weight_most_lem (minus_within (weight_within hd.ina hd.inb hd.inc))) h.first

    g2 : Gather gap A B 2 (pos 0 +ℤ w0 *ℤ bp.x +ℤ w1' *ℤ ba.x) (pos 0 +ℤ w0 *ℤ bp.y +ℤ w1' *ℤ ba.y) (pos 0 +ℤ w0 *ℤ bp.z +ℤ w1' *ℤ ba.z) h.g2
    g2 = gather_more g1 (omega arith) w.begun.ofa (plain_nn p b c met.w1) (weight_most_lem (weight_within up hd.inb hd.inc)) h.second

    g3 : Gather gap A B 3 (pos 0 +ℤ w0 *ℤ bp.x +ℤ w1' *ℤ ba.x +ℤ w2' *ℤ bb.x) (pos 0 +ℤ w0 *ℤ bp.y +ℤ w1' *ℤ ba.y +ℤ w2' *ℤ bb.y) (pos 0 +ℤ w0 *ℤ bp.z +ℤ w1' *ℤ ba.z +ℤ w2' *ℤ bb.z) h.g3
    g3 = gather_more g2 (omega arith) w.begun.ofb (plain_nn a p c met.w2) (weight_most_lem (weight_within hd.ina up hd.inc)) h.third

    g4 : Gather gap A B 4 (pos 0 +ℤ w0 *ℤ bp.x +ℤ w1' *ℤ ba.x +ℤ w2' *ℤ bb.x +ℤ w3 *ℤ bc.x)
        (pos 0 +ℤ w0 *ℤ bp.y +ℤ w1' *ℤ ba.y +ℤ w2' *ℤ bb.y +ℤ w3 *ℤ bc.y) (pos 0 +ℤ w0 *ℤ bp.z +ℤ w1' *ℤ ba.z +ℤ w2' *ℤ bb.z +ℤ w3 *ℤ bc.z) r
    g4 = gather_more g3 (omega arith) w.begun.ofc (plain_nn a b p met.w3) (weight_most_lem (weight_within hd.ina hd.inb up)) h.fourth

    back : (s t u v : ℤ) → pos 0 +ℤ s +ℤ t +ℤ u +ℤ v ≡ s +ℤ t +ℤ u +ℤ v
    back s t u v = by_ring (s ∷ t ∷ u ∷ v ∷ []) (search sides depth 9) refl

    zero : ZeroSum w0 w1' w2' w3 bp ba bb bc
    zero = f4 k.dropping.nonzero (drops k.dropping w.last) (drops k.dropping w.begun.ofa) (drops k.dropping w.begun.ofb) (drops k.dropping w.begun.ofc)
        (subst (λ z. ZeroSum z w1' w2' w3 p a b c) (sym (+ℤ_idl (neg_ℤ (det a b c)))) (cramer a b c p))

    counted : 1 ≤ r.count
    counted =
        let c1 : h.g1.count ≡ 0 + 1 = h.first.counted (λ z. gt_other n0 z) in
        let c2 = count_grows h.second in
        let c3 = count_grows h.third in
        let c4 = count_grows h.fourth in
        omega arith

    some : 1 ≤ length (take r.count r.pairs)
    some = let l = length-take r.count r.pairs in let z = g4.size in omega (arith, counted)

    few : length (take r.count r.pairs) ≤ 4
    few = let l = length-take r.count r.pairs in let z = g4.size in omega arith

-- ---- the answers
pub carries_separate : {gap : ℕ} {A B : Piece} {n : Vec3} → Below n gap A B → Upto direction_reach n → Carries gap A B (answer_with (Separate n))
carries_separate {n} h u = record {
  right = inl (refl, record { direction = n; parts = h });
  small = u;
  parting = λ _. h;
  supporting = λ e. absurd (omega arith);
  undirected = λ e. absurd (omega arith);
  unpaired = λ _. refl;
  paired = λ f. absurd (f refl);
  meeting = λ f. absurd (f refl);
  four = refl;
  rest = λ k _. none_at k;
  uncubed = λ _ k. ap (λ (p : Pair). p.cube) (none_at k);
}

pub carries_touching : {gap : ℕ} {A B : Piece} {d : Vec3} {g : Pairs} → Supported d gap A B → Upto direction_reach d → Weights gap A B g → Carries gap A B (answer_with (Touching d g))
carries_touching {d} {g} h u w = record {
  right = inr (inl (refl, record { meeting = record { pairs = take g.count g.pairs; balance = w.balance }; direction = d; supported = h }));
  small = u;
  parting = λ e. absurd (omega arith);
  supporting = λ _. h;
  undirected = λ e. absurd (omega arith);
  unpaired = λ e. absurd (omega arith);
  paired = λ _. w.counted;
  meeting = λ _. w.balance;
  four = w.four;
  rest = w.rest;
  uncubed = w.uncubed;
}

pub carries_penetrating : {gap : ℕ} {A B : Piece} {g : Pairs} → ((d : Vec3) → Supported d gap A B → ⊥) → Weights gap A B g → Carries gap A B (answer_with (Penetrating g))
carries_penetrating {g} h w = record {
  right = inr (inr (refl, record { meeting = record { pairs = take g.count g.pairs; balance = w.balance }; free = h }));
  small = origin_upto direction_reach;
  parting = λ e. absurd (omega arith);
  supporting = λ e. absurd (omega arith);
  undirected = λ _. refl;
  unpaired = λ e. absurd (omega arith);
  paired = λ _. w.counted;
  meeting = λ _. w.balance;
  four = w.four;
  rest = w.rest;
  uncubed = w.uncubed;
}

-- ---- E1: where four points weigh something
pub penetrating_at_once : {gap : ℕ} {A B : Piece} {f : Frame} {e : Ended} {r : Pairs} (k : Framed gap A B f) → Walked A B f.widths origin (frame_places f) e → e.met ≡ true → Weighed gap e r
    → r.count ≡ 4 → (d : Vec3) → Supported d gap A B → ⊥
penetrating_at_once {gap} {A} {B} {f} {e} k w t h n d s =
    e1 (spread_of w.last) (spread_of w.begun.ofa) (spread_of w.begun.ofb) (spread_of w.begun.ofc) (plain a b c f.a.at f.b.at f.c.at w.begun.held.inv).hp
    (above_zero (plain_nn p b c (w.met t).w1) four.second) (above_zero (plain_nn a p c (w.met t).w2) four.third) (above_zero (plain_nn a b p (w.met t).w3) four.fourth)
    (cramer a b c p) (λ z. four.first (ap (λ u. pos 0 -ℤ u) z)) _ (walled_of k.dropping s)
  where
    p : Vec3
    p = e.last.at

    a : Vec3
    a = e.portal.a.at

    b : Vec3
    b = e.portal.b.at

    c : Vec3
    c = e.portal.c.at

    four : FourWeigh e
    four = four_weigh h n

-- ---- the weak walk's ends
module _ {gap : ℕ} {A B : Piece} {f : Frame} {q : Vec3} {v : Three Vec3} {e : Ended} (k : Framed gap A B f)
    (eq : q ≡ sum3 f.a.at f.b.at f.c.at) (ev : v ≡ frame_places f) (w : Walked A B f.widths q v e) where
  weak : Walked A B f.widths (sum3 f.a.at f.b.at f.c.at) (frame_places f) e
  weak = subst (λ u. Walked A B f.widths u (frame_places f) e) eq (subst (λ u. Walked A B f.widths q u e) ev w)

  pub touching_by : e.met ≡ false → Supported e.normal gap A B
  touching_by t =
      supported_of (w1 e.normal f.a.at f.b.at f.c.at (spread_of k.ofa) (spread_of k.ofb) (spread_of k.ofc)
      (subst (λ n. Under big_k (dot n (sum3 f.a.at f.b.at f.c.at))) (sym weak.normal_is)
      (front_under weak.begun.setting.inq weak.begun.held.ina weak.begun.held.inb weak.begun.held.inc)) (weak.apart t)) k.of_gap

  pub penetrating_by : e.met ≡ true → (d : Vec3) → Supported d gap A B → ⊥
  penetrating_by t d s =
      w2 f.a.at f.b.at f.c.at (spread_of k.ofa) (spread_of k.ofb) (spread_of k.ofc) k.free (spread_of weak.last) (spread_of weak.begun.ofa)
      (spread_of weak.begun.ofb) (spread_of weak.begun.ofc) (weak.met t) _ (walled_of k.dropping s)

-- ---- what the functions between are asked with
pub record MeetingAt (gap : ℕ) (A B : Piece) (f : Frame) (e : Ended) : Type 0 where
  pub framed : Framed gap A B f
  pub walked : Walked A B f.widths origin (frame_places f) e
  pub met : e.met ≡ true

pub near_at : {gap : ℕ} {A B : Piece} {f : Frame} {e : Ended} → Placed A → Placed B → MeetingAt gap A B f e → Near e
near_at pa pb m =
    record {
      portal = record { ina = m.walked.begun.held.ina; inb = m.walked.begun.held.inb; inc = m.walked.begun.held.inc };
      last = point_upto (grounded pa pb m.framed)
          m.walked.last;
    }

-- a test of both lists: true says that all is well with both, false that the refusal applies
pub record TestsBoth (b : Bool) (Well Applies : Type 0) : Type 0 where
  pub yes : b ≡ true → Well
  pub no : b ≡ false → Applies

pub tells_no : {b : Bool} {P C : Type 0} → b ≡ false → C → TestsBoth b P C
tells_no e h = record { yes = λ t. absurd (subst T (sym t ∙ e) tt); no = λ _. h }

-- of two tests, the second's answer where the first is passed
pub tells_both : {b : Bool} {P Q : Type 0} → P → Decides b Q → TestsBoth b (P × Q) ((P → ⊥) ⊎ (Q → ⊥))
tells_both p d = record { yes = λ t. (p, d.yes t); no = λ f. inr (d.no f) }

abbrev pub BothFit : Piece → Piece → Type 0
BothFit A B = LengthFits (length A) × LengthFits (length B)

abbrev pub BothNear : Piece → Piece → Type 0
BothNear A B = InReach placed_reach A × InReach placed_reach B

pub both_placed : {A B : Piece} → BothFit A B → BothNear A B → Placed A × Placed B
both_placed f n = (record { fits = f.0; near = n.0 }, record { fits = f.1; near = n.1 })

-- ---- the whole answer
not_either : {P Q : Type 0} → P × Q → (P → ⊥) ⊎ (Q → ⊥) → ⊥
not_either h (inl f) = f h.0
not_either h (inr f) = f h.1

-- of a gap that is not negative: it is near the widest, or it does not fit
pub gap_below : {gap : ℤ} → gap <ℤ pos 0 → GapFits gap → ⊥
gap_below {gap} h f = clash_ℤ h (subst (λ z. pos 0 ≤ℤ z) (sym f.natural) (nn_pos (nat_abs gap)))

pub gap_decided : {b : Bool} {gap : ℤ} → pos 0 ≤ℤ gap → Decides b (Within gap_most gap) → Decides b (GapFits gap)
gap_decided h d = record { yes = λ t. record { natural = nat_of h; below = let k = (d.yes t).abs in omega arith }; no = λ f g. d.no f (record { abs = let k = g.below in omega arith }) }

-- an answer with a verdict is not refused
pub not_refused : (v : Verdict) → (answer_with v).number ≡ done
not_refused (Separate d) = refl
not_refused (Touching d p) = refl
not_refused (Penetrating p) = refl

module _ {gap : ℤ} {A B : Piece} where
  -- a refused answer: its number, and every other value zero
  refused_by : (n : ℕ) → (n ≡ done → ⊥) → Lowest (refusals gap A B) n → Answers gap A B (nothing n)
  refused_by n f h = record { refusal = h; zeros = λ _. refl; carries = λ z. absurd (f z) }

  pub answered_long : BadLength A B → Answers gap A B (nothing list_length)
  answered_long f = refused_by list_length (λ z. omega arith) (inl (f, refl))

  pub answered_far : BothFit A B → OutOfReach A B → Answers gap A B (nothing placed_range)
  answered_far f n = refused_by placed_range (λ z. omega arith) (inr (not_either f, inl (n, refl)))

  pub answered_wide : BothFit A B → BothNear A B → (GapFits gap → ⊥) → Answers gap A B (nothing gap_refused)
  answered_wide f n w = refused_by gap_refused (λ z. omega arith) (inr (not_either f, inr (not_either n, inl (w, refl))))

  pub answered : {g : ℕ} {r : Answer} → BothFit A B → BothNear A B → GapFits gap → g ≡ nat_abs gap → (r.number ≡ done) × Carries g A B r → Answers gap A B r
  answered {r = r} f n w e c = record {
    refusal = inr (not_either f, inr (not_either n, inr (λ h. h w, c.0)));
    zeros = λ g. absurd (g c.0);
    carries = λ _. subst (λ k. Carries k A B r) e c.1;
  }

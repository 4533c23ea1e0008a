-- Laws of a walk's ends: what each round keeps, that the ends are as promised, and that whether they met is one.
-- The definitions stand in Ends.
use Rattle.std.specs.Prelude.{◌≡◌, refl, Some, None, Bool, true, false, T, pos, ◌≤ℤ◌, ◌<ℤ◌}
use Rattle.std.proofs.Common.{sym, ap, ap₂, ◌∙◌, subst}
use Rattle.ints.specs.Bounds.{within}
use Rattle.ints.proofs.Known.{known}
use Rattle.ints.specs.Sign.{Under, lex}
use Rattle.space.specs.declared.Vec3.{Vec3}
use Rattle.space.specs.Vectors.{dot, cross, plus, normal}
use Rattle.space.specs.Ranges.{Upto, point_reach, edge_reach, cross_reach, normal_reach}
use Rattle.space.specs.Verdicts.{Piece}
use Rattle.verdict_portal.specs.declared.Three.{Three}
use Rattle.verdict_portal.specs.declared.Slot.{Slot}
use Rattle.verdict_portal.specs.declared.Slot.TheVariants.{First, Second, Third}
use Rattle.verdict_portal.specs.Sizes.{big_k, front_under}
use Rattle.verdict_portal.specs.Exits.{not_behind, x1}
use Rattle.verdict_portal.specs.Rounds.{Ready, Edges, RoundSays}
use Rattle.verdict_walk.specs.declared.support.Difference.{Difference}
use Rattle.verdict_walk.specs.declared.path.Ended.{Ended}
use Rattle.verdict_walk.specs.Points.{Tagged, Supports}
use Rattle.verdict_walk.specs.PointLaws.{spread_of, spread_upto}
use Rattle.verdict_walk.specs.Ends.{places_of, Ground, Begun, Walked, replaced, Corners, WalksOn}

-- by which of its two ends a walk ends is one; where it ends may vary
clash : {A B : Piece} {g q : Vec3} {f : Three Vec3} {r s : Ended} → Walked A B g q f r → Walked A B g q f s → r.met ≡ true → s.met ≡ false → ⊥
clash {s = s} v w t u = not_behind s.normal (spread_of v.last) (spread_of v.begun.ofa) (spread_of v.begun.ofb) (spread_of v.begun.ofc) (v.met t) (w.apart u)

pub walked_once : {A B : Piece} {g q : Vec3} {f : Three Vec3} {r s : Ended} → Walked A B g q f r → Walked A B g q f s → r.met ≡ s.met
walked_once {A} {B} {g} {q} {f} {r} {s} v w = go r.met s.met refl refl
  where
    go : (a b : Bool) → r.met ≡ a → s.met ≡ b → r.met ≡ s.met
    go true true t u = t ∙ sym u
    go true false t u = absurd (clash v w t u)
    go false true t u = absurd (clash w v u t)
    go false false t u = t ∙ sym u

pub corners : {A B : Piece} {g q : Vec3} {f v : Three Vec3} {t : Three Difference} → v ≡ places_of t → Begun A B g q f t → Corners v
corners e b = subst Corners (sym e) (record { ina = b.held.ina; inb = b.held.inb; inc = b.held.inc })

pub point_upto : {A B : Piece} {g : Vec3} {p : Difference} → Ground A B g → Tagged A B g p → Upto point_reach p.at
point_upto k t = spread_upto k.first k.second k.box (spread_of t)

-- ---- the edges and the normal, from their parts
edge_upto : {a b : Vec3} → Upto point_reach a → Upto point_reach b → Upto edge_reach (cross a b)
edge_upto u v = record { ux = within (search known depth 9) tt; uy = within (search known depth 9) tt; uz = within (search known depth 9) tt }

edge_made : {a b x : Vec3} → Upto point_reach a → Upto point_reach b → x ≡ cross a b → (x ≡ cross a b) × Upto edge_reach x
edge_made u v e = (e, subst (Upto edge_reach) (sym e) (edge_upto u v))

pub edges_made : {t : Three Vec3} {x y z : Vec3} → Corners t → x ≡ cross t.b t.c → y ≡ cross t.c t.a → z ≡ cross t.a t.b → Edges t (record { a = x; b = y; c = z })
edges_made k ex ey ez = record { one = edge_made k.inb k.inc ex; two = edge_made k.inc k.ina ey; last = edge_made k.ina k.inb ez }

pub half_upto : {x y z : Vec3} → Upto edge_reach x → Upto edge_reach y → z ≡ plus x y → Upto cross_reach z
half_upto {x} {y} u v e = subst (Upto cross_reach) (sym e) (go x y u v)
  where
    go : (x y : Vec3) → Upto edge_reach x → Upto edge_reach y → Upto cross_reach (plus x y)
    go x y u v = record { ux = within (search known depth 9) tt; uy = within (search known depth 9) tt; uz = within (search known depth 9) tt }

pub whole_upto : {x y z h n : Vec3} → Upto edge_reach x → Upto edge_reach y → Upto edge_reach z → h ≡ plus x y → n ≡ plus h z → (n ≡ plus (plus x y) z) × Upto normal_reach n
whole_upto {x} {y} {z} {n} u v w eh en = (is, subst (Upto normal_reach) (sym is) (go x y z u v w))
  where
    is : n ≡ plus (plus x y) z
    is = en ∙ ap (λ h. plus h z) eh

    go : (x y z : Vec3) → Upto edge_reach x → Upto edge_reach y → Upto edge_reach z → Upto normal_reach (plus (plus x y) z)
    go x y z u v w = record { ux = within (search known depth 9) tt; uy = within (search known depth 9) tt; uz = within (search known depth 9) tt }

-- ---- the ends
module _ {A B : Piece} {g q n : Vec3} {f v x : Three Vec3} {t : Three Difference} {p : Difference} (b : Begun A B g q f t) (ev : v ≡ places_of t) (ex : Edges v x)
    (en : (n ≡ plus (plus x.a x.b) x.c) × Upto normal_reach n) (s : Supports A B g n p) where
  normal_at : n ≡ normal t.a.at t.b.at t.c.at
  normal_at = en.0 ∙ ap₂ plus (ap₂ plus ex.one.0 ex.two.0) ex.last.0 ∙ ap (λ w. normal w.a w.b w.c) ev

  pub walked_apart : lex (dot n p.at) (dot n q) <ℤ pos 0 → Walked A B g q f (record { met = false; portal = t; normal = n; last = p })
  walked_apart h = record {
    begun = b;
    normal_is = normal_at;
    reach = en.1;
    last = s.tagged;
    apart = λ _. x1 q n (subst (λ m. Under big_k (dot m q)) (sym normal_at) (front_under b.setting.inq b.held.ina b.held.inb b.held.inc)) s.support h;
    met = λ e. absurd (subst T (sym e) tt);
  }

  pub ready : Ground A B g → pos 0 ≤ℤ lex (dot n p.at) (dot n q) → Ready q f v p.at
  ready k h = subst (λ w. Ready q f w p.at) (sym ev)
      (record { setting = b.setting; held = b.held; inp = point_upto k s.tagged; fore = subst (λ m. pos 0 ≤ℤ lex (dot m p.at) (dot m q)) normal_at h })

  pub walked_met : RoundSays q f v p.at None → Walked A B g q f (record { met = true; portal = t; normal = n; last = p })
  walked_met u = record {
    begun = b;
    normal_is = normal_at;
    reach = en.1;
    last = s.tagged;
    apart = λ k. absurd (subst T k tt);
    met = λ _. subst (λ w. RoundSays q f w p.at None) ev u;
  }

pub onward : {A B : Piece} {g q : Vec3} {f v : Three Vec3} {t u : Three Difference} {p : Difference} (r : Slot) → Begun A B g q f t → v ≡ places_of t → Tagged A B g p → RoundSays q f v p.at (Some r)
    → u ≡ replaced r t p → WalksOn A B g q f t u
onward {A} {B} {g} {q} {f} {t} {p} r b ev tp w e = subst (WalksOn A B g q f t) (sym e) (go r (subst (λ x. RoundSays q f x p.at (Some r)) ev w))
  where
    go : (r : Slot) → RoundSays q f (places_of t) p.at (Some r) → WalksOn A B g q f t (replaced r t p)
    go First m = record { begun = record { setting = b.setting; held = m.held; ofa = tp; ofb = b.ofb; ofc = b.ofc }; less = m.less }
    go Second m = record { begun = record { setting = b.setting; held = m.held; ofa = b.ofa; ofb = tp; ofc = b.ofc }; less = m.less }
    go Third m = record { begun = record { setting = b.setting; held = m.held; ofa = b.ofa; ofb = b.ofb; ofc = tp }; less = m.less }

-- What the functions of a round say, and the laws by which each says it.
-- A round ends in a meeting, or with p in one of the three slots, the portal held and the measure less.
use Rattle.std.specs.Prelude.{◌≡◌, refl, Option, Some, None, Bool, true, false, ◌⊎◌, ℕ, zero, suc, ◌≤◌, max, T, ℤ, pos, negsuc, ◌≤ℤ◌, ◌<ℤ◌}
use Rattle.std.proofs.Common.{sym, ap, ap₂, ◌∙◌, subst, inl, inr, ⊎_elim, le_trans, to_z, of_z}
use Rattle.std.proofs.Math.Nat.{le-max_left, le-max_right}
use Rattle.std.specs.Int.{w64}
use Rattle.std.proofs.Math.Facts.{sfits_lit}
use Rattle.std.specs.Int.Signed.{lt_z}
use Rattle.ints.specs.Bounds.{In, Known, Within, within, worth, fits, k_back, k-is, k_within, ◌&◌, and_l, and_r}
use Rattle.ints.proofs.Known.{known}
use Rattle.ints.specs.Order.{le-or-lt}
use Rattle.ints.specs.Sign.{lex}
use Rattle.ints.proofs.SignLaws.{lex_assoc, lex_zero, lex_other}
use Rattle.ints.proofs.Tests.{same_bits, lt_of_true, le_of_false}
use Rattle.space.specs.declared.Vec3.{Vec3}
use Rattle.space.specs.Vectors.{dot, cross, minus, plus}
use Rattle.space.specs.Ranges.{Upto, point_reach, edge_reach, cross_reach}
use Rattle.verdict_portal.specs.Shift.{side, side_low, front, tie}
use Rattle.verdict_portal.specs.Round.{Setting, PortalHeld, Moved, Met, AllNN, At, held_rot, front_rot, round_here, round_next, not-all}
use Rattle.verdict_portal.specs.declared.Three.{Three}
use Rattle.verdict_portal.specs.declared.Slot.{Slot}
use Rattle.verdict_portal.specs.declared.Slot.TheVariants.{First, Second, Third}

abbrev pub leading_of : Vec3 → Three Vec3 → ℤ
leading_of m f = lex (dot m f.a) (lex (dot m f.b) (dot m f.c))

abbrev pub rot : Three Vec3 → Three Vec3
rot t = record { a = t.b; b = t.c; c = t.a }

abbrev pub three : Vec3 → Vec3 → Vec3 → Three Vec3
three a b c = record { a = a; b = b; c = c }

abbrev pub both_of : Bool → Bool → Bool
both_of true n = n
both_of false n = false

-- whose round it is, by the edges that p is outside of
abbrev pub slot_of : Bool → Bool → Bool → Option Slot
slot_of true two true = Some Third
slot_of true two false = Some First
slot_of false true last = Some Second
slot_of false false true = Some Third
slot_of false false false = None

-- a portal's edges: the products of its corners two by two, each in the slot of the corner that it leaves out
pub record Edges (t x : Three Vec3) : Type 0 where
  pub one : (x.a ≡ cross t.b t.c) × Upto edge_reach x.a
  pub two : (x.b ≡ cross t.c t.a) × Upto edge_reach x.b
  pub last : (x.c ≡ cross t.a t.b) × Upto edge_reach x.c

-- all that a round is asked with
pub record Ready (q : Vec3) (f t : Three Vec3) (p : Vec3) : Type 0 where
  pub setting : Setting q f.a f.b f.c
  pub held : PortalHeld q f.a f.b f.c t.a t.b t.c
  pub inp : Upto point_reach p
  pub fore : pos 0 ≤ℤ front q p t.a t.b t.c

-- u follows t: it is held too, and its measure is less
abbrev pub RoundFollows : Vec3 → Three Vec3 → Three Vec3 → Three Vec3 → Type 0
RoundFollows q f t u = Moved q f.a f.b f.c t.a t.b t.c u.a u.b u.c

-- it is the first slot's round
pub record Here (q : Vec3) (t : Three Vec3) (p : Vec3) : Type 0 where
  pub at : At (side q p t.b t.c) (side q p t.a t.b)

-- p for the second corner, or for the first
pub record Beside (q : Vec3) (f t : Three Vec3) (p : Vec3) (r : Bool) : Type 0 where
  pub second : r ≡ true → RoundFollows q f t (three t.a p t.c)
  pub here : r ≡ false → RoundFollows q f t (three p t.b t.c)

-- whose round it is
abbrev pub Choice : Vec3 → Three Vec3 → Vec3 → Option Slot → Type 0
Choice q t p None = AllNN (side q p t.b t.c) (side q p t.c t.a) (side q p t.a t.b)
Choice q t p (Some First) = Here q t p
Choice q t p (Some Second) = Here q (rot t) p
Choice q t p (Some Third) = Here q (rot (rot t)) p

-- p for the corner in a slot
abbrev pub put_in : Slot → Three Vec3 → Vec3 → Three Vec3
put_in First t p = three p t.b t.c
put_in Second t p = three t.a p t.c
put_in Third t p = three t.a t.b p

-- what one round says
abbrev pub RoundSays : Vec3 → Three Vec3 → Three Vec3 → Vec3 → Option Slot → Type 0
RoundSays q f t p None = Met q p t.a t.b t.c
RoundSays q f t p (Some s) = RoundFollows q f t (put_in s t p)

-- ---- rotation
pub ready_rot : {q : Vec3} {f t : Three Vec3} {p : Vec3} → Ready q f t p → Ready q f (rot t) p
ready_rot {q} {t} {p} r = record { setting = r.setting; held = held_rot r.held; inp = r.inp; fore = subst (λ z. pos 0 ≤ℤ z) (sym (front_rot q p t.a t.b t.c)) r.fore }

-- where the first and the third edge have p outside, the second does not
not-second : {q : Vec3} {f t : Three Vec3} {p : Vec3} → Ready q f t p → side q p t.b t.c <ℤ pos 0 → side q p t.a t.b <ℤ pos 0 → pos 0 ≤ℤ side q p t.c t.a
not-second {q} {t} {p} r u w = ⊎_elim (λ h. h) (λ h. absurd (not-all r.setting r.held r.inp r.fore u h w)) (le-or-lt (pos 0) (side q p t.c t.a))

-- ---- the first slot's round
beside_here : {q : Vec3} {f t : Three Vec3} {p : Vec3} {r : Bool} → r ≡ false → Ready q f t p → Here q t p
    → (pos 0 ≤ℤ side q p t.c t.a) ⊎ (pos 0 ≤ℤ tie q p t.c f.a f.b f.c) → Beside q f t p r
beside_here e r s d = record { second = λ k. absurd (subst T (sym k ∙ e) tt); here = λ _. round_here r.setting r.held r.inp r.fore s.at.here s.at.back d }

beside_second : {q : Vec3} {f t : Three Vec3} {p : Vec3} {r : Bool} → r ≡ true → Ready q f t p → Here q t p → side q p t.c t.a <ℤ pos 0 → tie q p t.c f.a f.b f.c <ℤ pos 0
    → Beside q f t p r
beside_second e r s d k = record { second = λ _. round_next r.setting r.held r.inp r.fore d s.at.back k; here = λ u. absurd (subst T (sym e ∙ u) tt) }

-- what a test of a sign says
pub said : {r : Bool} {a : ℤ} → r ≡ lt_z a (pos 0) → r ≡ true → a <ℤ pos 0
said e t = lt_of_true (sym e ∙ t)

pub unsaid : {r : Bool} {a : ℤ} → r ≡ lt_z a (pos 0) → r ≡ false → pos 0 ≤ℤ a
unsaid e t = le_of_false (sym e ∙ t)

-- the tie's answer is the round's, where the neighbouring edge has p outside
beside_tied : {q : Vec3} {f t : Three Vec3} {p : Vec3} (r : Bool) → r ≡ lt_z (tie q p t.c f.a f.b f.c) (pos 0) → Ready q f t p → Here q t p → side q p t.c t.a <ℤ pos 0
    → Beside q f t p r
beside_tied true e r s d = beside_second refl r s d (said e refl)
beside_tied false e r s d = beside_here refl r s (inr (unsaid e refl))

-- whose round, by the three edges' signs
pub choice_of : {q : Vec3} {f t : Three Vec3} {p : Vec3} (u v w : Bool) → u ≡ lt_z (side q p t.b t.c) (pos 0) → v ≡ lt_z (side q p t.c t.a) (pos 0)
    → w ≡ lt_z (side q p t.a t.b) (pos 0) → Ready q f t p → Choice q t p (slot_of u v w)
choice_of true v true eu ev ew r = record { at = record { here = said ew refl; back = not-second r (said eu refl) (said ew refl) } }
choice_of true v false eu ev ew r = record { at = record { here = said eu refl; back = unsaid ew refl } }
choice_of false true w eu ev ew r = record { at = record { here = said ev refl; back = unsaid eu refl } }
choice_of false false true eu ev ew r = record { at = record { here = said ew refl; back = unsaid ev refl } }
choice_of false false false eu ev ew r = record { n1 = unsaid eu refl; n2 = unsaid ev refl; n3 = unsaid ew refl }

-- the first slot's round, by the next edge's sign and the tie's
pub beside_of : {q : Vec3} {f t : Three Vec3} {p : Vec3} {r : Bool} (n : Bool) → n ≡ lt_z (side q p t.c t.a) (pos 0) → r ≡ both_of n (lt_z (tie q p t.c f.a f.b f.c) (pos 0)) → Ready q f t p
    → Here q t p → Beside q f t p r
beside_of {r} true e k s h = beside_tied r k s h (said e refl)
beside_of false e k s h = beside_here k s h (inl (unsaid e refl))

-- ---- what is made of the parts, in the order of the code
pub side_level : (q p b c : Vec3) {x v e s : Vec3} → x ≡ cross b c → v ≡ minus b c → e ≡ cross p v → s ≡ plus x e → dot x p ≡ pos 0 → dot s q ≡ side q p b c
side_level q p b c hx hv he hs z = ap (λ w. dot w q) (hs ∙ ap₂ plus hx (he ∙ ap (cross p) hv)) ∙ sym (lex_zero (side_low q p b c) (sym (ap (λ w. dot w p) hx) ∙ z))

pub side_clear : (q p b c : Vec3) {x : Vec3} → x ≡ cross b c → (dot x p ≡ pos 0 → ⊥) → dot x p ≡ side q p b c
side_clear q p b c hx f = ap (λ w. dot w p) hx ∙ sym (lex_other (side_low q p b c) (λ z. f (ap (λ w. dot w p) hx ∙ z)))

tied_is : (q p r : Vec3) (f : Three Vec3) → lex (leading_of (cross p r) f) (leading_of (cross (minus p r) q) f) ≡ tie q p r f.a f.b f.c
tied_is q p r f = lex_assoc (dot m f.a) (lex (dot m f.b) (dot m f.c)) w ∙ ap (lex (dot m f.a)) (lex_assoc (dot m f.b) (dot m f.c) w)
  where
    m : Vec3
    m = cross p r

    w : ℤ
    w = leading_of (cross (minus p r) q) f

pub tied_level : (q p r : Vec3) (f : Three Vec3) {m v n : Vec3} → m ≡ cross p r → v ≡ minus p r → n ≡ cross v q → leading_of m f ≡ pos 0 → leading_of n f ≡ tie q p r f.a f.b f.c
tied_level q p r f hm hv hn z =
    ap (λ n. leading_of n f) (hn ∙ ap (λ v. cross v q) hv) ∙ sym (lex_zero (leading_of (cross (minus p r) q) f) (sym (ap (λ m. leading_of m f) hm) ∙ z)) ∙ tied_is q p r f

pub tied_clear : (q p r : Vec3) (f : Three Vec3) {m : Vec3} → m ≡ cross p r → (leading_of m f ≡ pos 0 → ⊥) → leading_of m f ≡ tie q p r f.a f.b f.c
tied_clear q p r f hm g = ap (λ m. leading_of m f) hm ∙ sym (lex_other (leading_of (cross (minus p r) q) f) (λ z. g (ap (λ m. leading_of m f) hm ∙ z))) ∙ tied_is q p r f

-- ---- what is known of lex, where both are known
in_wider : (z : ℤ) (l h m n : ℕ) → In l h z → l ≤ m → h ≤ n → In m n z
in_wider (pos a) l h m n p u v = le_trans p v
in_wider (negsuc a) l h m n p u v = le_trans p u

pub in_lex : (u v : ℤ) (l h m n : ℕ) → In l h u → In m n v → In (max l m) (max h n) (lex u v)
unfolding lex
in_lex (pos zero) v l h m n p q = in_wider v m n (max l m) (max h n) q (le-max_right l m) (le-max_right h n)
in_lex (pos (suc k)) v l h m n p q = in_wider (pos (suc k)) l h (max l m) (max h n) p (le-max_left l m) (le-max_left h n)
in_lex (negsuc k) v l h m n p q = in_wider (negsuc k) l h (max l m) (max h n) p (le-max_left l m) (le-max_left h n)

abbrev pub k_lex : (a b : ℤ) → Known a → Known b → Known (lex a b)
k_lex a b p q = record {
  value = lex p.value q.value;
  lo = max p.lo q.lo;
  hi = max p.hi q.hi;
  ok = p.ok & q.ok;
  is = λ t. ap₂ lex (p.is (and_l p.ok q.ok t)) (q.is (and_r p.ok q.ok t));
  within = λ t. in_lex p.value q.value p.lo p.hi q.lo q.hi (p.within (and_l p.ok q.ok t)) (q.within (and_r p.ok q.ok t));
}

-- 36H³: what a dot with a point is within, and so a leading one
pub dot_within : {m p : Vec3} → Upto cross_reach m → Upto point_reach p → Within 679395106750464000 (dot m p)
dot_within um up = within (search known depth 15) tt

pub leading_within : {m : Vec3} {f : Three Vec3} → Upto cross_reach m → Upto point_reach f.a → Upto point_reach f.b → Upto point_reach f.c → Within 679395106750464000 (leading_of m f)
leading_within um u1 u2 u3 = within (search (known, k_lex) depth 25) tt

-- ---- a number that is tested for 0 by its bits
pub zero_bits : {z : ℤ} → Within 679395106750464000 z → of_z w64 z ≡ 0 → z ≡ pos 0
zero_bits w e = same_bits {w = w64} (fits (k_within w) tt) (sfits_lit tt) e

-- and as the code holds it
pub zero_made : {r z : ℤ} → r ≡ z → Within 679395106750464000 z → of_z w64 r ≡ 0 → z ≡ pos 0
zero_made k w e = zero_bits w (ap (of_z w64) (sym k) ∙ e)

pub other_made : {r z : ℤ} → r ≡ z → (of_z w64 r ≡ 0 → ⊥) → z ≡ pos 0 → ⊥
other_made k f e = f (ap (of_z w64) (k ∙ e))

pub sign_made : {r z : ℤ} → r ≡ z → Within 679395106750464000 z → to_z w64 (of_z w64 r) ≡ z
sign_made k w = worth (k_back w64 _ (k-is k (k_within w))) tt

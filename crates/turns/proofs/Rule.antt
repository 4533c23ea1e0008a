-- The table's rule, stated once: every turn is a rotation, and no two are equal. Each is one test over all entries, which is computed.
-- Turn 21 is document 01's example.
use Rattle.std.specs.Prelude.{◌≡◌, refl, Bool, true, false, ◌&&◌, ◌||◌, not, ℕ, ◌<◌, T, eqb, ℤ, pos, negsuc, neg_ℤ}
use Rattle.std.proofs.Common.{ap, subst, eqb→eq}
use Rattle.std.proofs.Math.Dec.{eqb_refl}
use Rattle.limits.specs.Limits
use Rattle.turns.specs.declared.Turn.{Turn}
use Rattle.turns.specs.Turns.{turn_of, signed_axis, turned_at, is_permutation, determinant, Rotation}
use Rattle.turns.specs.Table.{below, number, and_left, and_right}

-- tests for equality
abbrev pub same : ℤ → ℤ → Bool
same (pos a) (pos b) = eqb a b
same (pos a) (negsuc b) = false
same (negsuc a) (pos b) = false
same (negsuc a) (negsuc b) = eqb a b

same→eq : (a b : ℤ) → T (same a b) → a ≡ b
same→eq (pos a) (pos b) t = ap pos (eqb→eq a b t)
same→eq (pos a) (negsuc b) t = absurd t
same→eq (negsuc a) (pos b) t = absurd t
same→eq (negsuc a) (negsuc b) t = ap negsuc (eqb→eq a b t)

same_refl : (a : ℤ) → T (same a a)
same_refl (pos a) = eqb_refl a
same_refl (negsuc a) = eqb_refl a

abbrev pub equal : Turn → Turn → Bool
equal a b = same a.x b.x && same a.y b.y && same a.z b.z

pub equal→eq : (a b : Turn) → T (equal a b) → a ≡ b
equal→eq a b t =
    let xy = and_left (same a.x b.x && same a.y b.y) (same a.z b.z) t in
    let p = same→eq a.x b.x (and_left (same a.x b.x) (same a.y b.y) xy) in
    let q = same→eq a.y b.y (and_right (same a.x b.x) (same a.y b.y) xy) in
    let r = same→eq a.z b.z (and_right (same a.x b.x && same a.y b.y) (same a.z b.z) t) in
    λ i. record { x = p i; y = q i; z = r i }

equal_refl : (a : Turn) → T (equal a a)
equal_refl a = both (same a.x a.x && same a.y a.y) (same a.z a.z) (both (same a.x a.x) (same a.y a.y) (same_refl a.x) (same_refl a.y)) (same_refl a.z)
  where
    both : (a b : Bool) → T a → T b → T (a && b)
    both true b s t = t
    both false b s t = s

-- "every turn is a rotation"
T→true : (b : Bool) → T b → b ≡ true
T→true true t = refl
T→true false t = absurd t

abbrev rotates : ℕ → Bool
rotates turn = is_permutation (turn_of turn) && same (determinant (turn_of turn)) (pos 1)

all_rotate : T (below rotates Limits.turns)
unfolding turn_of
all_rotate = tt

pub every_turn : (turn : ℕ) → turn < Limits.turns → Rotation (turn_of turn)
every_turn turn h =
    let t = number rotates Limits.turns all_rotate turn h in
    record {
      permutes = T→true (is_permutation (turn_of turn)) (and_left (is_permutation (turn_of turn)) (same (determinant (turn_of turn)) (pos 1)) t);
      keeps_hand = same→eq (determinant (turn_of turn)) (pos 1) (and_right (is_permutation (turn_of turn)) (same (determinant (turn_of turn)) (pos 1)) t);
    }

-- "no two are equal"
abbrev apart : ℕ → ℕ → Bool
apart t u = eqb t u || not (equal (turn_of t) (turn_of u))

all_apart : T (below (λ t. below (apart t) Limits.turns) Limits.turns)
unfolding turn_of
all_apart = tt

pub no_two : (t u : ℕ) → t < Limits.turns → u < Limits.turns → turn_of t ≡ turn_of u → t ≡ u
no_two t u h g e =
    let a = number (apart t) Limits.turns (number (λ t. below (apart t) Limits.turns) Limits.turns all_apart t h) u g in
    eqb→eq t u (either (eqb t u) (equal (turn_of t) (turn_of u)) a (subst (λ (m : Turn). T (equal (turn_of t) m)) e (equal_refl (turn_of t))))
  where
    either : (a b : Bool) → T (a || not b) → T b → T a
    either true b t e = tt
    either false true t e = absurd t
    either false false t e = absurd e

-- ""yxz with −++" (turn 21) sends (x, y, z) to (−y, x, z)."
pub turn-21 : (x y z : ℤ) → (turned_at 21 0 x y z ≡ neg_ℤ y) × (turned_at 21 1 x y z ≡ x) × (turned_at 21 2 x y z ≡ z)
unfolding turned_at signed_axis turn_of
turn-21 x y z = (refl, refl, refl)

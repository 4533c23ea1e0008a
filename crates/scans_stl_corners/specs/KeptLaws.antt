-- What is kept: no two are alike, and the same corners are among those kept as among those of the file. In what order: a corner that comes last is kept
-- behind the others where it has not appeared, and changes nothing where it has; that says of every list what its first appearances are.
use Rattle.std.specs.Prelude.{◌≡◌, refl, Bool, true, false, ◌&&◌, ◌||◌, cond, List, [], ◌∷◌, ◌++◌, T, ℤ, pos, negsuc}
use Rattle.std.proofs.Common.{sym, ap, ◌∙◌, subst, eqb-true, eq-eqb}
use Rattle.scans_stl.specs.Stl.{Corner}
use Rattle.scans_stl_corners.specs.Kept.{equal_numbers, same_corner, among, keep_one, keep_all, first_appearances, Distinct}

-- ---- the test for the same corner
pub equal_is : (y z : ℤ) → equal_numbers y z ≡ true → y ≡ z
equal_is (pos m) (pos n) e = ap pos (eqb-true m n e)
equal_is (pos m) (negsuc n) e = absurd (subst T (sym e) tt)
equal_is (negsuc m) (pos n) e = absurd (subst T (sym e) tt)
equal_is (negsuc m) (negsuc n) e = ap negsuc (eqb-true m n e)

pub equal_self : (z : ℤ) → equal_numbers z z ≡ true
equal_self (pos n) = eq-eqb n n refl
equal_self (negsuc n) = eq-eqb n n refl

and_left : (a b : Bool) → a && b ≡ true → a ≡ true
and_left true b e = refl
and_left false b e = e

and_right : (a b : Bool) → a && b ≡ true → b ≡ true
and_right true b e = e
and_right false b e = absurd (subst T (sym e) tt)

pub same_is : (a b : Corner) → same_corner a b ≡ true → a ≡ b
same_is a b e =
    let r = and_right (equal_numbers a.x b.x) (equal_numbers a.y b.y && equal_numbers a.z b.z) e in
    let p = equal_is a.x b.x (and_left (equal_numbers a.x b.x) (equal_numbers a.y b.y && equal_numbers a.z b.z) e) in
    let q = equal_is a.y b.y (and_left (equal_numbers a.y b.y) (equal_numbers a.z b.z) r) in
    let s = equal_is a.z b.z (and_right (equal_numbers a.y b.y) (equal_numbers a.z b.z) r) in
    λ i. record { x = p i; y = q i; z = s i }

pub same_self : (a : Corner) → same_corner a a ≡ true
same_self a = rw (equal_self a.x, equal_self a.y, equal_self a.z)

other : (a b : Corner) → same_corner a b ≡ false → same_corner b a ≡ false
other a b e = by (same_corner b a) refl
  where
    by : (t : Bool) → same_corner b a ≡ t → same_corner b a ≡ false
    by true q = absurd (subst T (sym (same_self b) ∙ ap (λ (c : Corner). same_corner c b) (same_is b a q) ∙ e) tt)
    by false q = q

-- ---- among a list and one more
or_assoc : (a b c : Bool) → a || (b || c) ≡ (a || b) || c
or_assoc true b c = refl
or_assoc false b c = refl

or-none : (a : Bool) → a ≡ a || false
or-none true = refl
or-none false = refl

pub among_last : (c d : Corner) (l : List Corner) → among c (l ++ d ∷ []) ≡ among c l || same_corner d c
among_last c d [] = sym (or-none (same_corner d c))
among_last c d (e ∷ l) = ap (λ (t : Bool). same_corner e c || t) (among_last c d l) ∙ or_assoc (same_corner e c) (among c l) (same_corner d c)

-- a corner that is among them already adds none
had : (c d : Corner) (l : List Corner) → among d l ≡ true → among c l ≡ among c l || same_corner d c
had c d l e = by (same_corner d c) refl
  where
    by : (t : Bool) → same_corner d c ≡ t → among c l ≡ among c l || t
    by true q = ap (λ (d : Corner). among d l) (sym (same_is d c q)) ∙ e ∙ sym (or-true (among c l))
      where
        or-true : (a : Bool) → a || true ≡ true
        or-true true = refl
        or-true false = refl
    by false q = or-none (among c l)

pub among_one : (c : Corner) (l : List Corner) (d : Corner) → among c (keep_one l d) ≡ among c l || same_corner d c
among_one c l d = by (among d l) refl
  where
    by : (t : Bool) → among d l ≡ t → among c (cond t l (l ++ d ∷ [])) ≡ among c l || same_corner d c
    by true e = had c d l e
    by false e = among_last c d l

pub among_all : (c : Corner) (l m : List Corner) → among c (keep_all l m) ≡ among c l || among c m
among_all c l [] = or-none (among c l)
among_all c l (d ∷ m) =
    among_all c (keep_one l d) m ∙ ap (λ (t : Bool). t || among c m) (among_one c l d) ∙ sym (or_assoc (among c l) (same_corner d c) (among c m))

-- each that is kept is a corner of the list, and each corner of the list is kept
pub first_among : (c : Corner) (l : List Corner) → among c (first_appearances l) ≡ among c l
first_among c l = among_all c [] l

-- ---- no two alike
distinct_last : (l : List Corner) (d : Corner) → Distinct l → among d l ≡ false → Distinct (l ++ d ∷ [])
distinct_last [] d h e = (refl, tt)
distinct_last (c ∷ l) d h e = (
  among_last c d l ∙ ap (λ (t : Bool). t || same_corner d c) h.0 ∙ other c d (left (same_corner c d) (among d l) e),
  distinct_last l d h.1 (right (same_corner c d) (among d l) e),
)
  where
    left : (a b : Bool) → a || b ≡ false → a ≡ false
    left true b e = e
    left false b e = refl

    right : (a b : Bool) → a || b ≡ false → b ≡ false
    right true b e = absurd (subst T e tt)
    right false b e = e

distinct_one : (l : List Corner) (d : Corner) → Distinct l → Distinct (keep_one l d)
distinct_one l d h = by (among d l) refl
  where
    by : (t : Bool) → among d l ≡ t → Distinct (cond t l (l ++ d ∷ []))
    by true e = h
    by false e = distinct_last l d h e

distinct_all : (l m : List Corner) → Distinct l → Distinct (keep_all l m)
distinct_all l [] h = h
distinct_all l (d ∷ m) h = distinct_all (keep_one l d) m (distinct_one l d h)

pub first_distinct : (l : List Corner) → Distinct (first_appearances l)
first_distinct l = distinct_all [] l tt

-- ---- in order of first appearance
pub keep_append : (l m n : List Corner) → keep_all l (m ++ n) ≡ keep_all (keep_all l m) n
keep_append l [] n = refl
keep_append l (c ∷ m) n = keep_append (keep_one l c) m n

-- the last corner has appeared before: nothing changes
pub first_again : (l : List Corner) (c : Corner) → among c l ≡ true → first_appearances (l ++ c ∷ []) ≡ first_appearances l
first_again l c e = keep_append [] l (c ∷ []) ∙ ap (λ (t : Bool). cond t (first_appearances l) (first_appearances l ++ c ∷ [])) (first_among c l ∙ e)

-- it has not: it is kept behind the others
pub first_new : (l : List Corner) (c : Corner) → among c l ≡ false → first_appearances (l ++ c ∷ []) ≡ first_appearances l ++ c ∷ []
first_new l c e = keep_append [] l (c ∷ []) ∙ ap (λ (t : Bool). cond t (first_appearances l) (first_appearances l ++ c ∷ [])) (first_among c l ∙ e)

-- Laws of what is written: P is written as the request says, a line more, and how long lines may be.
-- The definitions stand in Written.
use Rattle.std.specs.Prelude.{ℕ, zero, suc, ◌≤◌, ◌+◌, ◌*◌, ◌/◌, ◌≡◌, refl, List, [], ◌∷◌, ◌++◌, ℤ, pos, length, get_or, take}
use Rattle.std.proofs.Common.{sym, ap, ◌∙◌, subst, append-nil, append_assoc, arith, length-append, to_z, of_z}
use Rattle.std.specs.Int.{w32}
use Rattle.ints.specs.Bounds.{Within, k_within, k_back, worth}
use Rattle.limits.specs.Limits
use Rattle.text_put.specs.Print.{Extends, digits_of}
use Rattle.text_put.specs.PrintLaws.{digits_most, extends_then}
use Rattle.off_number.specs.Shortest.{part_of, decimal_of}
use Rattle.off_number.proofs.ShortestLaws.{decimal_most}
use Rattle.off_write.specs.Written.{head_of, ended, line_of, lines_of, off_text}

-- "P is the lines "OFF", "1 0 0", "0 0 0"": the shape of one corner at the origin
pub point_is : off_text (pos 0 ∷ pos 0 ∷ pos 0 ∷ []) ≡ 79 ∷ 70 ∷ 70 ∷ 10 ∷ 49 ∷ 32 ∷ 48 ∷ 32 ∷ 48 ∷ 10 ∷ 48 ∷ 32 ∷ 48 ∷ 32 ∷ 48 ∷ 10 ∷ []
unfolding digits_of part_of
point_is = refl

-- ---- a line more
pub lines_more : (k : ℕ) (numbers : List ℤ) → 3 * k + 3 ≤ length numbers
    → lines_of (take (3 * k + 3) numbers) ≡ lines_of (take (3 * k) numbers) ++ line_of (get_or numbers (3 * k) (pos 0)) (get_or numbers (3 * k + 1) (pos 0)) (get_or numbers (3 * k + 2) (pos 0))
lines_more k [] h = absurd (omega arith)
lines_more k (x ∷ []) h = absurd (omega arith)
lines_more k (x ∷ y ∷ []) h = absurd (omega arith)
lines_more zero (x ∷ y ∷ z ∷ numbers) h = append-nil (line_of x y z)
lines_more (suc k) (x ∷ y ∷ z ∷ numbers) h =
    let a : 3 * suc k ≡ suc (suc (suc (3 * k))) = omega arith in
    let b : 3 * suc k + 3 ≡ suc (suc (suc (3 * k + 3))) = omega arith in
    let c : 3 * suc k + 1 ≡ suc (suc (suc (3 * k + 1))) = omega arith in
    let d : 3 * suc k + 2 ≡ suc (suc (suc (3 * k + 2))) = omega arith in
    rw (b, d, c, a)
    (ap (λ (l : List ℕ). line_of x y z ++ l) (lines_more k numbers (omega arith))
    ∙ sym (append_assoc (line_of x y z) (lines_of (take (3 * k) numbers)) (line_of (get_or numbers (3 * k) (pos 0)) (get_or numbers (3 * k + 1) (pos 0)) (get_or numbers (3 * k + 2) (pos 0)))))

lines_next : (numbers : List ℤ) (i : ℕ) → 3 * (i / 3) ≡ i → i + 3 ≤ length numbers
    → lines_of (take i numbers) ++ line_of (get_or numbers i (pos 0)) (get_or numbers (i + 1) (pos 0)) (get_or numbers (i + 2) (pos 0)) ≡ lines_of (take (i + 3) numbers)
lines_next numbers i e h =
    subst
    (λ (j : ℕ). lines_of (take j numbers) ++ line_of (get_or numbers j (pos 0)) (get_or numbers (j + 1) (pos 0)) (get_or numbers (j + 2) (pos 0)) ≡ lines_of (take (j + 3) numbers))
    e (sym (lines_more (i / 3) numbers (omega arith)))

-- a line put behind those of the corners before it; its numbers are those that were handed on
pub line_grows : (numbers : List ℤ) (i : ℕ) {x y z : ℤ} {room : List ℕ} {from : ℕ} {mid : List ℕ} {at : ℕ} {exit : List ℕ} {r : ℕ} → 3 * (i / 3) ≡ i → i + 3 ≤ length numbers
    → x ≡ get_or numbers i (pos 0) → y ≡ get_or numbers (i + 1) (pos 0) → z ≡ get_or numbers (i + 2) (pos 0) → Extends room from (lines_of (take i numbers)) mid at → Extends mid at (line_of x y z) exit r
    → Extends room from (lines_of (take (i + 3) numbers)) exit r
line_grows numbers i {room = room} {from} {mid} {at} {exit} {r} e h ex ey ez a b =
    subst (λ (l : List ℕ). Extends room from l exit r) (lines_next numbers i e h) (extends_then a (rw (ex, ey, ez) at b))

-- ---- how long
pub ended_most : (z : ℤ) (byte : ℕ) → Within Limits.shape_reach z → length (ended z byte) ≤ 13
ended_most z byte h = omega (arith, length-append (decimal_of z) (byte ∷ []), decimal_most z h.abs)

pub head_most : (corners : ℕ) → corners ≤ Limits.corners → length (head_of corners) ≤ 11
head_most corners h = omega (arith, length-append (79 ∷ 70 ∷ 70 ∷ 10 ∷ digits_of corners) (32 ∷ 48 ∷ 32 ∷ 48 ∷ 10 ∷ []), digits_most 2 corners (omega arith) (omega arith))

pub line_most : (x y z : ℤ) → Within Limits.shape_reach x → Within Limits.shape_reach y → Within Limits.shape_reach z → length (line_of x y z) ≤ 39
line_most x y z a b c =
    omega (arith, length-append (ended x 32 ++ ended y 32) (ended z 10), length-append (ended x 32) (ended y 32), ended_most x 32 a, ended_most y 32 b, ended_most z 10 c)

-- a number in reach that is handed on is the same number
pub handed : (z : ℤ) → Within Limits.shape_reach z → to_z w32 (of_z w32 z) ≡ z
handed z h = worth (k_back w32 z (k_within h)) tt

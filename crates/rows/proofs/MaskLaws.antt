-- Laws of masks: the bits of a cell decide what it may hold, what is gathered is 0 exactly when each part is, and a line's mask is 0 where
-- its two places are a pair. So rows are in order exactly when nothing wrong was gathered.
use Rattle.std.specs.Prelude.{ℕ, ◌+◌, ◌-◌, ◌*◌, ◌/◌, ◌<◌, ◌≡◌, refl, List, Bool, true, false, eqb, ℤ, length, get_or, set}
use Rattle.std.proofs.Common.{sym, ap, ap₂, ◌∙◌, subst, inl, inr, mod-eq_of_lt, arith, length-set, get_or-set_same, get_or-set_other, below_more, eqb-true, eq-eqb, ne_eqb}
use Rattle.std.specs.Int.Bits.{bit_and, bit_or, bit_xor, or_add_and, xor_add_and, xor_zero_r}
use Rattle.std.proofs.lemmas.Nat.Bits.{and_high}
use Rattle.std.proofs.lemmas.Nat.{and_mask, and_le_l, and_le_r}
use Rattle.std.proofs.lemmas.Bool.{eqb-false}
use Rattle.ints.specs.Cases.{by-same, by_less}
use Rattle.limits.specs.Limits
use Rattle.limits.specs.Decides.{Decides}
use Rattle.limits.specs.DecidesLaws.{holds, fails}
use Rattle.pieces.specs.Taking.{by_taken}
use Rattle.rows.specs.Rows.{PairOf, RowsInOrder}
use Rattle.rows.specs.Cells.{CellInOrder, LineInOrder, every_line, each_line}
use Rattle.rows.proofs.Handling.{by_pair}
use Rattle.rows.specs.Masks.{MaskByte, MaskOf, MaskFrom, Masked, wrong_bits, LineMasked}

-- ---- bits
or-none : (a b : ℕ) → bit_or a b ≡ 0 → (a ≡ 0) × (b ≡ 0)
or-none a b e = let s = or_add_and a b in let l = and_le_l a b in let r = and_le_r a b in (omega arith, omega arith)

pub or_byte : {a b : ℕ} → MaskByte a → MaskByte b → MaskByte (bit_or a b)
or_byte (inl p) (inl q) = inl (ap₂ bit_or p q)
or_byte (inl p) (inr q) = inr (ap₂ bit_or p q)
or_byte (inr p) (inl q) = inr (ap₂ bit_or p q)
or_byte (inr p) (inr q) = inr (ap₂ bit_or p q)

-- the bits of a byte that no verdict has are none exactly where it is a verdict; those that it lacks of NO_ROW are the difference
verdict_bits : (v : ℕ) → v < 256 → bit_and v (Limits.no_row - Limits.penetrating) ≡ v / Limits.tallies * Limits.tallies
verdict_bits v h = let q : v / Limits.tallies < 64 = omega arith in and_high v 6 2 ∙ ap (λ (n : ℕ). n * Limits.tallies) (mod-eq_of_lt q)

missing_bits : (v : ℕ) → v < 256 → bit_and (bit_xor v Limits.no_row) Limits.no_row ≡ Limits.no_row - v
missing_bits v h =
    let x = xor_add_and v Limits.no_row in
    let m = and_mask v 8 in
    let n = and_mask (bit_xor v Limits.no_row) 8 in
    omega arith

-- ---- what is 0 exactly when a condition holds
by_zero : {C : Type 0} (n : ℕ) → (n ≡ 0 → C) → (C → n ≡ 0) → Decides (eqb n 0) C
by_zero {C} n f g = go (eqb n 0) refl
  where
    go : (b : Bool) → eqb n 0 ≡ b → Decides b C
    go true t = holds refl (f (eqb-true n 0 t))
    go false t = fails refl (λ o. eqb-false n 0 t (g o))

zero_yes : {C : Type 0} (n : ℕ) → Decides (eqb n 0) C → n ≡ 0 → C
zero_yes n d e = d.yes (eq-eqb n 0 e)

zero_no : {C : Type 0} (n : ℕ) → Decides (eqb n 0) C → C → n ≡ 0
zero_no n d o = by-same n 0 (λ e. e) (λ ne. absurd (d.no (ne_eqb n 0 ne) o))

-- the wrong bits of a cell decide what it may hold
pub cell_decided : (v m : ℕ) → v < 256 → MaskByte m → Decides (eqb (wrong_bits v m) 0) (Masked m v)
cell_decided v m h (inl z) =
    let e : wrong_bits v m ≡ v / Limits.tallies * Limits.tallies = ap (wrong_bits v) z ∙ ap (λ (x : ℕ). bit_and x (Limits.no_row - Limits.penetrating)) (xor_zero_r v) ∙ verdict_bits v h in
    by_zero (wrong_bits v m)
    (λ n. record { pair = λ _. omega arith; other = λ f. absurd (f z) })
    (λ o. let k = o.pair z in omega arith)
cell_decided v m h (inr z) =
    let e : wrong_bits v m ≡ Limits.no_row - v = ap (wrong_bits v) z ∙ missing_bits v h in
    by_zero (wrong_bits v m)
    (λ n. record { pair = λ y. absurd (omega arith); other = λ _. omega arith })
    (λ o. let k = o.other (λ y. omega arith) in omega arith)

-- ---- what was gathered is 0 exactly when nothing was wrong so far
pub gathered_none : (P : ℕ → Type 0) → Decides (eqb 0 0) ((i : ℕ) → i < 0 → P i)
gathered_none P = holds refl (λ i h. absurd (omega arith))

pub gathered_more : (P : ℕ → Type 0) (n a b : ℕ) → Decides (eqb a 0) ((i : ℕ) → i < n → P i) → Decides (eqb b 0) (P n)
    → Decides (eqb (bit_or a b) 0) ((i : ℕ) → i < n + 1 → P i)
gathered_more P n a b d e =
    by_zero (bit_or a b)
    (λ z. below_more P n (zero_yes a d (or-none a b z).0) (zero_yes b e (or-none a b z).1))
    (λ all. ap₂ bit_or (zero_no a d (λ i h. all i (omega arith))) (zero_no b e (all n (omega arith))))

-- ---- masks of places
byte_of : {places : List ℤ} {p m : ℕ} → p < Limits.places → MaskOf places p m → MaskByte m
byte_of {places} {p} h o = by_taken places p h (λ t. inl (o.taken t)) (λ f. inr (o.empty f))

pub mask_byte : {places : List ℤ} {n : ℕ} {mask : List ℕ} → MaskFrom places n mask → (i : ℕ) → i < Limits.places → MaskByte (get_or mask i 0)
mask_byte {places} {n} m i h = by_less i n (λ l. inr (m.passed i l)) (λ g. byte_of h (m.each i g h))

-- a mask made byte by byte
pub mask_made : {places : List ℤ} (mask : List ℕ) (n m : ℕ) → n < length mask → ((i : ℕ) → i < n → MaskOf places i (get_or mask i 0)) → MaskOf places n m
    → (i : ℕ) → i < n + 1 → MaskOf places i (get_or (set mask n m) i 0)
mask_made {places} mask n m h all o =
    below_more (λ i. MaskOf places i (get_or (set mask n m) i 0)) n
    (λ i k. subst (MaskOf places i) (sym (get_or-set_other mask n i m 0 (λ e. omega arith))) (all i k))
    (subst (MaskOf places n) (sym (get_or-set_same mask n m 0 h)) o)

-- the mask of a line: the line's own place is shut too
pub mask_more : {places : List ℤ} {n : ℕ} {mask : List ℕ} → n < Limits.places → MaskFrom places n mask → MaskFrom places (n + 1) (set mask n Limits.no_row)
mask_more {places} {n} {mask} h m =
    let s = m.size in
    record {
      size = length-set mask n Limits.no_row ∙ m.size;
      passed =
          below_more (λ i. get_or (set mask n Limits.no_row) i 0 ≡ Limits.no_row) n
          (λ i k. get_or-set_other mask n i Limits.no_row 0 (λ e. omega arith) ∙ m.passed i k)
          (get_or-set_same mask n Limits.no_row 0 (omega arith));
      each = λ i g k. subst (MaskOf places i) (sym (get_or-set_other mask n i Limits.no_row 0 (λ e. omega arith))) (m.each i (omega arith) k);
    }

-- ---- a line: a cell's two bytes are both 0 exactly where its places are a pair
module _ {places : List ℤ} {low : ℕ} {mask : List ℕ} (h : low < Limits.places) (m : MaskFrom places low mask) (high : ℕ) (k : high < Limits.places) where
  pair_open : PairOf places low high → bit_or (get_or (set mask low Limits.no_row) high 0) (get_or mask low 0) ≡ 0
  pair_open p = let r = p.rising in ap₂ bit_or (((mask_more h m).each high (omega arith) k).taken p.second) ((m.each low (omega arith) h).taken p.first)

  pair_shut : bit_or (get_or (set mask low Limits.no_row) high 0) (get_or mask low 0) ≡ 0 → (PairOf places low high → ⊥) → ⊥
  pair_shut e f =
      let z = or-none (get_or (set mask low Limits.no_row) high 0) (get_or mask low 0) e in
      let a = z.0 in
      let b = z.1 in
      by_less low high
      (λ lt.
      by_taken places low h
      (λ s.
      by_taken places high k
      (λ t. f (record { rising = lt; first = s; second = t }))
      (λ t. omega (arith, ((mask_more h m).each high (omega arith) k).empty t)))
      (λ s. omega (arith, (m.each low (omega arith) h).empty s)))
      (λ le. omega (arith, (mask_more h m).passed high (omega arith)))

  masked_cell : {v : ℕ} → Masked (bit_or (get_or (set mask low Limits.no_row) high 0) (get_or mask low 0)) v → CellInOrder places low high v
  masked_cell c = record { pair = λ p. c.pair (pair_open p); other = λ f. c.other (λ z. pair_shut z f) }

  cell_masked : {v : ℕ} → CellInOrder places low high v → Masked (bit_or (get_or (set mask low Limits.no_row) high 0) (get_or mask low 0)) v
  cell_masked c = record {
    pair = λ z. by_pair places low high h k (λ p. c.pair p) (λ f. absurd (pair_shut z f));
    other = λ g. c.other (λ p. g (pair_open p));
  }

-- ---- what was gathered of a line, and of all lines
pub line_decided : {places : List ℤ} {low : ℕ} {mask : List ℕ} (rows : List ℕ) (r : ℕ) → low < Limits.places → MaskFrom places low mask
    → Decides (eqb r 0) (LineMasked (set mask low Limits.no_row) (get_or mask low 0) low rows Limits.places) → Decides (eqb r 0) (LineInOrder places rows low)
line_decided rows r h m d = record {
  yes = λ t high k. masked_cell h m high k (d.yes t high k);
  no = λ t o. d.no t (λ high k. cell_masked h m high k (o high k));
}

pub lines_decided : {places : List ℤ} (rows : List ℕ) (r n : ℕ) → length rows ≡ Limits.rows → n ≡ Limits.places
    → Decides (eqb r 0) ((low : ℕ) → low < n → LineInOrder places rows low) → Decides (eqb r 0) (RowsInOrder places rows)
lines_decided rows r n s h d = record {
  yes = λ t. every_line rows s (λ low l. d.yes t low (omega arith));
  no = λ t o. d.no t (λ low l. each_line o low (omega arith));
}

-- Laws of the cell that a `spoil` names: what each test of the words behind it tells.
-- The words behind it have one cell (`cell_once`).
use Rattle.std.specs.Prelude.{ℕ, ◌≡◌, refl, List, [], ◌∷◌, ℤ, pos, length, get_or, Some, None}
use Rattle.std.proofs.Common.{sym, ap, ◌∙◌, subst, inl, inr, arith}
use Rattle.text_words.specs.Words.{AreNumbers, filled}
use Rattle.text_words.specs.ReadLaws.{numbers_once}
use Rattle.line.specs.Behind.{NumbersIn, Finds}
use Rattle.line.specs.BehindLaws.{finds_once}
use Rattle.line_spoil.specs.Cells.{parts, NoCell, CellAt, CellOf}
use Rattle.line_spoil.specs.declared.Cell.{Cell}
use Rattle.line_spoil.specs.declared.Cell.TheVariants.{Bad as NoneSuch}

pub cell_none : (words : List (List ℕ)) (room : List ℤ) → words ≡ [] → CellOf words room NoneSuch
cell_none words room e = inr (λ part rest i v p a f. let z : ◌≡◌ {A = ℕ} 0 (length (part ∷ rest)) = ap length (sym e ∙ p) in omega (arith, z), refl)

module _ {words : List (List ℕ)} {part : List ℕ} {rest : List (List ℕ)} (e : words ≡ part ∷ rest) (room exit : List ℤ) where
  -- any part and numbers of the same words are these
  numbers_are : (p : List ℕ) (r : List (List ℕ)) (vs : List ℤ) → words ≡ p ∷ r → AreNumbers r vs → AreNumbers rest vs
  numbers_are p r vs q a =
      let k : p ∷ r ≡ part ∷ rest = sym q ∙ e in
      let j : r ≡ rest = cc in
      subst (λ (ws : List (List ℕ)). AreNumbers ws vs) j a

  pub cell_stuck : NumbersIn rest room exit None → CellOf words room NoneSuch
  cell_stuck h = inr (λ p r i v q a f. h (pos i ∷ v ∷ []) (numbers_are p r (pos i ∷ v ∷ []) q a) f, refl)

  module _ {n : ℕ} (h : NumbersIn rest room exit (Some n)) where
    are : (p : List ℕ) (r : List (List ℕ)) (i : ℕ) (v : ℤ) → words ≡ p ∷ r → AreNumbers r (pos i ∷ v ∷ []) → h.0 ≡ pos i ∷ v ∷ []
    are p r i v q a = numbers_once rest h.0 (pos i ∷ v ∷ []) h.1 (numbers_are p r (pos i ∷ v ∷ []) q a)

    pub cell_count : (n ≡ 2 → ⊥) → CellOf words room NoneSuch
    cell_count ne = inr (λ p r i v q a f. ne (h.2 ∙ ap length (are p r i v q a)), refl)

    first-is : (vs : List ℤ) → h.0 ≡ vs → get_or exit 0 (pos 0) ≡ get_or (filled vs room) 0 (pos 0)
    first-is vs k = ap (λ (l : List ℤ). get_or l 0 (pos 0)) (h.4 ∙ ap (λ (l : List ℤ). filled l room) k)

    cell_negative : ((i : ℕ) → get_or exit 0 (pos 0) ≡ pos i → ⊥) → CellOf words room NoneSuch
    cell_negative neg = inr (λ p r i v q a f. neg i (first-is (pos i ∷ v ∷ []) (are p r i v q a)), refl)

    two : (vs : List ℤ) → length vs ≡ 2 → vs ≡ get_or vs 0 (pos 0) ∷ get_or vs 1 (pos 0) ∷ []
    two [] k = absurd (omega arith)
    two (x ∷ []) k = absurd (omega arith)
    two (x ∷ y ∷ []) k = refl
    two (x ∷ y ∷ z ∷ vs) k = absurd (omega arith)

    cell_found : {i : ℕ} {c : Cell} → n ≡ 2 → get_or exit 0 (pos 0) ≡ pos i → Finds part (parts i (get_or exit 1 (pos 0))) NoCell c → CellOf words room c
    cell_found {i} {c} en ei f =
        let w = two h.0 (sym h.2 ∙ en) in
        let a0 : get_or h.0 0 (pos 0) ≡ pos i = sym (first-is _ w) ∙ ei in
        let a1 : get_or h.0 1 (pos 0) ≡ get_or exit 1 (pos 0) = sym (ap (λ (l : List ℤ). get_or l 1 (pos 0)) (h.4 ∙ ap (λ (l : List ℤ). filled l room) w)) in
        let vs : h.0 ≡ pos i ∷ get_or exit 1 (pos 0) ∷ [] = w ∙ ap (λ (x : ℤ). x ∷ get_or h.0 1 (pos 0) ∷ []) a0 ∙ ap (λ (x : ℤ). pos i ∷ x ∷ []) a1 in
        inl (part, rest, i, get_or exit 1 (pos 0), e, subst (AreNumbers rest) vs h.1, omega (arith, h.3, en), f)

    -- two numbers give the cell, or none
    pub cell_two : {c : Cell} → n ≡ 2 → CellAt part (get_or exit 0 (pos 0)) (get_or exit 1 (pos 0)) c → CellOf words room c
    cell_two en (inl (i, ei, f)) = cell_found en ei f
    cell_two en (inr (neg, ec)) = subst (CellOf words room) (sym ec) (cell_negative neg)

no_cell_once : (q r : Cell) → NoCell q → NoCell r → q ≡ r
no_cell_once q r a b = a ∙ sym b

pub cell_once : (words : List (List ℕ)) (room : List ℤ) (q r : Cell) → CellOf words room q → CellOf words room r → q ≡ r
cell_once words room q r (inl (p, s, i, v, e, a, f, g)) (inl (p', s', i', v', e', a', f', g')) =
    let k : p ∷ s ≡ p' ∷ s' = sym e ∙ e' in
    let kp : p ≡ p' = cc in
    let ks : s ≡ s' = cc in
    let ns : pos i ∷ v ∷ [] ≡ pos i' ∷ v' ∷ [] = numbers_once s' (pos i ∷ v ∷ []) (pos i' ∷ v' ∷ []) (subst (λ (ws : List (List ℕ)). AreNumbers ws (pos i ∷ v ∷ [])) ks a) a' in
    let ki : i ≡ i' = cc in
    let kv : v ≡ v' = cc in
    finds_once p' (parts i' v') NoCell no_cell_once q r (rw (sym kp, sym ki, sym kv) g) g'
cell_once words room q r (inl (p, s, i, v, e, a, f, g)) (inr b) = absurd (b.0 p s i v e a f)
cell_once words room q r (inr a) (inl (p, s, i, v, e, b, f, g)) = absurd (a.0 p s i v e b f)
cell_once words room q r (inr a) (inr b) = a.1 ∙ sym b.1

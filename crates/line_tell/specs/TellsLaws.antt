-- Laws of being told a line's command: the corner list, and a part of the marks buffer lent on.
-- What the desk does with that part it does with the whole, but for the rest of it, which stays.
use Rattle.std.specs.Prelude.{◌≡◌, refl, List, [], ◌∷◌, ◌++◌, ℕ, zero, suc, ◌-◌, min, ℤ, length, take, drop}
use Rattle.std.proofs.Common.{sym, ap, ◌∙◌, subst, add-zero, arith, take_all}
use Rattle.std.proofs.Math.Decide.{dec_le}
use Rattle.std.proofs.Math.Seq.{take-append_seam, drop-append-add}
use Rattle.desk_state.specs.Desk.{Desk}
use Rattle.desk.specs.Commands.{Outcome, Does}
use Rattle.desk.specs.declared.Command.{Command}
use Rattle.line_tell.specs.Tells.{behind_first, lent_to, Tells}

-- ---- a load's corner list
pub first-none : (l : List ℤ) (n m : ℕ) → m ≡ min n (length l) → m ≡ 0 → [] ≡ behind_first n l
first-none [] zero m e z = refl
first-none [] (suc n) m e z = refl
first-none (x ∷ xs) zero m e z = refl
first-none (x ∷ xs) (suc n) m e z = absurd (omega (arith, e, z))

pub first_rest : (l : List ℤ) (n m : ℕ) → m ≡ min n (length l) → (m ≡ 0 → ⊥) → take (m - 1) (drop 1 l) ≡ behind_first n l
unfolding dec_le
first_rest [] n m e h = absurd (h (omega (arith, e)))
first_rest (x ∷ xs) zero m e h = absurd (h (omega (arith, e)))
first_rest (x ∷ xs) (suc k) m e h =
    elim (dec_le k (length xs)) [
      | yes a ↦ let w : m - 1 ≡ k = omega (arith, e, a) in ap (λ (j : ℕ). take j xs) w
      | no b ↦ take_all (m - 1) xs (omega (arith, e, b)) ∙ sym (take_all k xs (omega (arith, b)))
    ]

-- ---- a part of the marks buffer lent on
-- the desk with another marks buffer
abbrev with : Desk → List ℕ → Desk
with d marks = record { store = d.store; rows = d.rows; book = d.book; marks = marks }

pub tells_lent : (command : Command) (count : ℕ) (numbers list : List ℤ) (m n : ℕ) (before after : Desk) (r : Outcome) (part : List ℕ) → list ≡ behind_first count numbers → n ≡ m → length part ≡ n
    → after.marks ≡ part ++ drop n before.marks → Does command list (lent_to n before) (with after part) r → Tells command count numbers m before after
tells_lent command count numbers list m n before after r part eb em el e h =
    let front : part ≡ take m after.marks =
    sym (ap (λ (l : List ℕ). take m l) e ∙ ap (λ (k : ℕ). take k (part ++ drop n before.marks)) (sym em ∙ sym el) ∙ take-append_seam part (drop n before.marks)) in
    let back : drop m after.marks ≡ drop m before.marks =
    ap (λ (l : List ℕ). drop m l) e
    ∙ ap (λ (k : ℕ). drop k (part ++ drop n before.marks)) (sym em ∙ sym el ∙ sym (add-zero (length part)))
    ∙ drop-append-add part (drop n before.marks) 0
    ∙ ap (λ (k : ℕ). drop k before.marks) em in
    let lent = subst (λ (k : ℕ). Does command list (lent_to k before) (with after part) r) em h in
    let told = subst (λ (l : List ℤ). Does command l (lent_to m before) (with after part) r) eb lent in
    record { outcome = r; does = subst (λ (l : List ℕ). Does command (behind_first count numbers) (lent_to m before) (with after l) r) front told; rest = back }

-- what a command has done to the desk that was lent on, it has done to the one that was lent
pub does_there : (command : Command) (numbers : List ℤ) (before : Desk) {lent after : Desk} (r : Outcome) → lent ≡ after → Does command numbers before lent r → Does command numbers before after r
does_there command numbers before r e h = subst (λ (d : Desk). Does command numbers before d r) e h

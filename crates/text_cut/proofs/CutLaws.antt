-- Laws of a text's parts, whatever byte it is cut at: the first one is what the text starts with, and the others are those of what is left.
-- A text is cut in one way (`cut_is`), and the parts that are worked out are that cut (`is_cut`).
use Prim.Native.Nat.{ℕ, suc, ◌≤◌, ◌<◌}
use Rattle.std.specs.Prelude.{◌≡◌, drop}
use Rattle.std.proofs.Math.Path.{refl, ap, subst}
use Rattle.std.proofs.Common.{eq-eqb, sym, ◌∙◌}
use mathlib.Core.List.{List, [], ◌∷◌, ◌++◌}
use Rattle.std.proofs.Math.Logic.{ite, if_pos, if_neg}
use Rattle.std.proofs.Math.Decide.{ℕ_discrete}
use native.Mathlib.Omega.{arith}
use Rattle.std.proofs.Math.ListN.{length, take}
use Rattle.std.specs.List.{position, position_or_len}
use Rattle.std.specs.Option.{unwrap_or}
use Rattle.std.proofs.lemmas.Bool.{ne_eqb}
use Rattle.std.proofs.lemmas.Bool.Decides.{nat_tests}
use Rattle.std.specs.Prelude.{◌==◌, ◌+◌, cond, not}
use Rattle.text_cut.specs.Cuts.{Uncut, Cut, last, cut, first_part, onto, parts_of}

module _ (c : ℕ) where
  -- ---- the first part
  pub first-none : first_part c [] ≡ []
  unfolding first_part
  first-none = refl

  pub first_cut : (s : List ℕ) → first_part c (c ∷ s) ≡ []
  unfolding first_part
  first_cut s = if_pos (ℕ_discrete c c) refl _ _

  pub first_more : (b : ℕ) (s : List ℕ) → (b ≡ c → ⊥) → first_part c (b ∷ s) ≡ b ∷ first_part c s
  unfolding first_part
  first_more b s n = if_neg (ℕ_discrete b c) n _ _

  -- it is what the text starts with
  pub first_take : (s : List ℕ) → take (length (first_part c s)) s ≡ first_part c s
  unfolding first_part
  first_take [] = refl
  first_take (b ∷ s) = go (ℕ_discrete b c) (first_take s)
    where
      go : (d : Dec (b ≡ c)) → take (length (first_part c s)) s ≡ first_part c s → take (length (ite d [] (b ∷ first_part c s))) (b ∷ s) ≡ ite d [] (b ∷ first_part c s)
      go (yes e) h = refl
      go (no n) h = ap (λ (l : List ℕ). b ∷ l) h

  pub first_le : (s : List ℕ) → length (first_part c s) ≤ length s
  unfolding first_part
  first_le [] = omega arith
  first_le (b ∷ s) = go (ℕ_discrete b c) (first_le s)
    where
      go : (d : Dec (b ≡ c)) → length (first_part c s) ≤ length s → length (ite d [] (b ∷ first_part c s)) ≤ suc (length s)
      go (yes e) h = omega arith
      go (no n) h = omega arith

  -- ---- the parts: a text of no bytes is one
  pub parts_none : parts_of c [] ≡ [] ∷ []
  unfolding parts_of
  parts_none = refl

  -- the first is the only one where it is the whole text
  pub parts_last : (s : List ℕ) → length (first_part c s) ≡ length s → parts_of c s ≡ first_part c s ∷ []
  unfolding first_part parts_of
  parts_last [] e = refl
  parts_last (b ∷ s) e = go (ℕ_discrete b c) (parts_last s) e
    where
      go : (d : Dec (b ≡ c)) → (length (first_part c s) ≡ length s → parts_of c s ≡ first_part c s ∷ []) → length (ite d [] (b ∷ first_part c s)) ≡ suc (length s)
          → ite d ([] ∷ parts_of c s) (onto b (parts_of c s)) ≡ ite d [] (b ∷ first_part c s) ∷ []
      go (yes p) h e = absurd (omega arith)
      go (no n) h e = ap (onto b) (h (omega arith))

  -- and else those of what follows its byte c come after it
  pub parts_next : (s : List ℕ) → length (first_part c s) < length s → parts_of c s ≡ first_part c s ∷ parts_of c (drop (suc (length (first_part c s))) s)
  unfolding first_part parts_of
  parts_next [] h = absurd (omega arith)
  parts_next (b ∷ s) h = go (ℕ_discrete b c) (parts_next s) h
    where
      go : (d : Dec (b ≡ c)) → (length (first_part c s) < length s → parts_of c s ≡ first_part c s ∷ parts_of c (drop (suc (length (first_part c s))) s))
          → length (ite d [] (b ∷ first_part c s)) < suc (length s)
          → ite d ([] ∷ parts_of c s) (onto b (parts_of c s)) ≡ ite d [] (b ∷ first_part c s) ∷ parts_of c (drop (length (ite d [] (b ∷ first_part c s))) s)
      go (yes p) f h = refl
      go (no n) f h = ap (onto b) (f (omega arith))

  -- ---- the parts are a cut of the text
  onto_cut : (b : ℕ) {s : List ℕ} {parts : List (List ℕ)} → (b ≡ c → ⊥) → Cut c s parts → Cut c (b ∷ s) (onto b parts)
  onto_cut b n (last part u) = last (b ∷ part) (n, u)
  onto_cut b n (cut part u more) = cut (b ∷ part) (n, u) more

  pub is_cut : (s : List ℕ) → Cut c s (parts_of c s)
  unfolding parts_of
  is_cut [] = last [] tt
  is_cut (b ∷ s) = go (ℕ_discrete b c) (is_cut s)
    where
      go : (d : Dec (b ≡ c)) → Cut c s (parts_of c s) → Cut c (b ∷ s) (ite d ([] ∷ parts_of c s) (onto b (parts_of c s)))
      go (yes e) more = subst (λ (x : ℕ). Cut c (x ∷ s) ([] ∷ parts_of c s)) (sym e) (cut [] tt more)
      go (no n) more = onto_cut b n more

  -- and there is no other
  parts_more : (b : ℕ) (s : List ℕ) → (b ≡ c → ⊥) → parts_of c (b ∷ s) ≡ onto b (parts_of c s)
  unfolding parts_of
  parts_more b s n = if_neg (ℕ_discrete b c) n _ _

  parts_cut : (s : List ℕ) → parts_of c (c ∷ s) ≡ [] ∷ parts_of c s
  unfolding parts_of
  parts_cut s = if_pos (ℕ_discrete c c) refl _ _

  uncut_parts : (part : List ℕ) → Uncut c part → parts_of c part ≡ part ∷ []
  unfolding parts_of
  uncut_parts [] u = refl
  uncut_parts (b ∷ part) u = parts_more b part u.0 ∙ ap (onto b) (uncut_parts part u.1)

  cut_parts : (part rest : List ℕ) → Uncut c part → parts_of c (part ++ c ∷ rest) ≡ part ∷ parts_of c rest
  cut_parts [] rest u = parts_cut rest
  cut_parts (b ∷ part) rest u = parts_more b (part ++ c ∷ rest) u.0 ∙ ap (onto b) (cut_parts part rest u.1)

  pub cut_is : {s : List ℕ} {parts : List (List ℕ)} → Cut c s parts → parts ≡ parts_of c s
  cut_is (last part u) = sym (uncut_parts part u)
  cut_is (cut part {rest = r} u more) = ap (λ (ps : List (List ℕ)). part ∷ ps) (cut_is more) ∙ sym (cut_parts part r u)

  -- ---- the place of the first c
  pub first_place : (s : List ℕ) → length (first_part c s) ≡ position_or_len (λ b. b == c) s
  unfolding first_part
  first_place [] = refl
  first_place (b ∷ s) = go (ℕ_discrete b c) (first_place s)
    where
      go : (d : Dec (b ≡ c)) → length (first_part c s) ≡ position_or_len (λ x. x == c) s
          → length (ite d [] (b ∷ first_part c s)) ≡ cond (not (b == c)) (1 + position_or_len (λ x. x == c) s) 0
      go (yes e) h = rw (eq-eqb b c e)
      go (no n) h = rw (ne_eqb b c n) (omega (arith, h))

  pub first_found : (s : List ℕ) → unwrap_or (position (λ b. b == c) s) (length s) ≡ length (first_part c s)
  first_found s = grind (arith, nat_tests, first_place s, first_le s)

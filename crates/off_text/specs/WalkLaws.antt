-- The kernels' promises, drawn from what they did to a text: passing a byte or a comment, finding the start of a word, taking a word.
-- The definitions stand in Off and Walk.
use Rattle.std.specs.Prelude.{ℕ, suc, ◌+◌, ◌≤◌, ◌<◌, ◌≡◌, refl, Bool, true, false, cond, ◌||◌, not, List, [], ◌∷◌, ◌++◌, T, length, take, drop, get_or}
use Rattle.std.proofs.Common.{sym, ap, ap₂, ◌∙◌, subst, inl, inr, add-one, arith, ne_eqb, drop_of_length-le, drop-cons, drop-drop, length-drop, take-append-drop}
use Rattle.std.proofs.Math.Decide.{ℕ_discrete}
use Rattle.text_cut.specs.Cuts.{first_part}
use Rattle.text_cut.proofs.CutLaws.{first_more}
use Rattle.off_text.specs.Off.{outside, HasComma, CommaOutside, white, full, stretches, words_in}
use Rattle.off_text.specs.OffLaws.{outside_comment, outside_byte, outside_none, run_more, run_stop, run_none, words_white, words_none, words_run}
use Rattle.off_text.specs.Walk.{plain, run, Behind, PassedAs, StartAs, NextAs}

-- ---- one byte or one comment passed
module _ (s : List ℕ) (h : 0 < length s) where
  here : s ≡ get_or s 0 0 ∷ drop 1 s
  here = drop-cons s 0 0 h

  comment_long : get_or s 0 0 ≡ 35 → 1 ≤ length (first_part 10 s)
  comment_long e = rw (here, e, first_more 10 35 (drop 1 s) (λ z. omega arith)) (omega arith)

  pub passed_comment : (r : ℕ) → get_or s 0 0 ≡ 35 → r ≡ length (first_part 10 s) → PassedAs s (drop r s)
  passed_comment r e p =
      let f : s ≡ 35 ∷ drop 1 s = here ∙ ap (λ (b : ℕ). b ∷ drop 1 s) e in
      record {
        onward = omega (arith, length-drop r s, comment_long e);
        behind = (r, refl);
        comment = λ _. subst (λ (t : List ℕ). outside t ≡ outside (drop (length (first_part 10 t)) t)) (sym f) (outside_comment (drop 1 s)) ∙ ap (λ (k : ℕ). outside (drop k s)) (sym p);
        byte = λ n. absurd (n e);
      }

  pub passed_byte : (get_or s 0 0 ≡ 35 → ⊥) → PassedAs s (drop 1 s)
  passed_byte n = record {
    onward = omega (arith, length-drop 1 s);
    behind = (1, refl);
    comment = λ e. absurd (n e);
    byte = λ _. ap outside here ∙ outside_byte (get_or s 0 0) (drop 1 s) n;
  }

-- ---- commas
pub comma_here : (s : List ℕ) → 0 < length s → get_or s 0 0 ≡ 44 → CommaOutside s
comma_here s h e = subst HasComma (sym (ap outside (here s h) ∙ outside_byte (get_or s 0 0) (drop 1 s) (λ z. omega arith))) (inl e)

pub comma_none : (s : List ℕ) → length s ≤ 0 → CommaOutside s → ⊥
comma_none [] l h = subst HasComma outside_none h
comma_none (b ∷ s) l h = omega arith

-- what is passed and is no comma changes nothing
module _ {s t : List ℕ} (p : PassedAs s t) where
  pub comma_on : (get_or s 0 0 ≡ 44 → ⊥) → CommaOutside s → CommaOutside t
  comma_on f h = go (ℕ_discrete (get_or s 0 0) 35)
    where
      other : HasComma (get_or s 0 0 ∷ outside t) → CommaOutside t
      other (inl e) = absurd (f e)
      other (inr k) = k

      go : Dec (get_or s 0 0 ≡ 35) → CommaOutside t
      go (yes e) = subst HasComma (p.comment e) h
      go (no n) = other (subst HasComma (p.byte n) h)

  pub comma_back : CommaOutside t → CommaOutside s
  comma_back h = go (ℕ_discrete (get_or s 0 0) 35)
    where
      go : Dec (get_or s 0 0 ≡ 35) → CommaOutside s
      go (yes e) = subst HasComma (sym (p.comment e)) h
      go (no n) = subst HasComma (sym (p.byte n)) (inr h)

  -- ---- words: what is passed and belongs to none changes nothing
  pub words_on : plain (get_or s 0 0) ≡ false → words_in s ≡ words_in t
  words_on f = go (ℕ_discrete (get_or s 0 0) 35)
    where
      is_white : (w : Bool) → not (w || false) ≡ false → w ≡ true
      is_white true e = refl
      is_white false e = absurd (subst T e tt)

      go : Dec (get_or s 0 0 ≡ 35) → words_in s ≡ words_in t
      go (yes e) = ap (λ (r : List ℕ). full (stretches r)) (p.comment e)
      go (no n) =
          ap (λ (r : List ℕ). full (stretches r)) (p.byte n)
          ∙ words_white (get_or s 0 0) (outside t) (is_white (white (get_or s 0 0)) (rw (ne_eqb (get_or s 0 0) 35 n) at f))

-- where a place is behind another
pub behind_on : {s t u : List ℕ} → Behind s t → Behind t u → Behind s u
behind_on {s} {t} {u} a b = (a.0 + b.0, b.1 ∙ ap (drop b.0) a.1 ∙ drop-drop b.0 a.0 s)

-- ---- the bytes of a word
module _ (s : List ℕ) (i : ℕ) (h : i < length s) where
  pub run_on : plain (get_or s i 0) ≡ true → run (drop i s) ≡ get_or s i 0 ∷ run (drop (i + 1) s)
  run_on e = rw (drop-cons s i 0 h, add-one) (run_more (get_or s i 0) (drop (suc i) s) e)

  pub run_off : plain (get_or s i 0) ≡ false → run (drop i s) ≡ []
  run_off e = rw (drop-cons s i 0 h) (run_stop (get_or s i 0) (drop (suc i) s) e)

pub run_past : (s : List ℕ) (i : ℕ) → length s ≤ i → run (drop i s) ≡ []
run_past s i h = ap run (drop_of_length-le s h) ∙ run_none

run_take : (s : List ℕ) → take (length (run s)) s ≡ run s
unfolding run
run_take [] = refl
run_take (b ∷ s) = go (plain b) (run_take s)
  where
    go : (t : Bool) → take (length (run s)) s ≡ run s → take (length (cond t (b ∷ run s) [])) (b ∷ s) ≡ cond t (b ∷ run s) []
    go true h = ap (λ (l : List ℕ). b ∷ l) h
    go false h = refl

-- ---- a word taken
module _ {s t : List ℕ} (h : StartAs s t) where
  -- there is a word
  pub next-is : 0 < length t → {n : ℕ} {word rest : List ℕ} → n ≡ length (run t) → word ≡ take n t → rest ≡ drop n t → NextAs s word rest
  next-is l {n} {word} {rest} e f g = record {
    behind = (h.behind.0, ap₂ (λ (x y : List ℕ). x ++ y) f g ∙ take-append-drop n t ∙ h.behind.1);
    words =
        h.words ∙ words_run t (omega (arith, ap length (run_on t 0 l (h.found l))))
        ∙ ap₂ (λ (x y : List ℕ). x ∷ words_in y) (sym (f ∙ ap (λ (k : ℕ). take k t) e ∙ run_take t)) (sym (g ∙ ap (λ (k : ℕ). drop k t) e));
  }

  -- there is none
  pub none-is : length t ≡ 0 → words_in s ≡ []
  none-is z = h.words ∙ ap words_in (empty t z) ∙ words_none
    where
      empty : (t : List ℕ) → length t ≡ 0 → t ≡ []
      empty [] z = refl
      empty (b ∷ t) z = absurd (omega arith)

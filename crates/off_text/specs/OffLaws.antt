-- Laws of an OFF text's words: what passing a byte, a comment or a word leaves, and that there are no more words than bytes.
-- The definitions stand in Off.
use Rattle.std.specs.Prelude.{ℕ, suc, ◌≤◌, ◌≡◌, refl, Bool, true, false, cond, List, [], ◌∷◌, T, eqb, length, drop}
use Rattle.std.proofs.Common.{sym, ap, ◌∙◌, subst, arith, ne_eqb, eqb-true}
use Rattle.std.proofs.Math.Decide.{ℕ_discrete}
use Rattle.text_cut.specs.Cuts.{onto, first_part}
use Rattle.text_cut.proofs.CutLaws.{first-none, first_cut, first_more}
use Rattle.off_text.specs.Off.{outside, inside, white, stretches, full, words_in, word_at}
use Rattle.off_text.specs.Walk.{plain, run}

-- ---- comments
-- from inside a comment on, what is outside starts with the first byte 10
pub inside_cut : (s : List ℕ) → inside s ≡ outside (drop (length (first_part 10 s)) s)
unfolding outside
inside_cut [] = rw (first-none 10)
inside_cut (b ∷ s) = go (ℕ_discrete b 10) (inside_cut s)
  where
    go : Dec (b ≡ 10) → inside s ≡ outside (drop (length (first_part 10 s)) s) → inside (b ∷ s) ≡ outside (drop (length (first_part 10 (b ∷ s))) (b ∷ s))
    go (yes e) h = subst (λ (x : ℕ). inside (x ∷ s) ≡ outside (drop (length (first_part 10 (x ∷ s))) (x ∷ s))) (sym e) (rw (first_cut 10 s))
    go (no n) h = rw (first_more 10 b s n, ne_eqb b 10 n) h

-- a comment is passed by going on to its byte 10, or to the end
pub outside_comment : (s : List ℕ) → outside (35 ∷ s) ≡ outside (drop (length (first_part 10 (35 ∷ s))) (35 ∷ s))
unfolding outside
outside_comment s = rw (first_more 10 35 s (λ e. omega arith)) (inside_cut s)

pub outside_byte : (b : ℕ) (s : List ℕ) → (b ≡ 35 → ⊥) → outside (b ∷ s) ≡ b ∷ outside s
unfolding outside
outside_byte b s n = rw (ne_eqb b 35 n)

pub outside_none : outside [] ≡ []
unfolding outside
outside_none = refl

-- ---- words
pub run_more : (b : ℕ) (s : List ℕ) → plain b ≡ true → run (b ∷ s) ≡ b ∷ run s
unfolding run
run_more b s e = rw e

pub run_stop : (b : ℕ) (s : List ℕ) → plain b ≡ false → run (b ∷ s) ≡ []
unfolding run
run_stop b s e = rw e

pub run_none : run [] ≡ []
unfolding run
run_none = refl

-- white space before a word is passed
pub words_white : (b : ℕ) (s : List ℕ) → white b ≡ true → full (stretches (b ∷ s)) ≡ full (stretches s)
unfolding stretches
words_white b s e = rw e

pub words_none : words_in [] ≡ []
unfolding outside stretches
words_none = refl

-- what a text's stretches start with is the run that it starts with, and the words of what follows it come after
record Starts (s : List ℕ) : Type 0 where
  more : List (List ℕ)
  first : stretches (outside s) ≡ run s ∷ more
  rest : full more ≡ words_in (drop (length (run s)) s)

-- a comment ends a stretch
inside_ends : (s : List ℕ) → (more : List (List ℕ)) × (stretches (inside s) ≡ [] ∷ more)
unfolding outside stretches white
inside_ends [] = ([], refl)
inside_ends (b ∷ s) = go (eqb b 10) refl (inside_ends s)
  where
    go : (t : Bool) → eqb b 10 ≡ t → (more : List (List ℕ)) × (stretches (inside s) ≡ [] ∷ more) → (more : List (List ℕ)) × (stretches (cond t (b ∷ outside s) (inside s)) ≡ [] ∷ more)
    go true e h = (stretches (outside s), subst (λ (x : ℕ). stretches (x ∷ outside s) ≡ [] ∷ stretches (outside s)) (sym (eqb-true b 10 e)) refl)
    go false e h = h

starts : (s : List ℕ) → Starts s
unfolding outside stretches run white
starts [] = record { more = []; first = refl; rest = refl }
starts (b ∷ s) = go (white b) (eqb b 35) refl refl (starts s)
  where
    go : (w c : Bool) → white b ≡ w → eqb b 35 ≡ c → Starts s → Starts (b ∷ s)
    go true true e f h = absurd (subst T (sym e ∙ ap white (eqb-true b 35 f)) tt)
    go true false e f h = record { more = stretches (outside s); first = rw (f, e); rest = rw (f, e, f, e) }
    go false true e f h = let m = inside_ends s in record { more = m.0; first = rw (f, e) m.1; rest = rw (f, e, f) (sym (ap full m.1)) }
    go false false e f h = record { more = h.more; first = rw (f, e, h.first); rest = rw (f, e) h.rest }

-- ---- the first word, and the words after it
-- where the text starts with a word, that is the first one
pub words_run : (s : List ℕ) → 1 ≤ length (run s) → words_in s ≡ run s ∷ words_in (drop (length (run s)) s)
words_run s l = go (run s) (starts s).first (starts s).rest l
  where
    go : (w : List ℕ) → stretches (outside s) ≡ w ∷ (starts s).more → full (starts s).more ≡ words_in (drop (length w) s) → 1 ≤ length w → words_in s ≡ w ∷ words_in (drop (length w) s)
    go [] e f l = absurd (omega arith)
    go (b ∷ w) e f l = ap full e ∙ ap (λ (m : List (List ℕ)). (b ∷ w) ∷ m) f

-- no word is empty, so the first is empty only where there is none
pub first-empty : (parts : List (List ℕ)) → word_at (full parts) 0 ≡ [] → full parts ≡ []
first-empty [] e = refl
first-empty ([] ∷ parts) e = first-empty parts e
first-empty ((b ∷ w) ∷ parts) e = let z : ◌≡◌ {A = ℕ} 0 1 = cc in absurd (omega arith)

-- ---- as many bytes as words, at least
full_onto : (b : ℕ) (parts : List (List ℕ)) → length (full (onto b parts)) ≤ suc (length (full parts))
full_onto b [] = omega arith
full_onto b ([] ∷ parts) = omega arith
full_onto b ((c ∷ w) ∷ parts) = omega arith

stretches_few : (s : List ℕ) → length (full (stretches s)) ≤ length s
unfolding stretches
stretches_few [] = omega arith
stretches_few (b ∷ s) = go (white b) (stretches_few s)
  where
    go : (t : Bool) → length (full (stretches s)) ≤ length s → length (full (cond t ([] ∷ stretches s) (onto b (stretches s)))) ≤ suc (length s)
    go true h = omega arith
    go false h = omega (arith, full_onto b (stretches s))

outside_few : (s : List ℕ) → (length (outside s) ≤ length s) × (length (inside s) ≤ length s)
unfolding outside
outside_few [] = (omega arith, omega arith)
outside_few (b ∷ s) = (out (eqb b 35) (outside_few s), ins (eqb b 10) (outside_few s))
  where
    out : (t : Bool) → (length (outside s) ≤ length s) × (length (inside s) ≤ length s) → length (cond t (inside s) (b ∷ outside s)) ≤ suc (length s)
    out true h = omega arith
    out false h = omega arith

    ins : (t : Bool) → (length (outside s) ≤ length s) × (length (inside s) ≤ length s) → length (cond t (b ∷ outside s) (inside s)) ≤ suc (length s)
    ins true h = omega arith
    ins false h = omega arith

pub words_few : (s : List ℕ) → length (words_in s) ≤ length s
words_few s = omega (arith, stretches_few (outside s), (outside_few s).0)

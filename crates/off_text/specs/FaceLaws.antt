-- Words taken one after the other: each of the first n is so, one more, and that n words are there where the empty word is not so.
-- And faces: a face and then the others are all of them, and the number of a face is below the text's length.
use Rattle.std.specs.Prelude.{ℕ, zero, suc, ◌+◌, ◌-◌, ◌≤◌, ◌<◌, ◌≡◌, refl, Bool, List, [], Option, Some, None, length, drop}
use Rattle.std.proofs.Common.{sym, ap, ◌∙◌, subst, arith, length-drop, drop-drop, get_or-drop}
use Rattle.std.proofs.Math.Decide.{dec_lt, dec_le}
use Rattle.std.proofs.Math.ListN.{get_or-eq_default}
use Rattle.text_digits.specs.Decimal.{number}
use Rattle.off_text.specs.Off.{words_in, word_at, EachWord, IsCount, Names, Faces}
use Rattle.off_text.specs.OffLaws.{words_few}
use Rattle.off_text.specs.Walk.{NextAs, BelowAs, CountedAs, Face, IndicesAs, FaceAs}

-- ---- the next word, where i words are passed
module _ (words : List (List ℕ)) (i : ℕ) (s : List ℕ) (e : words_in s ≡ drop i words) where
  first : word_at (words_in s) 0 ≡ word_at words i
  first =
      let z : i + 0 ≡ i = omega arith in
      ap (λ (l : List (List ℕ)). word_at l 0) e ∙ get_or-drop i words 0 [] ∙ ap (word_at words) z

  pub word_none : words_in s ≡ [] → word_at words i ≡ []
  word_none n = sym first ∙ ap (λ (l : List (List ℕ)). word_at l 0) n

  module _ {word t : List ℕ} (h : NextAs s word t) where
    pub word-is : word ≡ word_at words i
    word-is = ap (λ (l : List (List ℕ)). word_at l 0) (sym h.words) ∙ first

    pub words_after : words_in t ≡ drop (i + 1) words
    words_after = ap (drop 1) (sym h.words) ∙ ap (drop 1) e ∙ drop-drop 1 i words

  module _ {bound : ℕ} {r : Option ℕ} {t : List ℕ} (h : CountedAs bound s r t) where
    pub count-is : BelowAs bound (word_at words i) r
    count-is = subst (λ (w : List ℕ). BelowAs bound w r) first h.value

    pub count_after : words_in t ≡ drop (i + 1) words
    count_after = h.rest ∙ ap (drop 1) e ∙ drop-drop 1 i words

-- ---- each of the first words
pub each_more : (P : List ℕ → Type 0) (n : ℕ) (words : List (List ℕ)) → EachWord P n words → P (word_at words n) → EachWord P (n + 1) words
each_more P n words h p k l = go (dec_lt k n)
  where
    go : Dec (k < n) → P (word_at words k)
    go (yes m) = h k m
    go (no m) = let e : n ≡ k = omega arith in subst (λ (j : ℕ). P (word_at words j)) e p

pub each_there : (P : List ℕ → Type 0) (n : ℕ) (words : List (List ℕ)) → (P [] → ⊥) → EachWord P n words → n ≤ length words
each_there P n words f h = go (dec_lt (length words) n)
  where
    go : Dec (length words < n) → n ≤ length words
    go (yes m) = absurd (f (subst P (get_or-eq_default words [] (omega arith)) (h (length words) m)))
    go (no m) = omega arith

pub empty_count : IsCount [] → ⊥
empty_count h = omega (arith, h.some)

-- a word that is digits is there
pub count_there : (words : List (List ℕ)) (k : ℕ) → IsCount (word_at words k) → k < length words
count_there words k h = go (dec_le (length words) k)
  where
    go : Dec (length words ≤ k) → k < length words
    go (yes m) = absurd (empty_count (subst IsCount (get_or-eq_default words [] m) h))
    go (no m) = omega arith

-- ---- a face
-- there are more words than its number says, and no more words than bytes
pub face_below : (corners : ℕ) (s : List ℕ) → Face corners (words_in s) → number (word_at (words_in s) 0) < length s
face_below corners s f =
    let words = words_in s in
    let n = number (word_at words 0) in
    omega (
      arith,
      each_there (Names corners) n (drop 1 words) (λ (h : Names corners []). empty_count h.count) f.indices,
      length-drop 1 words,
      count_there words 0 f.count,
      words_few s,
    )

module _ (corners : ℕ) (s t : List ℕ) where
  abbrev words : List (List ℕ)
  words = words_in s

  pub face_not : CountedAs (length s) s None t → Face corners words → ⊥
  face_not h f = h.value (record { count = f.count; below = face_below corners s f })

  module _ {n : ℕ} (h : CountedAs (length s) s (Some n) t) {r : Bool} {u : List ℕ} (i : IndicesAs corners n (words_in t) r u) where
    named : n ≡ number (word_at words 0)
    named = h.value.1

    indices : EachWord (Names corners) n (words_in t) → EachWord (Names corners) (number (word_at words 0)) (drop 1 words)
    indices e = subst (λ (k : ℕ). EachWord (Names corners) k (drop 1 words)) named (subst (EachWord (Names corners) n) h.rest e)

    back : EachWord (Names corners) (number (word_at words 0)) (drop 1 words) → EachWord (Names corners) n (words_in t)
    back e = subst (EachWord (Names corners) n) (sym h.rest) (subst (λ (k : ℕ). EachWord (Names corners) k (drop 1 words)) (sym named) e)

    pub face_is : FaceAs corners words r u
    face_is = record {
      good = λ g.
          let z = i.good g in (
            record { count = h.value.0.count; indices = indices z.0 },
            z.1 ∙ ap (drop n) h.rest ∙ drop-drop n 1 words ∙ ap (λ (k : ℕ). drop (1 + k) words) named,
          );
      bad = λ g (f : Face corners words). i.bad g (back f.indices);
    }

-- ---- faces
module _ (corners : ℕ) (words : List (List ℕ)) (left : ℕ) (l : 0 < left) where
  one : left ≡ suc (left - 1)
  one = omega arith

  pub faces_face : Faces corners left words → Face corners words × Faces corners (left - 1) (drop (1 + number (word_at words 0)) words)
  faces_face h = let g = subst (λ (k : ℕ). Faces corners k words) one h in (record { count = g.0; indices = g.1 }, g.2)

  pub face_faces : Face corners words → Faces corners (left - 1) (drop (1 + number (word_at words 0)) words) → Faces corners left words
  face_faces f h = subst (λ (k : ℕ). Faces corners k words) (sym one) (f.count, f.indices, h)

-- so many faces are as many words, at least
pub faces_few : (corners faces : ℕ) (words : List (List ℕ)) → Faces corners faces words → faces ≤ length words
faces_few corners zero words h = omega arith
faces_few corners (suc faces) words h =
    omega (arith, faces_few corners faces (drop (1 + number (word_at words 0)) words) h.2, length-drop (1 + number (word_at words 0)) words, count_there words 0 h.0)

-- a count is told in one way
pub below-once : (bound : ℕ) (word : List ℕ) (r t : Option ℕ) → BelowAs bound word r → BelowAs bound word t → r ≡ t
below-once bound word None None a b = refl
below-once bound word (Some m) (Some n) a b = ap Some (a.1 ∙ sym b.1)
below-once bound word (Some m) None a b = absurd (b a.0)
below-once bound word None (Some n) a b = absurd (a b.0)

-- where a word is next, there are some
pub none_next : {s word t : List ℕ} → NextAs s word t → words_in s ≡ [] → ⊥
none_next h e = omega (arith, ap length (sym h.words ∙ e))

-- The first pass put together: the counts, the numbers and the faces are the layout, and a text that is an OFF text has counts below its length.
-- The definitions stand in Passes.
use Rattle.std.specs.Prelude.{ℕ, ◌*◌, ◌/◌, ◌<◌, ◌≡◌, refl, true, false, List, [], Option, Some, None, MatchOption, Result, Ok, Err, IfOk, length, drop}
use Rattle.std.proofs.Common.{sym, ap, ◌∙◌, subst, arith, Bor, length-drop, drop-drop, get_or-drop}
use Rattle.std.proofs.lemmas.Bool.{false≢true}
use Rattle.limits.specs.Decides.{Decides}
use Rattle.limits.specs.Limits
use Rattle.limits.specs.Refusals.{answer_number}
use Rattle.limits.specs.declared.Refusal.{Refusal}
use Rattle.text_digits.specs.Decimal.{number}
use Rattle.off_number.specs.OffNumber.{IsNumber}
use Rattle.off_text.specs.Off.{off, words_in, word_at, IsCount, Names, IsOff, corner_count, face_count}
use Rattle.off_text.specs.OffLaws.{words_few}
use Rattle.off_text.specs.FaceLaws.{word_none, word-is, words_after, each_there, empty_count, count_there, count-is, count_after, faces_few}
use Rattle.off_text.specs.Walk.{NextAs, CountedAs}
use Rattle.off_read.specs.NumberLaws.{empty_number}
use Rattle.off_read.specs.Passes.{Counts, HeadRead, Body, BodyAs, TextJudged, LayoutRead, LayoutAs}
use Rattle.off_read.specs.declared.Head.{Head}
use Rattle.off_read.specs.declared.Layout.{Layout}

-- ---- the counts
module _ (bound : ℕ) (s t : List ℕ) where
  abbrev words : List (List ℕ)
  words = words_in s

  pub no_corners : CountedAs bound s None t → Counts bound words → ⊥
  no_corners h c = h.value c.corners

  module _ (m : ℕ) (h : CountedAs bound s (Some m) t) (u : List ℕ) where
    pub no_faces : CountedAs bound t None u → Counts bound words → ⊥
    no_faces k c = count-is words 1 t h.rest k c.faces

    module _ (n : ℕ) (k : CountedAs bound t (Some n) u) where
      behind : words_in u ≡ drop 2 words
      behind = count_after words 1 t h.rest k

      pub none_there : words_in u ≡ [] → Counts bound words → ⊥
      none_there e c = empty_count (subst IsCount (word_none words 2 u behind e) c.edges)

      module _ {w v : List ℕ} (x : NextAs u w v) where
        edges : w ≡ word_at words 2
        edges = word-is words 2 u behind x

        pub no_edges : (IsCount w → ⊥) → Counts bound words → ⊥
        no_edges f c = f (subst IsCount (sym edges) c.edges)

        pub head_is : IsCount w → HeadRead bound words (record { corners = m; faces = n }) v
        head_is e =
            let y = count-is words 1 t h.rest k in
            record {
              counts = record { corners = h.value.0; faces = y.0; edges = subst IsCount edges e };
              corners = h.value.1;
              faces = y.1;
              rest = words_after words 2 u behind x;
            }

-- ---- the body: three numbers a corner are words that are there
pub body_few : (corners faces : ℕ) (s : List ℕ) → length s / 3 < corners → Body corners faces (words_in s) → ⊥
body_few corners faces s l b = omega (arith, each_there IsNumber (3 * corners) (words_in s) empty_number b.numbers, words_few s)

-- ---- the whole text
module _ (text : List ℕ) where
  abbrev all : List (List ℕ)
  all = words_in text

  -- the counts of an OFF text are below its length
  pub off_counts : IsOff text → Counts (length text) (drop 1 all)
  off_counts o =
      let n = corner_count text in
      let few = words_few text in
      let three = count_there all 3 o.edges in
      let long = length-drop 4 all in
      let many = each_there IsNumber (3 * n) (drop 4 all) empty_number o.numbers in
      let faces = faces_few n (face_count text) (drop (3 * n) (drop 4 all)) o.indices in
      let rest = length-drop (3 * n) (drop 4 all) in
      let first : word_at (drop 1 all) 0 ≡ word_at all 1 = get_or-drop 1 all 0 [] in
      let second : word_at (drop 1 all) 1 ≡ word_at all 2 = get_or-drop 1 all 1 [] in
      let third : word_at (drop 1 all) 2 ≡ word_at all 3 = get_or-drop 1 all 2 [] in
      record {
        corners = subst (Names (length text)) (sym first) (record { count = o.corners; below = omega arith });
        faces = subst (Names (length text)) (sym second) (record { count = o.faces; below = omega arith });
        edges = subst IsCount (sym third) o.edges;
      }

  pub off_body : IsOff text → Body (corner_count text) (face_count text) (drop 4 all)
  off_body o = record { numbers = o.numbers; indices = o.indices }

  -- a text without a word has no title
  pub no_word : words_in text ≡ [] → IsOff text → ⊥
  no_word e o = let z : length off ≡ 0 = ap length (sym o.title ∙ ap (λ (l : List (List ℕ)). word_at l 0) e) in omega arith

  -- the title, where the first word is there and is OFF
  pub record Titled (s : List ℕ) : Type 0 where
    pub word : List ℕ
    pub next : NextAs text word s
    pub is : word ≡ off

  pub title_taken : (s : List ℕ) (r : Option (Bor (List ℕ))) → MatchOption r (words_in text ≡ []) (λ w. NextAs text w.now s) → MatchOption r (true ≡ false) (λ w. Decides true (w.now ≡ off)) → Titled s
  title_taken s None n t = absurd (false≢true (sym t))
  title_taken s (Some w) n t = record { word = w.now; next = n; is = t.yes refl }

  module _ {w s : List ℕ} (n : NextAs text w s) where
    title : w ≡ word_at all 0
    title = ap (λ (l : List (List ℕ)). word_at l 0) (sym n.words)

    rest : words_in s ≡ drop 1 all
    rest = ap (drop 1) (sym n.words)

    pub no_title : (w ≡ off → ⊥) → IsOff text → ⊥
    no_title f o = f (title ∙ o.title)

    pub no_counts : (Counts (length text) (words_in s) → ⊥) → IsOff text → ⊥
    no_counts f o = f (subst (Counts (length text)) (sym rest) (off_counts o))

    module _ {h : Head} {t : List ℕ} (r : HeadRead (length text) (words_in s) h t) where
      first : h.corners ≡ corner_count text
      first = r.corners ∙ ap (λ (l : List (List ℕ)). number (word_at l 0)) rest ∙ ap number (get_or-drop 1 all 0 [])

      second : h.faces ≡ face_count text
      second = r.faces ∙ ap (λ (l : List (List ℕ)). number (word_at l 1)) rest ∙ ap number (get_or-drop 1 all 1 [])

      pub after : words_in t ≡ drop 4 all
      after = r.rest ∙ ap (drop 3) rest ∙ drop-drop 3 1 all

      module _ {k : ℕ} (b : BodyAs h.corners h.faces (words_in t) k) where
        told : BodyAs (corner_count text) (face_count text) (drop 4 all) k
        told =
            subst (λ (c : ℕ). BodyAs c (face_count text) (drop 4 all) k) first
            (subst (λ (f : ℕ). BodyAs h.corners f (drop 4 all) k) second (subst (λ (l : List (List ℕ)). BodyAs h.corners h.faces l k) after b))

        judged : w ≡ off → (k ≡ Limits.bad_text → ⊥) → TextJudged text k
        judged t f =
            let g = told.good f in
            let c = r.counts in
            record {
              off = record {
                title = sym title ∙ t;
                corners = subst IsCount (ap (λ (l : List (List ℕ)). word_at l 0) rest ∙ get_or-drop 1 all 0 []) c.corners.count;
                faces = subst IsCount (ap (λ (l : List (List ℕ)). word_at l 1) rest ∙ get_or-drop 1 all 1 []) c.faces.count;
                edges = subst IsCount (ap (λ (l : List (List ℕ)). word_at l 2) rest ∙ get_or-drop 1 all 2 []) c.edges;
                numbers = g.0.numbers;
                indices = g.0.indices;
              };
              judged = g.1;
            }

        -- the answer has the body's refusal, or the corners and what was left before the body
        pub layout_is : (q : Result Layout Refusal) → answer_number q ≡ k → IfOk q (λ l. (l.corners ≡ h.corners) × (l.numbers.now ≡ t)) → w ≡ off → LayoutAs text q
        layout_is q e l x = record {
          bad = λ z o. told.bad (sym e ∙ z) (off_body o);
          good = λ f. subst (TextJudged text) (sym e) (judged x (λ z. f (e ∙ z)));
          read = by q l;
        }
          where
            by : (q : Result Layout Refusal) → IfOk q (λ l. (l.corners ≡ h.corners) × (l.numbers.now ≡ t)) → IfOk q (LayoutRead text)
            by (Ok l) x = record { corners = x.0 ∙ first; words = ap words_in x.1 ∙ after }
            by (Err r) x = x

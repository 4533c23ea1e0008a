-- The room filled number by number, the whole answer drawn part by part, and that any two answers are equal, the room that they leave with them.
-- The definitions stand in Corners and Passes.
use Rattle.std.specs.Prelude.{ℕ, suc, ◌+◌, ◌*◌, ◌≤◌, ◌<◌, ◌≡◌, refl, List, [], ◌∷◌, ◌++◌, ℤ, pos, Option, Some, None, MatchOption, IsSome, Result, Ok, Err, length, take, drop, set, get_or}
use Rattle.std.proofs.Common.{sym, ap, ◌∙◌, subst, inl, inr, ⊎_elim, arith, Bor, append-nil, length-append, length-drop, length-take-le, drop-cons, ext_get_or}
use Rattle.std.proofs.Math.Decide.{dec_lt, ℕ_discrete}
use Rattle.std.proofs.Math.ListN.{get_or-append}
use Rattle.std.proofs.lemmas.List.{set_at, get_or_at}
use Rattle.std.proofs.Math.Seq.{append_snoc, drop-length}
use Rattle.limits.specs.Limits
use Rattle.limits.specs.Lowest.{Lowest}
use Rattle.limits.specs.Refusals.{number_of}
use Rattle.limits.specs.declared.Refusal.{Refusal}
use Rattle.limits.specs.declared.Refusal.TheVariants.{CommaRefused}
use Rattle.limits.proofs.LowestLaws.{lowest_once}
use Rattle.limits.proofs.RefusalLaws.{number_once, number_some}
use Rattle.scans.specs.Once.{zero_or}
use Rattle.off_number.specs.OffNumber.{InSteps, word_refusals, NumberReadAs, number_read_of}
use Rattle.off_number.specs.OffNumberLaws.{steps_once}
use Rattle.off_text.specs.Off.{CommaOutside, IsOff, words_in, word_at, EachWord, corner_count, after_counts}
use Rattle.off_text.specs.Walk.{NextAs}
use Rattle.off_read.specs.Corners.{corner_numbers, off_refusals, WordsWritten, OffRead, off_read_of, OffReadAs}
use Rattle.off_read.specs.NumberLaws.{empty_number}
use Rattle.off_read.specs.Passes.{number_refusals, Taken, TextJudged, LayoutAs, FillsAs}
use Rattle.off_read.specs.declared.Layout.{Layout}

-- ---- the room
pub written_none : (words : List (List ℕ)) (room : List ℤ) → WordsWritten words 0 room room
written_none words room = record { values = []; long = refl; steps = λ k l. absurd (omega arith); room = refl }

module _ {words : List (List ℕ)} {i : ℕ} {before now : List ℤ} (h : WordsWritten words i before now) where
  pub written_long : i ≤ length before → length now ≡ length before
  written_long l = ap length h.room ∙ omega (arith, length-append h.values (drop i before), length-drop i before, h.long)

  more_room : (z : ℤ) → i < length before → set now i z ≡ (h.values ++ (z ∷ [])) ++ drop (i + 1) before
  more_room z l =
      let e : suc i ≡ i + 1 = omega arith in
      ap (λ (r : List ℤ). set r i z) h.room
      ∙ ap (λ (r : List ℤ). set (h.values ++ r) i z) (drop-cons before i (pos 0) l)
      ∙ set_at h.values (get_or before i (pos 0)) (drop (suc i) before) z i h.long
      ∙ sym (append_snoc h.values z (drop (suc i) before))
      ∙ ap (λ (k : ℕ). (h.values ++ (z ∷ [])) ++ drop k before) e

  more_steps : (z : ℤ) → InSteps (word_at words i) z → (k : ℕ) → k < i + 1 → InSteps (word_at words k) (get_or (h.values ++ (z ∷ [])) k (pos 0))
  more_steps z s k l = go (dec_lt k i)
    where
      go : Dec (k < i) → InSteps (word_at words k) (get_or (h.values ++ (z ∷ [])) k (pos 0))
      go (yes m) = subst (InSteps (word_at words k)) (sym (get_or-append h.values (z ∷ []) (pos 0) k (omega (arith, h.long)))) (h.steps k m)
      go (no m) =
          let e : i ≡ k = omega arith in
          subst (InSteps (word_at words k)) (sym (get_or_at h.values z [] (pos 0) k (h.long ∙ e))) (subst (λ (j : ℕ). InSteps (word_at words j) z) e s)

  pub written_more : (z : ℤ) → InSteps (word_at words i) z → i < length before → WordsWritten words (i + 1) before (set now i z)
  written_more z s l = record {
    values = h.values ++ (z ∷ []);
    long = omega (arith, length-append h.values (z ∷ []), h.long);
    steps = more_steps z s;
    room = more_room z l;
  }

pub written_once : {words : List (List ℕ)} {n : ℕ} {before after last : List ℤ} → WordsWritten words n before after → WordsWritten words n before last → after ≡ last
written_once {words} {n} {before} a b =
    let e : a.values ≡ b.values = ext_get_or (pos 0) a.values b.values (a.long ∙ sym b.long) (λ k l.
    let m : k < n = omega (arith, a.long) in
    steps_once (a.steps k m) (b.steps k m)) in
    a.room ∙ ap (λ (l : List ℤ). l ++ drop n before) e ∙ sym b.room

-- the cells of a part that are all written are those of the whole room
pub written_part : {words : List (List ℕ)} (n : ℕ) (before : List ℤ) {part : List ℤ} → n ≤ length before → WordsWritten words (length (take n before)) (take n before) part
    → WordsWritten words n before (part ++ drop n before)
written_part {words} n before {part} l h =
    let e : length (take n before) ≡ n = length-take-le n before l in
    let none : drop (length (take n before)) (take n before) ≡ [] = drop-length (take n before) in
    let is : part ≡ h.values = h.room ∙ ap (λ (r : List ℤ). h.values ++ r) none ∙ append-nil h.values in
    record {
      values = h.values;
      long = h.long ∙ e;
      steps = λ k m. h.steps k (omega (arith, e));
      room = ap (λ (r : List ℤ). r ++ drop n before) is;
    }

-- a word that no refusal holds for is there, and is steps
pub taken_some : Taken [] → ⊥
taken_some (inl a) = omega (arith, a.1)
taken_some (inr a) = a.0 empty_number

pub word_there : (s t : List ℕ) (r : Option (Bor (List ℕ))) → MatchOption r (words_in s ≡ []) (λ w. NextAs s w.now t) → (words_in s ≡ [] → ⊥) → IsSome r
word_there s t None n f = absurd (f n)
word_there s t (Some w) n f = refl

pub taken_steps : {word : List ℕ} (q : Result ℤ Refusal) → NumberReadAs word (number_read_of q) → Taken word → (z : ℤ) × (q ≡ Ok z) × InSteps word z
taken_steps (Ok z) h t = (z, refl, h.steps refl)
taken_steps {word} (Err r) h t = absurd (omega (arith, number_some r, lowest_once (word_refusals word) h.number t))

-- ---- the answer, part by part
module _ {text : List ℕ} {before : List ℤ} where
  stays_refused : (r : Refusal) → Lowest (off_refusals text before) (number_of r) → OffReadAs text before before (off_read_of (Err r))
  stays_refused r h =
      let f : number_of r ≡ Limits.done → ⊥ = λ e. omega (arith, e, number_some r) in
      record { number = h; layout = λ e. absurd (f e); written = λ e. absurd (f e); stays = λ _. (refl, refl) }

  pub comma_refused_lem : CommaOutside text → OffReadAs text before before (off_read_of (Err CommaRefused))
  comma_refused_lem c = stays_refused CommaRefused (inl (c, refl))

  module _ (c : CommaOutside text → ⊥) where
    -- bad text, or a number of a corner that is refused
    pub text_refused : (r : Refusal) → LayoutAs text (Err r) → OffReadAs text before before (off_read_of (Err r))
    text_refused r h = go (ℕ_discrete (number_of r) Limits.bad_text)
      where
        numbers : IsOff text → Lowest (number_refusals (corner_numbers text) (after_counts text)) (number_of r) → Lowest (off_refusals text before) (number_of r)
        numbers o (inl a) = inr (c, inr ((λ g. g o), inl a))
        numbers o (inr (a, inl b)) = inr (c, inr ((λ g. g o), inr (a, inl b)))
        numbers o (inr (a, inr b)) = absurd (omega (arith, b.1, number_some r))

        go : Dec (number_of r ≡ Limits.bad_text) → OffReadAs text before before (off_read_of (Err r))
        go (yes e) = stays_refused r (inr (c, inl (h.bad e, e)))
        go (no n) = let j = h.good n in stays_refused r (numbers j.off j.judged.lowest)

    -- nothing of the text is refused, and the room decides
    pub text_fills : {l : Layout} {after : List ℤ} {r : OffRead} → LayoutAs text (Ok l) → FillsAs l.corners (words_in l.numbers.now) before after r → OffReadAs text before after r
    text_fills {l} {after} {r} h g = record { number = room j.judged.lowest; layout = λ _. j.off; written = told.written; stays = told.stays }
      where
        j : TextJudged text Limits.done
        j = h.good (λ e. omega (arith, e))

        told : FillsAs (corner_count text) (after_counts text) before after r
        told = subst (λ (k : ℕ). FillsAs k (after_counts text) before after r) h.read.corners (subst (λ (w : List (List ℕ)). FillsAs l.corners w before after r) h.read.words g)

        room : Lowest (number_refusals (corner_numbers text) (after_counts text)) 0 → Lowest (off_refusals text before) r.number
        room (inl a) = absurd (omega (arith, a.1))
        room (inr (a, inl b)) = absurd (omega (arith, b.1))
        room (inr (a, inr b)) = inr (c, inr ((λ f. f j.off), inr (a, inr (b.0, told.number))))

-- where no number is refused, the second pass may write them
pub may_fill : {text : List ℕ} {l : Layout} → LayoutAs text (Ok l) → EachWord Taken (3 * l.corners) (words_in l.numbers.now)
may_fill {text} {l} h =
    let j = h.good (λ e. omega (arith, e)) in
    subst (λ (k : ℕ). EachWord Taken (3 * k) (words_in l.numbers.now)) (sym h.read.corners) (subst (EachWord Taken (corner_numbers text)) (sym h.read.words) (j.judged.taken refl))

-- ---- determinacy
pub off_read_once : {text : List ℕ} {before after last : List ℤ} {r t : OffRead} → OffReadAs text before after r → OffReadAs text before last t → (r ≡ t) × (after ≡ last)
off_read_once {text} {before} {after} {last} {r} {t} h k =
    let e : r.number ≡ t.number = lowest_once (off_refusals text before) h.number k.number in
    let both : (after ≡ last) × (r.count ≡ t.count) = ⊎_elim
    (λ (z : r.number ≡ 0).
    let a = h.written z in
    let b = k.written (sym e ∙ z) in
    (written_once a.0 b.0, a.1 ∙ sym b.1))
    (λ (f : r.number ≡ 0 → ⊥).
    let a = h.stays f in
    let b = k.stays (λ z. f (e ∙ z)) in
    (a.0 ∙ sym b.0, a.1 ∙ sym b.1)) (zero_or r.number) in
    (λ i. record { number = e i; count = both.1 i }, both.0)

-- and so are two answers themselves
pub answer_once : {text : List ℕ} {before after last : List ℤ} (q r : Result ℕ Refusal) → OffReadAs text before after (off_read_of q) → OffReadAs text before last (off_read_of r)
    → (q ≡ r) × (after ≡ last)
answer_once (Ok m) (Ok n) h k = let e = off_read_once h k in (ap Ok (ap (λ (a : OffRead). a.count) e.0), e.1)
answer_once (Err q) (Err r) h k = let e = off_read_once h k in (ap Err (number_once q r (ap (λ (a : OffRead). a.number) e.0)), e.1)
answer_once (Ok m) (Err r) h k = absurd (omega (arith, number_some r, ap (λ (a : OffRead). a.number) (off_read_once h k).0))
answer_once (Err q) (Ok n) h k = absurd (omega (arith, number_some q, ap (λ (a : OffRead). a.number) (off_read_once h k).0))

-- ---- as many numbers as are counted stand in the room
pub read_within : {text : List ℕ} {before after : List ℤ} {r : OffRead} → OffReadAs text before after r → r.number ≡ Limits.done → length after ≡ length before → r.count ≤ length before
read_within {text} {before} {after} {r} h z l =
    let w = (h.written z).0 in
    omega (arith, (h.written z).1, w.long, l, ap length w.room, length-append w.values (drop (corner_numbers text) before), length-drop (corner_numbers text) before)

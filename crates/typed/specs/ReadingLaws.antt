-- The reading of a text from left to right is the answer that TypedLength asks for.
-- So the statement can be worked out: the answer to a given text is found by computing its reading.
use Rattle.std.specs.Prelude.{ℕ, ◌≤◌, ◌<◌, ◌+◌, ◌-◌, ◌*◌, ◌/◌, ◌^◌, ◌≡◌, get_or, drop}
use Rattle.std.proofs.Math.Path.{refl, sym, subst}
use Rattle.std.proofs.Common.{ap, ◌∙◌, inl, inr, add-one, drop-cons}
use mathlib.Core.List.{List, [], ◌∷◌, ◌++◌}
use Rattle.std.proofs.Math.Logic.{ite, if_pos, if_neg}
use Rattle.std.proofs.Math.Decide.{dec_le}
use native.Mathlib.Omega.{arith}
use Rattle.std.proofs.Math.ListN.{length}
use Rattle.std.proofs.Math.Seq.{drop-length}
use Rattle.limits.specs.Limits
use Rattle.text_digits.specs.Decimal.{Digits, number, Follows}
use Rattle.text_digits.specs.DecimalLaws.{both, digits?, leading, leading_digits, leading_split, whole_leading, rest_follows}
use Rattle.typed.specs.TypedLength.{CommaOrPoint, TypedAs, Hundredths, NotOfForm, RoundedUp, Steps, Refused, LengthAnswers}
use Rattle.typed.specs.TypedLaws.{apart, hundredths_once}
use Rattle.typed.specs.Reading.{separator?, Few, few?, Whole, whole?, judged, after_separator, after_whole, reading}

form_answers : {text : List ℕ} → NotOfForm text → LengthAnswers text (Refused Limits.length_form)
form_answers n = record { refusal = inl (n, refl); steps = λ z. absurd (omega arith); zeros = λ z. refl; named = omega arith }

rounded_up : (n : ℕ) → RoundedUp n 100 ((n + 99) / 100)
rounded_up n = record { not_below = omega arith; less_than_one_above = omega arith }

judged_answers : {text : List ℕ} (h : ℕ) → Hundredths text h → LengthAnswers text (judged h)
unfolding judged
judged_answers {text} h m = go (dec_le h Limits.most_hundredths)
  where
    go : (d : Dec (h ≤ Limits.most_hundredths)) → LengthAnswers text (ite d (Steps ((h * Limits.steps + 99) / 100)) (Refused Limits.length_range))
    go (yes l) = record {
      refusal = inr (λ n. n m.whole m.part m.typed, inr (λ o. omega (arith, o.2, hundredths_once o.1 m), refl));
      steps = λ z. (h, m, rounded_up (h * Limits.steps));
      zeros = λ z. absurd (omega arith);
      named = tt;
    }
    go (no l) = record {
      refusal = inr (λ n. n m.whole m.part m.typed, inl ((h, m, omega arith), refl));
      steps = λ z. absurd (omega arith);
      zeros = λ z. refl;
      named = omega arith;
    }

-- the text's digits at the start, and what stands after them
module _ (text : List ℕ) where
  abbrev first : List ℕ
  first = leading text

  abbrev after : List ℕ
  after = drop (length first) text

  -- what a reader finds of the form is the form
  typed_as : (rest part : List ℕ) → after ≡ rest → Whole first → Follows CommaOrPoint rest part → Digits part → length part ≤ Limits.part_digits
      → TypedAs text first part
  typed_as rest part e few f ds most = record {
    decimal = record {
      whole_digits = leading_digits text;
      whole_some = few.0.0;
      rest = rest;
      split = leading_split text ∙ ap (λ (l : List ℕ). first ++ l) e;
      follows = f;
      part_digits = ds;
    };
    whole_few = few.0.1;
    whole_plain = few.1;
    part_few = most;
  }

  -- what any typed length of this text follows its whole digits by
  typed_follows : {whole part : List ℕ} (rest : List ℕ) → after ≡ rest → TypedAs text whole part → Follows CommaOrPoint rest part
  typed_follows {whole} {part} rest e a = subst (λ (l : List ℕ). Follows CommaOrPoint l part) e (rest_follows CommaOrPoint apart a.decimal)

  separator_answers : (c : ℕ) (t : List ℕ) → after ≡ c ∷ t → Whole first → CommaOrPoint c → LengthAnswers text (after_separator (number first) t)
  unfolding after_separator
  separator_answers c t e few s = go (both (digits? t) (few? Limits.part_digits t))
    where
      part_is_lem : {part : List ℕ} → t ≡ part → 1 ≤ length part → Digits part → length part ≤ Limits.part_digits → Digits t × Few Limits.part_digits t
      part_is_lem e some ds few = subst (λ (l : List ℕ). Digits l × Few Limits.part_digits l) (sym e) (ds, (some, few))

      go : (d : Dec (Digits t × Few Limits.part_digits t))
          → LengthAnswers text (ite d (judged (number first * 100 + number t * 10 ^ (2 - length t))) (Refused Limits.length_form))
      go (yes d) = judged_answers _ (record { whole = first; part = t; typed = typed_as (c ∷ t) t e few (s, refl, d.1.0) d.0 d.1.1; value = refl })
      go (no n) = form_answers λ whole part a.
          let f = typed_follows (c ∷ t) e a in
          n (part_is_lem f.1 f.2 a.decimal.part_digits a.part_few)

  whole_answers : (rest : List ℕ) → after ≡ rest → Whole first → LengthAnswers text (after_whole (number first) rest)
  unfolding after_whole
  whole_answers [] e few =
      judged_answers (number first * 100) (record { whole = first; part = []; typed = typed_as [] [] e few refl tt (omega arith); value = omega arith })
  whole_answers (c ∷ t) e few = go (separator? c)
    where
      go : (d : Dec (CommaOrPoint c)) → LengthAnswers text (ite d (after_separator (number first) t) (Refused Limits.length_form))
      go (yes s) = separator_answers c t e few s
      go (no n) = form_answers λ whole part a. n (typed_follows (c ∷ t) e a).0

pub reading_answers : (text : List ℕ) → LengthAnswers text (reading text)
unfolding reading
reading_answers text = go (whole? (leading text))
  where
    go : (d : Dec (Whole (leading text)))
        → LengthAnswers text (ite d (after_whole (number (leading text)) (drop (length (leading text)) text)) (Refused Limits.length_form))
    go (yes few) = whole_answers text (drop (length (leading text)) text) refl few
    go (no n) = form_answers λ whole part a.
        let e = whole_leading CommaOrPoint apart a.decimal in
        n (subst (λ (l : List ℕ). Whole l) (sym e) ((a.decimal.whole_some, a.whole_few), a.whole_plain))

-- ---- the steps of the reading, each by what decides it
pub form_refused : (text : List ℕ) → (Whole (leading text) → ⊥) → Refused Limits.length_form ≡ reading text
unfolding reading
form_refused text n = sym (if_neg (whole? (leading text)) n _ _)

pub form_taken : (text : List ℕ) → Whole (leading text) → after_whole (number (leading text)) (drop (length (leading text)) text) ≡ reading text
unfolding reading
form_taken text few = sym (if_pos (whole? (leading text)) few _ _)

pub whole_ends : (whole : ℕ) (text : List ℕ) (at : ℕ) → at ≡ length text → judged (whole * 100) ≡ after_whole whole (drop at text)
unfolding after_whole
whole_ends whole text at e = rw (e, drop-length text)

module _ (whole : ℕ) (text : List ℕ) (at : ℕ) (h : at < length text) where
  pub separator_taken : CommaOrPoint (get_or text at 0) → after_separator whole (drop (at + 1) text) ≡ after_whole whole (drop at text)
  unfolding after_whole
  separator_taken s = rw (drop-cons text at 0 h, add-one) (sym (if_pos (separator? (get_or text at 0)) s _ _))

  pub separator_refused : (CommaOrPoint (get_or text at 0) → ⊥) → Refused Limits.length_form ≡ after_whole whole (drop at text)
  unfolding after_whole
  separator_refused n = rw (drop-cons text at 0 h) (sym (if_neg (separator? (get_or text at 0)) n _ _))

module _ (whole : ℕ) (t : List ℕ) where
  pub part_refused : (Digits t → Few Limits.part_digits t → ⊥) → Refused Limits.length_form ≡ after_separator whole t
  unfolding after_separator
  part_refused n = sym (if_neg (both (digits? t) (few? Limits.part_digits t)) (λ h. n h.0 h.1) _ _)

  pub part_taken : Digits t → Few Limits.part_digits t → judged (whole * 100 + number t * 10 ^ (2 - length t)) ≡ after_separator whole t
  unfolding after_separator
  part_taken ds few = sym (if_pos (both (digits? t) (few? Limits.part_digits t)) (ds, few) _ _)

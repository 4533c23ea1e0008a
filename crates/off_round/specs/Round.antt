-- THERE AND BACK (document 02, W7): "Reading what was written gives the same corners; writing what was so read gives the same bytes."
-- For every list of numbers that a shape may have: three for each of 1 to 64 corners, each within 65,536 of 0.
use Rattle.std.specs.Prelude.{ℕ, zero, suc, ◌≤◌, ◌<◌, ◌*◌, ◌≡◌, refl, List, [], ◌∷◌, ◌++◌, map, ℤ, pos, nat_abs, length, get_or, take, drop}
use Rattle.std.proofs.Common.{sym, ap, ap₂, ◌∙◌, subst, inr, arith, drop_of_length-le, ext_get_or, take_at}
use Rattle.std.proofs.lemmas.List.{length-map}
use Rattle.limits.specs.Limits
use Rattle.limits.specs.Lowest.{Lowest}
use Rattle.limits.proofs.LowestLaws.{lowest_once}
use Rattle.space.specs.Lists.{LengthFits, InReach}
use Rattle.text_digits.specs.Decimal.{number}
use Rattle.text_put.specs.Print.{digits_of}
use Rattle.text_put.specs.PrintLaws.{digits_written, written_number, digits_some}
use Rattle.off_number.specs.OffNumber.{IsNumber, Inexact, Beyond, InSteps}
use Rattle.off_number.specs.OffNumberLaws.{millionths_once, steps_once}
use Rattle.off_number.specs.Shortest.{decimal_of}
use Rattle.off_number.proofs.ShortestLaws.{decimal_steps, steps_size}
use Rattle.off_text.specs.Off.{off, words_in, word_at, IsCount, IsOff, Faces, corner_count, face_count, after_counts}
use Rattle.off_text.proofs.TextLaws.{comma_free}
use Rattle.off_read.specs.Corners.{corner_numbers, off_refusals, OffRead, OffReadAs}
use Rattle.off_write.specs.Written.{off_text}
use Rattle.off_round.specs.Words.{nought, text_words_lem, text_uncut}

-- ---- the words of the numbers
word-is : (numbers : List ℤ) (k : ℕ) → k < length numbers → word_at (map decimal_of numbers) k ≡ decimal_of (get_or numbers k (pos 0))
word-is [] k h = absurd (omega arith)
word-is (z ∷ numbers) zero h = refl
word-is (z ∷ numbers) (suc k) h = word-is numbers k (omega arith)

-- a number that steps give is exact, and in range where they are
exact_not : (z : ℤ) → Inexact (decimal_of z) → ⊥
exact_not z (b, m, x, f) =
    let s = decimal_steps z in
    f s.steps (s.exact ∙ ap (λ (n : ℕ). n * Limits.steps) (millionths_once s.is x).1)

near_not : (z : ℤ) → nat_abs z ≤ Limits.shape_reach → Beyond (decimal_of z) → ⊥
near_not z h (b, m, x, f) =
    let s = decimal_steps z in
    omega (arith, s.exact, (millionths_once s.is x).1, steps_size s, h, f)

is_number : (z : ℤ) → IsNumber (decimal_of z)
is_number z = let s = decimal_steps z in (s.minus, s.millionths, s.is)

-- ---- the counts
count-is : (n : ℕ) → IsCount (digits_of n)
count-is n = record { digits = (written_number (digits_written n)).0; some = digits_some n }

nought_is : IsCount nought
nought_is = record { digits = (record { low = omega arith; high = omega arith }, tt); some = omega arith }

no_faces : number nought ≡ 0
unfolding number
no_faces = refl

module _ (numbers : List ℤ) (fits : LengthFits (length numbers)) (near : InReach Limits.shape_reach numbers) where
  words : words_in (off_text numbers) ≡ off ∷ digits_of fits.count ∷ nought ∷ nought ∷ map decimal_of numbers
  words = text_words_lem numbers fits.count fits.is

  corner_count_lem : corner_count (off_text numbers) ≡ fits.count
  corner_count_lem = ap (λ (ws : List (List ℕ)). number (word_at ws 1)) words ∙ (written_number (digits_written fits.count)).1

  face_count_lem : face_count (off_text numbers) ≡ 0
  face_count_lem = ap (λ (ws : List (List ℕ)). number (word_at ws 2)) words ∙ no_faces

  after_counts_lem : after_counts (off_text numbers) ≡ map decimal_of numbers
  after_counts_lem = ap (drop 4) words

  pub number_count : corner_numbers (off_text numbers) ≡ length numbers
  number_count = omega (arith, corner_count_lem, fits.is)

  word_at_lem : (k : ℕ) → k < corner_numbers (off_text numbers) → word_at (after_counts (off_text numbers)) k ≡ decimal_of (get_or numbers k (pos 0))
  word_at_lem k h = ap (λ (ws : List (List ℕ)). word_at ws k) after_counts_lem ∙ word-is numbers k (omega (arith, number_count))

  near_at : (k : ℕ) → k < corner_numbers (off_text numbers) → nat_abs (get_or numbers k (pos 0)) ≤ Limits.shape_reach
  near_at k h = (near.all k (omega (arith, number_count))).abs

  -- what is written is an OFF text
  pub is_off_lem : IsOff (off_text numbers)
  is_off_lem = record {
    title = ap (λ (ws : List (List ℕ)). word_at ws 0) words;
    corners = subst IsCount (sym (ap (λ (ws : List (List ℕ)). word_at ws 1) words)) (count-is fits.count);
    faces = subst IsCount (sym (ap (λ (ws : List (List ℕ)). word_at ws 2) words)) nought_is;
    edges = subst IsCount (sym (ap (λ (ws : List (List ℕ)). word_at ws 3) words)) nought_is;
    numbers = λ k h. subst IsNumber (sym (word_at_lem k h)) (is_number (get_or numbers k (pos 0)));
    indices = subst (λ (f : ℕ). Faces (corner_count (off_text numbers)) f (drop (corner_numbers (off_text numbers)) (after_counts (off_text numbers)))) (sym face_count_lem) none;
  }
    where
      none : drop (corner_numbers (off_text numbers)) (after_counts (off_text numbers)) ≡ []
      none =
          let l : length (map decimal_of numbers) ≤ corner_numbers (off_text numbers) = omega (arith, length-map numbers decimal_of, number_count) in
          ap (drop (corner_numbers (off_text numbers))) after_counts_lem ∙ drop_of_length-le (map decimal_of numbers) l

  -- and none that is refused, in room that holds its numbers
  pub not_refused : (room : List ℤ) → length numbers ≤ length room → Lowest (off_refusals (off_text numbers) room) Limits.done
  not_refused room h =
      inr (
        comma_free (off_text numbers) (text_uncut numbers),
        inr (
          (λ f. f is_off_lem),
          inr (
            (λ a. exact_not (get_or numbers a.0 (pos 0)) (subst Inexact (word_at_lem a.0 a.1) a.2)),
            inr (
              (λ a. near_not (get_or numbers a.0 (pos 0)) (near_at a.0 a.1) (subst Beyond (word_at_lem a.0 a.1) a.2)),
              inr ((λ e. omega (arith, corner_count_lem, fits.least)), inr ((λ l. omega (arith, corner_count_lem, fits.most)), inr ((λ l. omega (arith, number_count)), refl))),
            ),
          ),
        ),
      )

  -- "Reading what was written gives the same corners"
  pub read_back : {before after : List ℤ} {r : OffRead} → length numbers ≤ length before → OffReadAs (off_text numbers) before after r
      → (r.number ≡ Limits.done) × (r.count ≡ length numbers) × (after ≡ numbers ++ drop (length numbers) before)
  read_back {before} {after} {r} h a =
      let z : r.number ≡ Limits.done = lowest_once (off_refusals (off_text numbers) before) a.number (not_refused before h) in
      let w = (a.written z).0 in
      let same : w.values ≡ numbers =
      ext_get_or (pos 0) w.values numbers (w.long ∙ number_count)
      (λ k l.
      let m : k < corner_numbers (off_text numbers) = omega (arith, w.long) in
      steps_once (subst (λ (t : List ℕ). InSteps t (get_or w.values k (pos 0))) (word_at_lem k m) (w.steps k m)) (decimal_steps (get_or numbers k (pos 0)))) in
      (z, (a.written z).1 ∙ number_count, w.room ∙ ap₂ (λ (l : List ℤ) (n : ℕ). l ++ drop n before) same number_count)

  -- "writing what was so read gives the same bytes"
  pub written_back : {before after : List ℤ} {r : OffRead} → length numbers ≤ length before → OffReadAs (off_text numbers) before after r → off_text (take r.count after) ≡ off_text numbers
  written_back {before} {after} {r} h a =
      let b = read_back h a in
      ap off_text (ap₂ take b.1 b.2 ∙ take_at numbers (drop (length numbers) before) (length numbers) refl)

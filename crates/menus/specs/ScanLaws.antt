-- Laws of a scan: how a line's start and its bytes go on from line to line, and what the scan's findings say of the lines.
-- A line is a part of its text: as many bytes as it has, from its start on.
use Rattle.std.specs.Prelude.{ℕ, zero, suc, ◌≤◌, ◌<◌, ◌+◌, ◌-◌, min, ◌≡◌, refl, List, [], ◌∷◌, ◌↔◌, get_or, take, drop}
use Rattle.std.proofs.Common.{sym, ◌∙◌, subst, inl, inr, arith, length-drop, drop_of_length-le, drop-drop}
use Rattle.std.proofs.Math.Path.{ap}
use Rattle.std.proofs.Math.Logic.{if_pos, if_neg}
use Rattle.std.proofs.Math.Decide.{dec_lt}
use Rattle.std.proofs.Math.ListN.{length, get_or-eq_default}
use Rattle.text_cut.proofs.CutLaws.{first-none, first_take, first_le, parts_last, parts_next, is_cut}
use Rattle.menus.specs.Lines.{line_byte, start_in, Line, Missing, MissingOrEmpty, Full, Text, from, Shown, of_translated, of_english, of_neither}
use Rattle.menus.specs.LineLaws.{line-is}
use Rattle.menus.specs.Scan.{lines_of, first_line, line_of, start_of}

-- ---- where line k starts
pub start_there : (s : List ℕ) (k : ℕ) → k < length (lines_of s) → start_of s k ≡ start_in (lines_of s) k
unfolding start_of
start_there s k h = if_pos (dec_lt k (length (lines_of s))) h _ _

pub start_missing : (s : List ℕ) (k : ℕ) → length (lines_of s) ≤ k → start_of s k ≡ length s
unfolding start_of
start_missing s k h = if_neg (dec_lt k (length (lines_of s))) (λ l. omega arith) _ _

-- where the first line is the whole text there is no other; and else the next lines are those of what follows its byte 10
module _ (s : List ℕ) where
  one_line : length (first_line s) ≡ length s → lines_of s ≡ first_line s ∷ []
  one_line = parts_last line_byte s

  abbrev rest : List ℕ
  rest = drop (suc (length (first_line s))) s

  more_lines : length (first_line s) < length s → lines_of s ≡ first_line s ∷ lines_of rest
  more_lines = parts_next line_byte s

  either : (P : Type 0) → (length (first_line s) ≡ length s → P) → (length (first_line s) < length s → P) → P
  either P f g = go (dec_lt (length (first_line s)) (length s))
    where
      go : Dec (length (first_line s) < length s) → P
      go (yes h) = g h
      go (no n) = f (omega (arith, first_le line_byte s))

  pub start_zero : start_of s 0 ≡ 0
  unfolding start_in
  start_zero = either (start_of s 0 ≡ 0) (λ e. start_there s 0 (omega (arith, ap length (one_line e)))) (λ h. start_there s 0 (omega (arith, ap length (more_lines h))))

  pub start_last : (k : ℕ) → length (first_line s) ≡ length s → start_of s (suc k) ≡ length s
  start_last k e = start_missing s (suc k) (omega (arith, ap length (one_line e)))

  pub start_next : (k : ℕ) → length (first_line s) < length s → start_of s (suc k) ≡ length (first_line s) + 1 + start_of rest k
  unfolding start_in
  start_next k h = go (dec_lt k (length (lines_of rest)))
    where
      e : lines_of s ≡ first_line s ∷ lines_of rest
      e = more_lines h

      go : Dec (k < length (lines_of rest)) → start_of s (suc k) ≡ length (first_line s) + 1 + start_of rest k
      go (yes l) = omega (arith, start_there s (suc k) (omega (arith, ap length e)), ap (λ (ls : List (List ℕ)). start_in ls (suc k)) e, start_there rest k l)
      go (no n) =
          omega (arith, start_missing s (suc k) (omega (arith, ap length e)), start_missing rest k (omega arith), length-drop (suc (length (first_line s))) s)

  first_line_lem : line_of s 0 ≡ first_line s
  first_line_lem = either (line_of s 0 ≡ first_line s) (λ e. ap (λ (ls : List (List ℕ)). get_or ls 0 []) (one_line e)) (λ h. ap (λ (ls : List (List ℕ)). get_or ls 0 []) (more_lines h))

pub start_le : (k : ℕ) (s : List ℕ) → start_of s k ≤ length s
start_le zero s = omega (arith, start_zero s)
start_le (suc k) s =
    either s (start_of s (suc k) ≤ length s)
    (λ e. omega (arith, start_last s k e))
    (λ h. omega (arith, start_next s k h, start_le k (rest s), length-drop (suc (length (first_line s))) s))

-- ---- line k is the first line of what starts there
pub line_first : (k : ℕ) (s : List ℕ) → line_of s k ≡ first_line (drop (start_of s k) s)
line_first zero s = rw (start_zero s) (first_line_lem s)
line_first (suc k) s = either s (line_of s (suc k) ≡ first_line (drop (start_of s (suc k)) s)) none (more (line_first k (rest s)))
  where
    none : length (first_line s) ≡ length s → line_of s (suc k) ≡ first_line (drop (start_of s (suc k)) s)
    none e =
        ap (λ (ls : List (List ℕ)). get_or ls (suc k) []) (one_line s e)
        ∙ sym (first-none line_byte)
        ∙ ap first_line (sym (drop_of_length-le s {i = start_of s (suc k)} (omega (arith, start_last s k e))))

    more : line_of (rest s) k ≡ first_line (drop (start_of (rest s) k) (rest s)) → length (first_line s) < length s → line_of s (suc k) ≡ first_line (drop (start_of s (suc k)) s)
    more l h =
        let n : suc (length (first_line s)) + start_of (rest s) k ≡ start_of s (suc k) = omega (arith, start_next s k h) in
        ap (λ (ls : List (List ℕ)). get_or ls (suc k) []) (more_lines s h)
        ∙ l
        ∙ ap first_line (drop-drop (start_of (rest s) k) (suc (length (first_line s))) s ∙ ap (λ (j : ℕ). drop j s) n)

-- ---- a scan's findings as a part of the text: a is where line k starts, e is past its last byte
module _ (s : List ℕ) (k a e : ℕ) (ha : a ≡ start_of s k) (he : e ≡ min a (length s) + length (first_line (drop a s))) where
  pub start_in_lem : a ≤ length s
  start_in_lem = omega (arith, start_le k s)

  first-is : first_line (drop a s) ≡ line_of s k
  first-is = rw ha (sym (line_first k s))

  pub part_is_lem : take (e - a) (drop a s) ≡ line_of s k
  part_is_lem =
      let d : e - a ≡ length (first_line (drop a s)) = omega (arith, start_in_lem) in
      rw d (first_take line_byte (drop a s) ∙ first-is)

  pub part_length : length (line_of s k) ≡ e - a
  part_length = omega (arith, start_in_lem, ap length first-is)

-- ---- a scan's findings as statements of the lines
module _ (s : List ℕ) (k : ℕ) where
  pub line_there : k < length (lines_of s) → Line s k (start_of s k) (line_of s k)
  line_there h = record { lines = lines_of s; cut = is_cut line_byte s; there = h; starts = start_there s k h; bytes = refl }

  pub line_missing : length (lines_of s) ≤ k → Missing s k
  line_missing h = record { lines = lines_of s; cut = is_cut line_byte s; few = h }

  -- bytes are found only where the line is
  found_there : 0 < length (line_of s k) → k < length (lines_of s)
  found_there f = go (dec_lt k (length (lines_of s)))
    where
      go : Dec (k < length (lines_of s)) → k < length (lines_of s)
      go (yes h) = h
      go (no n) = absurd (omega (arith, ap length (get_or-eq_default (lines_of s) [] {n = k} (omega arith))))

  pub found_full : (0 < length (line_of s k)) ↔ Full s k
  found_full = (λ f. (start_of s k, line_of s k, line_there (found_there f), f), λ f. omega (arith, f.3, ap length (line-is f.2).2))

  pub unfound : (Full s k → ⊥) → MissingOrEmpty s k
  unfound n = go (dec_lt k (length (lines_of s))) (line_of s k) refl
    where
      go : Dec (k < length (lines_of s)) → (l : List ℕ) → line_of s k ≡ l → MissingOrEmpty s k
      go (yes h) [] e = inr (start_of s k, subst (λ (l : List ℕ). Line s k (start_of s k) l) e (line_there h))
      go (yes h) (b ∷ l) e = absurd (n (found_full.0 (omega (arith, ap length e))))
      go (no h) l e = inl (line_missing (omega arith))

-- ---- what is handed back: the part that a scan finds of either text
module _ (t e : Text) (k : ℕ) {r : Text} where
  pub shown_translated : Full t.now k → r.now ≡ line_of t.now k → r.ref_ptr ≡ from t (start_of t.now k) → Shown t e k r
  shown_translated f b p =
      let h = (found_full t.now k).1 f in
      of_translated (start_of t.now k) (subst (Line t.now k (start_of t.now k)) (sym b) (line_there t.now k (found_there t.now k h))) (omega (arith, ap length b)) p

  pub shown_english : (Full t.now k → ⊥) → r.now ≡ line_of e.now k → r.ref_ptr ≡ from e (start_of e.now k) → Shown t e k r
  shown_english n b p = go (dec_lt k (length (lines_of e.now)))
    where
      go : Dec (k < length (lines_of e.now)) → Shown t e k r
      go (yes h) = of_english (start_of e.now k) (unfound t.now k n) (subst (Line e.now k (start_of e.now k)) (sym b) (line_there e.now k h)) p
      go (no h) =
          let m : length (lines_of e.now) ≤ k = omega arith in
          of_neither (unfound t.now k n) (line_missing e.now k m) (b ∙ get_or-eq_default (lines_of e.now) [] m) (p ∙ ap (from e) (start_missing e.now k m))

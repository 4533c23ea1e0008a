-- Laws of lines: a text is cut in one way, so it has one line k or none.
-- So two parts that are allowed for the same texts and number are the same part (`shown_once`).
use Rattle.std.specs.Prelude.{ℕ, ◌≤◌, ◌<◌, ◌≡◌, refl, List, [], Bool, true, false, ◌↔◌, length, get_or}
use Rattle.std.proofs.Common.{sym, ap, ◌∙◌, subst, inl, inr, arith}
use Rattle.text_cut.proofs.CutLaws.{cut_is}
use Rattle.menus.specs.Lines.{line_byte, start_in, Line, Missing, MissingOrEmpty, Text, from, Shown, of_translated, of_english, of_neither}
use Rattle.menus.specs.Scan.{lines_of}

-- ---- one line k, or none
pub line-is : {s : List ℕ} {k start : ℕ} {line : List ℕ} → Line s k start line → (k < length (lines_of s)) × (start ≡ start_in (lines_of s) k) × (line ≡ get_or (lines_of s) k [])
line-is {s} {k} {start} {line} l =
    subst (λ (ls : List (List ℕ)). (k < length ls) × (start ≡ start_in ls k) × (line ≡ get_or ls k [])) (cut_is line_byte l.cut) (l.there, l.starts, l.bytes)

pub line_once : {s : List ℕ} {k a b : ℕ} {l m : List ℕ} → Line s k a l → Line s k b m → (a ≡ b) × (l ≡ m)
line_once p q = ((line-is p).1 ∙ sym (line-is q).1, (line-is p).2 ∙ sym (line-is q).2)

pub missing_is : {s : List ℕ} {k : ℕ} → Missing s k → length (lines_of s) ≤ k
missing_is {s} {k} m = subst (λ (ls : List (List ℕ)). length ls ≤ k) (cut_is line_byte m.cut) m.few

pub not_both : {s : List ℕ} {k start : ℕ} {line : List ℕ} → Line s k start line → Missing s k → ⊥
not_both l m = omega (arith, (line-is l).0, missing_is m)

pub full_or : {s : List ℕ} {k start : ℕ} {line : List ℕ} → Line s k start line → 0 < length line → MissingOrEmpty s k → ⊥
full_or l f (inl m) = not_both l m
full_or l f (inr e) = omega (arith, ap length (line_once l e.1).1)

-- ---- two parts that are allowed are the same part
module _ {t e : Text} {k : ℕ} where
  pub shown_once : (q r : Text) → Shown t e k q → Shown t e k r → (q.now ≡ r.now) × (q.ref_ptr ≡ r.ref_ptr)
  shown_once q r (of_translated i a f p) (of_translated j b g s) = ((line_once a b).1, p ∙ ap (from t) (line_once a b).0 ∙ sym s)
  shown_once q r (of_translated i a f p) (of_english j m b s) = absurd (full_or a f m)
  shown_once q r (of_translated i a f p) (of_neither m b z s) = absurd (full_or a f m)
  shown_once q r (of_english i m a p) (of_translated j b g s) = absurd (full_or b g m)
  shown_once q r (of_english i m a p) (of_english j n b s) = ((line_once a b).1, p ∙ ap (from e) (line_once a b).0 ∙ sym s)
  shown_once q r (of_english i m a p) (of_neither n b z s) = absurd (not_both a b)
  shown_once q r (of_neither m a y p) (of_translated j b g s) = absurd (full_or b g m)
  shown_once q r (of_neither m a y p) (of_english j n b s) = absurd (not_both b a)
  shown_once q r (of_neither m a y p) (of_neither n b z s) = (y ∙ sym z, p ∙ sym s)

-- two answers that say whether P are equal
pub whether_once : {P : Type 0} (q r : Bool) → (q ≡ true) ↔ P → (r ≡ true) ↔ P → q ≡ r
whether_once true r a b = sym (b.1 (a.0 refl))
whether_once false true a b = a.1 (b.0 refl)
whether_once false false a b = refl

-- Laws of what a line with a file asks: the corners that the reader wrote behind the room's first cell are those behind the first number.
-- And the second word of a line, as it was read, is the shape's.
use Rattle.std.specs.Prelude.{ℕ, ◌+◌, ◌*◌, ◌≤◌, ◌<◌, min, ◌≡◌, List, [], ◌∷◌, ◌++◌, ℤ, pos, length, take, drop, get_or, Some}
use Rattle.std.proofs.Common.{sym, ap, ◌∙◌, subst, append_assoc, add-one, arith}
use Rattle.std.proofs.Math.Seq.{take-append_seam}
use Rattle.limits.specs.Limits
use Rattle.limits.specs.Lowest.{Lowest}
use Rattle.scans_stl.specs.Stl.{numbers_of}
use Rattle.scans_stl_corners.specs.Kept.{kept_of, whole_refusals, ShapeRead, ShapeReadAs}
use Rattle.scans_stl_corners.specs.WithinLaws.{numbers_long}
use Rattle.off_number.specs.OffNumber.{InSteps}
use Rattle.off_text.specs.Off.{word_at, after_counts}
use Rattle.off_read.specs.Corners.{corner_numbers, off_refusals, OffRead, OffReadAs}
use Rattle.text_number.specs.Numbers.{Reads}
use Rattle.text_words.specs.Words.{first_word}
use Rattle.line.specs.Behind.{behind}
use Rattle.line.specs.BehindLaws.{words_are, next-is, behind_some}
use Rattle.line_file.specs.Requests.{NamesShape, ReadStl, ReadOff, OfFile, Requests}
use Rattle.line.specs.declared.kinds.FileKind.{FileKind}
use Rattle.line_file.specs.declared.Request.{Request}
use Rattle.line_file.specs.declared.Request.TheVariants.{Load, Refused, Bad}

-- the numbers behind the first, of as many as were written and one more
behind_cell : (xs kept rest : List ℤ) {n : ℕ} → 1 ≤ length xs → n ≡ length kept + 1 → drop 1 (take n (take 1 xs ++ (kept ++ rest))) ≡ kept
behind_cell [] kept rest h e = absurd (omega arith)
behind_cell (x ∷ xs) kept rest h e = ap (λ (j : ℕ). drop 1 (take j (x ∷ (kept ++ rest)))) (e ∙ add-one (length kept)) ∙ take-append_seam kept rest

-- the room afterwards: its first cell, what the reader left in the cells behind that, and nothing or more
pub written_behind : (file : List ℕ) (numbers part : List ℤ) {after : List ℤ} (more : List ℤ) {r : ShapeRead} → ShapeReadAs file part after r → r.number ≡ Limits.done → 1 ≤ length numbers
    → ReadStl (drop 1 (take (r.count + 1) (take 1 numbers ++ (after ++ more))))
written_behind file numbers part {after} more {r} h z l =
    let f = h.filled z in
    let kept = numbers_of (kept_of file) in
    let rest = drop (3 * length (kept_of file)) part in
    let e : r.count + 1 ≡ length kept + 1 = omega (arith, f.counted, numbers_long (kept_of file)) in
    let whole : after ++ more ≡ kept ++ (rest ++ more) = ap (λ (l : List ℤ). l ++ more) f.room ∙ append_assoc kept rest more in
    record {
      file = file;
      room = part;
      taken = subst (Lowest (whole_refusals file part)) z h.number;
      kept = ap (λ (l : List ℤ). drop 1 (take (r.count + 1) (take 1 numbers ++ l))) whole ∙ behind_cell numbers kept (rest ++ more) l e;
    }

-- the same of an OFF text
pub text_behind : (text : List ℕ) (numbers part : List ℤ) {after : List ℤ} (more : List ℤ) {r : OffRead} → OffReadAs text part after r → r.number ≡ Limits.done → 1 ≤ length numbers
    → ReadOff (drop 1 (take (r.count + 1) (take 1 numbers ++ (after ++ more))))
text_behind text numbers part {after} more {r} h z l =
    let w = (h.written z).0 in
    let n = corner_numbers text in
    let e : r.count + 1 ≡ length w.values + 1 = omega (arith, (h.written z).1, w.long) in
    let whole : after ++ more ≡ w.values ++ (drop n part ++ more) = ap (λ (l : List ℤ). l ++ more) w.room ∙ append_assoc w.values (drop n part) more in
    let are : drop 1 (take (r.count + 1) (take 1 numbers ++ (after ++ more))) ≡ w.values =
    ap (λ (l : List ℤ). drop 1 (take (r.count + 1) (take 1 numbers ++ l))) whole ∙ behind_cell numbers w.values (drop n part ++ more) l e in
    record {
      text = text;
      room = part;
      taken = subst (Lowest (off_refusals text part)) z h.number;
      layout = h.layout z;
      long = ap length are ∙ w.long;
      steps = λ k m. subst (λ (l : List ℤ). InSteps (word_at (after_counts text) k) (get_or l k (pos 0))) (sym are) (w.steps k m);
    }

-- ---- the shape that a line names
-- its second word, which ends before the line does
pub names_shape : (line : List ℕ) (end next : ℕ) {word : List ℕ} {s : ℤ} → end ≡ length (first_word line) → end < length line
    → next ≡ min (end + 1) (length line) + length (first_word (drop (end + 1) line)) → next < length line → word ≡ first_word (drop (end + 1) line) → Reads word (Some s) → NamesShape line s
names_shape line end next {word} {s} e h n l w r =
    let back = drop (next + 1) line in
    let path : behind line next ≡ first_word back ∷ behind back (length (first_word back)) = behind_some line next l ∙ words_are back in
    record {
      command = first_word line;
      number = word;
      path = behind line next;
      words = words_are line
          ∙ ap (λ (k : ℕ). first_word line ∷ behind line k) (sym e)
          ∙ ap (λ (ws : List (List ℕ)). first_word line ∷ ws) (next-is line end next h n ∙ ap (λ (v : List ℕ). v ∷ behind line next) (sym w));
      some = omega (arith, ap length path);
      reads = r;
    }

pub requests_file : (kind : FileKind) (line : List ℕ) (numbers : List ℤ) (shape : ℤ) (r : Request) → NamesShape line shape → OfFile kind shape numbers r → Requests kind line numbers r
requests_file kind line numbers shape (Load s n) h k = (subst (NamesShape line) (sym k.0) h, k.1)
requests_file kind line numbers shape (Refused number) h k = tt
requests_file kind line numbers shape Bad h k = tt

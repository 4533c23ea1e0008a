-- `text_words::read_numbers` meets its contract. The invariant: the words before the place are numbers, and they stand in the room (`Done`).
-- The measure is what is left of the line, with its end.
use Prim.Native.Nat.{ℕ, suc, ◌≤◌, ◌+◌, ◌-◌, min}
use mathlib.Core.Path.{◌≡◌, refl, sym, ap, ◌∙◌, subst}
use mathlib.Core.List.{List, [], ◌∷◌}
use native.Mathlib.Decide.{ℕ_discrete}
use native.Mathlib.Omega.{arith}
use lib.IntN.{ℤ}
use lib.ListN.{length, take, drop, length-set, length-drop, drop_of_length-le}
use lib.Seq.{drop-drop}
use mir.Syntax.{w32}
use mir.Val.{to_z, of_z}
use mir.Facts.{to_z-of_z}
use Rattle.ints.specs.Bounds.{fits_in}
use Rattle.text_number.specs.Numbers.{Reads}
use Rattle.text_number.specs.NumberLaws.{empty_bad}
use Rattle.text_words.specs.Words.{space_byte, first_word, words_of}
use Rattle.text_cut.proofs.CutLaws.{first_le, first_take, parts_none, parts_last, parts_next}
use Rattle.text_words.specs.ReadLaws.{done_none, done_length, done_bad, done_full, done_more, done_last}
use Rattle.std.specs.Prelude.{Option, Some}
use Rattle.text_words.proofs.read_numbers.Goals as goal

-- the word at a place, and where it ends
module _ (line : List ℕ) (at end : ℕ) (here : at ≤ length line) (e : end ≡ min at (length line) + length (first_word (drop at line))) where
  abbrev word : List ℕ
  word = take (end - at) (drop at line)

  pub ends : (at ≤ end) × (end ≤ length line)
  ends = (omega arith, omega (arith, first_le space_byte (drop at line), length-drop at line))

  pub is_first : word ≡ first_word (drop at line)
  is_first = let n : end - at ≡ length (first_word (drop at line)) = omega arith in ap (λ (k : ℕ). take k (drop at line)) n ∙ first_take space_byte (drop at line)

  pub last : end ≡ length line → words_of (drop at line) ≡ word ∷ []
  last l = parts_last space_byte (drop at line) (omega (arith, length-drop at line)) ∙ ap (λ (w : List ℕ). w ∷ []) (sym is_first)

  pub next : (end ≡ length line → ⊥) → words_of (drop at line) ≡ word ∷ words_of (drop (end + 1) line)
  next l =
      let k : at + suc (length (first_word (drop at line))) ≡ end + 1 = omega arith in
      parts_next space_byte (drop at line) (omega (arith, length-drop at line, ends.1, l))
      ∙ ap (λ (t : List ℕ). first_word (drop at line) ∷ words_of t) (drop-drop (suc (length (first_word (drop at line)))) at line ∙ ap (λ (j : ℕ). drop j line) k)
      ∙ ap (λ (w : List ℕ). w ∷ words_of (drop (end + 1) line)) (sym is_first)

  pub some : (rest : List (List ℕ)) × (words_of (drop at line) ≡ word ∷ rest)
  some = go (ℕ_discrete end (length line))
    where
      go : Dec (end ≡ length line) → (rest : List (List ℕ)) × (words_of (drop at line) ≡ word ∷ rest)
      go (yes l) = ([], last l)
      go (no l) = (words_of (drop (end + 1) line), next l)

pub loop-at-init : goal.loop-at-init
loop-at-init c = done_none (drop c.args.start c.args.line.now) c.args.room.now

pub word_end-end-requires : goal.word_end-end-requires
word_end-end-requires c = tt

-- the word that was read, the number that it is, and that its cell keeps it
stored : (w : List ℕ) (r : Option ℤ) (v : ℤ) → r ≡ Some v → Reads w r → Reads w (Some (to_z w32 (of_z w32 v)))
stored w r v e h =
    let k : Reads w (Some v) = subst (Reads w) e h in
    subst (λ (z : ℤ). Reads w (Some z)) (sym (to_z-of_z (fits_in w32 v 2147483648 2147483647 k.1 (omega arith) (omega arith)))) k

pub shape_of-room-in_err-v : goal.shape_of-room-in_err-v
shape_of-room-in_err-v c = done_length c.loop-at.invariant

pub returns-in_err-v : goal.returns-in_err-v
returns-in_err-v c =
    let s = c.args.line.now in
    let w = word s c.loop-at.at c.word_end-end.result c.loop-at-test.true c.word_end-end.ensures.place in
    let k = some s c.loop-at.at c.word_end-end.result c.loop-at-test.true c.word_end-end.ensures.place in
    rw c.from_residual.ensures (done_bad c.loop-at.invariant w k.0 k.1 c.in_err-v.ensures)

pub shape_of-room-then-room-n : goal.shape_of-room-then-room-n
shape_of-room-then-room-n c = done_length c.loop-at.invariant

pub returns-then-room-n : goal.returns-then-room-n
returns-then-room-n c =
    let some_at : (rest : List (List ℕ)) × (words_of (drop c.loop-at.at c.args.line.now) ≡ word c.args.line.now c.loop-at.at c.word_end-end.result c.loop-at-test.true c.word_end-end.ensures.place ∷ rest) = some c.args.line.now c.loop-at.at c.word_end-end.result c.loop-at-test.true c.word_end-end.ensures.place in
    let d = c.loop-at.invariant in
    done_full d (word c.args.line.now c.loop-at.at c.word_end-end.result c.loop-at-test.true c.word_end-end.ensures.place) (some_at).0 (some_at).1 (omega (arith, c.if-room-n.true, done_length d))

pub offset_bounds-room-n : goal.offset_bounds-room-n
offset_bounds-room-n c = omega (arith, c.well_formed)

pub bounds-room-n : goal.bounds-room-n
bounds-room-n c = c.if-room-n.false

pub overflow_add-n : goal.overflow_add-n
overflow_add-n c =
    omega (arith, c.well_formed, done_length c.loop-at.invariant)

pub shape_of-room-then-end-line : goal.shape_of-room-then-end-line
shape_of-room-then-end-line c = length-set c.loop-at.room c.loop-at.n _ ∙ done_length c.loop-at.invariant

pub returns-then-end-line : goal.returns-then-end-line
returns-then-end-line c =
    let value_of : Reads (word c.args.line.now c.loop-at.at c.word_end-end.result c.loop-at-test.true c.word_end-end.ensures.place) (Some (to_z w32 (of_z w32 c.in_ok-v.v))) =
    stored (word c.args.line.now c.loop-at.at c.word_end-end.result c.loop-at-test.true c.word_end-end.ensures.place) c.read_number.result c.in_ok-v.v c.in_ok-v.was
    c.read_number.ensures in
    let d = c.loop-at.invariant in
    let e = last c.args.line.now c.loop-at.at c.word_end-end.result c.loop-at-test.true c.word_end-end.ensures.place c.if-end-line.true in
    done_last d (word c.args.line.now c.loop-at.at c.word_end-end.result c.loop-at-test.true c.word_end-end.ensures.place) _ e (value_of) (omega (arith, c.if-room-n.false, done_length d))

pub overflow_add-at : goal.overflow_add-at
overflow_add-at c =
    let ends_at : (c.loop-at.at ≤ c.word_end-end.result) × (c.word_end-end.result ≤ length c.args.line.now) = ends c.args.line.now c.loop-at.at c.word_end-end.result c.loop-at-test.true c.word_end-end.ensures.place in
    omega (arith, (ends_at).1, c.well_formed)

pub loop-at-smaller : goal.loop-at-smaller
loop-at-smaller c =
    let ends_at : (c.loop-at.at ≤ c.word_end-end.result) × (c.word_end-end.result ≤ length c.args.line.now) = ends c.args.line.now c.loop-at.at c.word_end-end.result c.loop-at-test.true c.word_end-end.ensures.place in
    omega (arith, (ends_at).0, c.loop-at-test.true)

pub loop-at-preserved : goal.loop-at-preserved
loop-at-preserved c =
    let value_of : Reads (word c.args.line.now c.loop-at.at c.word_end-end.result c.loop-at-test.true c.word_end-end.ensures.place) (Some (to_z w32 (of_z w32 c.in_ok-v.v))) =
    stored (word c.args.line.now c.loop-at.at c.word_end-end.result c.loop-at-test.true c.word_end-end.ensures.place) c.read_number.result c.in_ok-v.v c.in_ok-v.was
    c.read_number.ensures in
    let d = c.loop-at.invariant in
    let e = next c.args.line.now c.loop-at.at c.word_end-end.result c.loop-at-test.true c.word_end-end.ensures.place c.if-end-line.false in
    done_more d (word c.args.line.now c.loop-at.at c.word_end-end.result c.loop-at-test.true c.word_end-end.ensures.place) (drop (c.word_end-end.result + 1) c.args.line.now) _ e (value_of) (omega (arith, c.if-room-n.false, done_length d))

pub shape_of-room : goal.shape_of-room
shape_of-room c = done_length c.loop-at.invariant

pub returns : goal.returns
returns c =
    let s = c.args.line.now in
    let e : drop c.loop-at.at s ≡ [] = drop_of_length-le s {i = c.loop-at.at} (omega (arith, c.loop-at-test.false)) in
    done_bad c.loop-at.invariant [] [] (ap words_of e ∙ parts_none space_byte) (empty_bad {word = []} refl)

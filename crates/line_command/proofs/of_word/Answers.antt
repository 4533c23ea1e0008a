-- `line_command::of_word` meets its contract: the number of a name, `spoil` behind them, and else it is a word of the desk or none.
use Rattle.std.specs.Prelude.{ℕ, ◌+◌, ◌-◌, ◌<◌, ◌≡◌, refl, List, [], ◌∷◌, ◌++◌}
use Rattle.std.proofs.Common.{subst, inl, inr, arith}
use Rattle.std.proofs.Math.Decide.{dec_lt, ℕ_discrete}
use Rattle.text_cut.specs.Cuts.{parts_of}
use Rattle.line.specs.Behind.{behind, Finds, NotIn}
use Rattle.line.specs.Named.{NameOf, names_of, value_of}
use Rattle.line.specs.NamedLaws.{named_in, named_past, name_zero, name_not}
use Rattle.line_command.specs.Names.{length_word, line_word, lists_word, scan_word, show_word, blank_word, room_word, lend_word, stl_word, triangle_word, off_word, load_stl_word, load_off_word, save_off_word, spoil_word}
use Rattle.line_command.specs.Lines.{unknown, other_words}
use Rattle.line_command.specs.declared.Line.{Line}
use Rattle.line_command.proofs.of_word.Goals as goal

-- the text of the names, a space before each
abbrev text : List ℕ
text = 32 ∷ length_word ++ 32 ∷ line_word ++ 32 ∷ lists_word ++ 32 ∷ scan_word ++ 32 ∷ show_word ++ 32 ∷ blank_word ++ 32 ∷ room_word ++ 32 ∷ lend_word ++ 32 ∷ stl_word ++ 32 ∷ triangle_word ++ 32 ∷ off_word ++ 32 ∷ load_stl_word ++ 32 ∷ load_off_word ++ 32 ∷ save_off_word ++ 32 ∷ spoil_word

module _ {word : List ℕ} {r : ℕ} (h : NameOf word (behind text 0) r) where
  -- the names stand in the text as the table has them, and `spoil` behind them
  named : NameOf word (names_of other_words ++ spoil_word ∷ []) r
  unfolding behind parts_of dec_lt ℕ_discrete
  named = h

  other : (k : ℕ) {l : Line} → r ≡ k → k < 14 → l ≡ value_of other_words unknown k → Finds word other_words (λ _. ⊥) l
  other k e l f = rw f (named_in word other_words (spoil_word ∷ []) (λ _. ⊥) unknown k (subst (NameOf word (names_of other_words ++ spoil_word ∷ [])) e named) l)

  past : (m : ℕ) → r ≡ 14 + m → NotIn word other_words × NameOf word (spoil_word ∷ []) m
  past m e = named_past word other_words (spoil_word ∷ []) r m e named

pub returns-in-0 : goal.returns-in-0
returns-in-0 c = inl (refl, other c.name_of.ensures 0 c.in-0.is (omega arith) refl)

pub returns-in-1 : goal.returns-in-1
returns-in-1 c = inl (refl, other c.name_of.ensures 1 c.in-1.is (omega arith) refl)

pub returns-in-2 : goal.returns-in-2
returns-in-2 c = inl (refl, other c.name_of.ensures 2 c.in-2.is (omega arith) refl)

pub returns-in-3 : goal.returns-in-3
returns-in-3 c = inl (refl, other c.name_of.ensures 3 c.in-3.is (omega arith) refl)

pub returns-in-4 : goal.returns-in-4
returns-in-4 c = inl (refl, other c.name_of.ensures 4 c.in-4.is (omega arith) refl)

pub returns-in-5 : goal.returns-in-5
returns-in-5 c = inl (refl, other c.name_of.ensures 5 c.in-5.is (omega arith) refl)

pub returns-in-6 : goal.returns-in-6
returns-in-6 c = inl (refl, other c.name_of.ensures 6 c.in-6.is (omega arith) refl)

pub returns-in-7 : goal.returns-in-7
returns-in-7 c = inl (refl, other c.name_of.ensures 7 c.in-7.is (omega arith) refl)

pub returns-in-8 : goal.returns-in-8
returns-in-8 c = inl (refl, other c.name_of.ensures 8 c.in-8.is (omega arith) refl)

pub returns-in-9 : goal.returns-in-9
returns-in-9 c = inl (refl, other c.name_of.ensures 9 c.in-9.is (omega arith) refl)

pub returns-in-10 : goal.returns-in-10
returns-in-10 c = inl (refl, other c.name_of.ensures 10 c.in-10.is (omega arith) refl)

pub returns-in-11 : goal.returns-in-11
returns-in-11 c = inl (refl, other c.name_of.ensures 11 c.in-11.is (omega arith) refl)

pub returns-in-12 : goal.returns-in-12
returns-in-12 c = inl (refl, other c.name_of.ensures 12 c.in-12.is (omega arith) refl)

pub returns-in-13 : goal.returns-in-13
returns-in-13 c = inl (refl, other c.name_of.ensures 13 c.in-13.is (omega arith) refl)

pub returns-in-14 : goal.returns-in-14
returns-in-14 c =
    let r = past c.name_of.ensures 0 c.in-14.is in
    inr (r.0, inl (name_zero c.args.word.now spoil_word [] r.1, (c.cell_of.result, c.cell_of.ensures, refl)))

pub returns-in_default : goal.returns-in_default
returns-in_default c =
    let k = c.name_of.result - 14 in
    let e : c.name_of.result ≡ 14 + k = omega arith in
    let z : 0 < k = omega arith in
    let r = past c.name_of.ensures k e in
    inr (r.0, inr (name_not c.args.word.now spoil_word [] k z r.1, c.of_desk.ensures))

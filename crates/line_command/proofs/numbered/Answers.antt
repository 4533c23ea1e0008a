-- `line_command::numbered` meets its contract: the number of a name is the number of what it says, with the numbers behind it.
use Rattle.std.specs.Prelude.{ℕ, ◌≡◌, refl, List, ◌∷◌, ◌++◌, ℤ}
use Rattle.std.proofs.Common.{sym, subst, arith}
use Rattle.std.proofs.Math.Decide.{dec_lt, ℕ_discrete}
use Rattle.text_cut.specs.Cuts.{parts_of}
use Rattle.line.specs.Behind.{behind, Finds}
use Rattle.line.specs.Named.{NameOf, names_of, value_of}
use Rattle.line.specs.NamedLaws.{finds_named, value_past}
use Rattle.line_command.specs.Names.{load_word, place_word, move_word, remove_word, gap_word, pair_word, fresh_word, contacts_word, rows_word, tallies_word, marks_word, report_word, write_word}
use Rattle.line_command.specs.Lines.{unknown, desk_words, Unknowing}
use Rattle.line_command.specs.declared.Line.{Line}
use Rattle.line_command.proofs.numbered.Goals as goal

-- the text of the names, a space before each
abbrev text : List ℕ
text = 32 ∷ load_word ++ 32 ∷ place_word ++ 32 ∷ move_word ++ 32 ∷ remove_word ++ 32 ∷ gap_word ++ 32 ∷ pair_word ++ 32 ∷ fresh_word ++ 32 ∷ contacts_word ++ 32 ∷ rows_word ++ 32 ∷ tallies_word ++ 32 ∷ marks_word ++ 32 ∷ report_word ++ 32 ∷ write_word

-- the names stand in the text as the table has them
named : {word : List ℕ} {r : ℕ} (numbers : List ℤ) → NameOf word (behind text 0) r → NameOf word (names_of (desk_words numbers)) r
unfolding behind parts_of dec_lt ℕ_discrete
named numbers h = h

-- a word of number k says what has that number
found : {word : List ℕ} {r : ℕ} (numbers : List ℤ) (k : ℕ) {l : Line} → NameOf word (behind text 0) r → r ≡ k → l ≡ value_of (desk_words numbers) unknown k
    → Finds word (desk_words numbers) Unknowing l
found {word} {r} numbers k h e f = rw f (finds_named word (desk_words numbers) Unknowing refl k (subst (NameOf word (names_of (desk_words numbers))) e (named numbers h)))

pub returns-in-0 : goal.returns-in-0
returns-in-0 c = found c.args.numbers.now 0 c.name_of.ensures c.in-0.is c.load_of.ensures

pub returns-in-1 : goal.returns-in-1
returns-in-1 c = found c.args.numbers.now 1 c.name_of.ensures c.in-1.is c.place_of.ensures

pub returns-in-2 : goal.returns-in-2
returns-in-2 c = found c.args.numbers.now 2 c.name_of.ensures c.in-2.is c.move_of.ensures

pub returns-in-3 : goal.returns-in-3
returns-in-3 c = found c.args.numbers.now 3 c.name_of.ensures c.in-3.is c.remove_of.ensures

pub returns-in-4 : goal.returns-in-4
returns-in-4 c = found c.args.numbers.now 4 c.name_of.ensures c.in-4.is c.setting_of.ensures

pub returns-in-5 : goal.returns-in-5
returns-in-5 c = found c.args.numbers.now 5 c.name_of.ensures c.in-5.is c.pair_of.ensures

pub returns-in-6 : goal.returns-in-6
returns-in-6 c = found c.args.numbers.now 6 c.name_of.ensures c.in-6.is c.alone.ensures

pub returns-in-7 : goal.returns-in-7
returns-in-7 c = found c.args.numbers.now 7 c.name_of.ensures c.in-7.is c.alone-in-7.ensures

pub returns-in-8 : goal.returns-in-8
returns-in-8 c = found c.args.numbers.now 8 c.name_of.ensures c.in-8.is c.alone-in-8.ensures

pub returns-in-9 : goal.returns-in-9
returns-in-9 c = found c.args.numbers.now 9 c.name_of.ensures c.in-9.is c.alone-in-9.ensures

pub returns-in-10 : goal.returns-in-10
returns-in-10 c = found c.args.numbers.now 10 c.name_of.ensures c.in-10.is c.alone-in-10.ensures

pub returns-in-11 : goal.returns-in-11
returns-in-11 c = found c.args.numbers.now 11 c.name_of.ensures c.in-11.is c.alone-in-11.ensures

pub returns-in-12 : goal.returns-in-12
returns-in-12 c = found c.args.numbers.now 12 c.name_of.ensures c.in-12.is c.write_of.ensures

pub returns-in_default : goal.returns-in_default
returns-in_default c =
    let k = c.name_of.result in
    found c.args.numbers.now k c.name_of.ensures refl (sym (value_past (desk_words c.args.numbers.now) unknown k (omega arith)))

-- `line_spoil::cell_of` meets its contract: the word behind is the part's name, and the words behind that are its cell and the number.
use Rattle.std.specs.Prelude.{ℕ, ◌+◌, ◌-◌, ◌≡◌, List, pos, length, get_or, take, drop}
use Rattle.std.proofs.Common.{ap, ◌∙◌, subst, arith}
use Rattle.text_cut.proofs.CutLaws.{first_take}
use Rattle.text_words.specs.Words.{space_byte, first_word}
use Rattle.line.specs.Behind.{behind}
use Rattle.line.specs.BehindLaws.{behind_none, next-is}
use Rattle.line_spoil.specs.Cells.{CellAt}
use Rattle.line_spoil.specs.CellLaws.{cell_none, cell_stuck, cell_count, cell_two}
use Rattle.line_spoil.proofs.cell_of.Goals as goal

pub returns-then-line-end : goal.returns-then-line-end
returns-then-line-end c = let a = c.args in cell_none (behind a.line.now a.end) a.numbers.now (behind_none a.line.now a.end c.if-line-end.true)

pub returns-in_default : goal.returns-in_default
returns-in_default c =
    let a = c.args in
    let next = next-is a.line.now a.end c.word_end-name.result c.if-line-end.false c.word_end-name.ensures.place in
    cell_stuck next a.numbers.now c.numbers_behind.new.room c.in_default.ensures

pub returns-then-n-ne2 : goal.returns-then-n-ne2
returns-then-n-ne2 c =
    let a = c.args in
    let next = next-is a.line.now a.end c.word_end-name.result c.if-line-end.false c.word_end-name.ensures.place in
    cell_count next a.numbers.now c.numbers_behind.new.room c.in-Some.ensures c.if-n-ne2.true

pub returns : goal.returns
returns c =
    let a = c.args in
    let next = next-is a.line.now a.end c.word_end-name.result c.if-line-end.false c.word_end-name.ensures.place in
    let exit = c.numbers_behind.new.room in
    let s = drop (a.end + 1) a.line.now in
    let long : c.word_end-name.result - (a.end + 1) ≡ length (first_word s) = omega (arith, c.word_end-name.ensures.place, c.if-line-end.false) in
    let word : take (c.word_end-name.result - (a.end + 1)) s ≡ first_word s = ap (λ (k : ℕ). take k s) long ∙ first_take space_byte s in
    cell_two next a.numbers.now exit c.in-Some.ensures c.if-n-ne2.false
    (subst (λ (l : List ℕ). CellAt l (get_or exit 0 (pos 0)) (get_or exit 1 (pos 0)) c.of_numbers.result) word c.of_numbers.ensures)

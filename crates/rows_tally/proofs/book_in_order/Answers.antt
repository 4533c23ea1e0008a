-- `rows_tally::book_in_order`: a book is in order when its gap is in range, and it is the one that is counted afresh with that gap.
-- One book counts the rows and has that gap (`book_once`).
use Rattle.std.proofs.Common.{sym, ap, ◌∙◌, subst, arith}
use Rattle.std.specs.Cmp.Lexicographic.{same_text, other_text}
use Rattle.rows_tally.specs.Counting.{book_once, gap_order, gap_is}
use Rattle.rows_tally.specs.Sums.{counts_add_up}
use Rattle.rows_tally.specs.Tallies.{BookInOrder, gap_in}
use Rattle.rows_tally.proofs.book_in_order.Goals as goal

pub recounted-right-requires : goal.recounted-right-requires
recounted-right-requires c = c.pairs_of.ensures ∙ sym (counts_add_up c.requires)

pub returns : goal.returns
returns c =
    let g = c.gap_of-gap.ensures in
    let book = c.args.book.now in
    let none = c.recounted-right.ensures in
    let right = subst (BookInOrder c.args.rows.now) (sym c.put_gap.ensures) (gap_order (omega arith) none) in
    let same = sym g ∙ sym (gap_is none) ∙ ap gap_in (sym c.put_gap.ensures) in
    record {
      yes = λ t. subst (BookInOrder c.args.rows.now) (sym (same_text book c.put_gap.new.book (sym t ∙ c.eq.ensures))) right;
      no = λ f b. other_text book c.put_gap.new.book (sym f ∙ c.eq.ensures) (book_once b right same);
    }

-- `typed::after_whole` meets its contract: each return is one case of what may stand there.
use mathlib.Core.Bool.{true≢false}
use mathlib.Core.Path.{sym, ◌∙◌}
use borrow.Author.Rules.{rules}
use Rattle.typed.specs.ReadingLaws.{whole_ends, separator_taken, separator_refused}
use Rattle.typed.proofs.after_whole.Goals as goal

pub returns-then-at-text : goal.returns-then-at-text
returns-then-at-text c =
    let a = c.args in
    c.in_steps.ensures ∙ whole_ends a.whole a.text.now a.at c.if-at-text.true

pub returns-then-is_separator : goal.returns-then-is_separator
returns-then-is_separator c =
    let a = c.args in
    c.after_separator.ensures
    ∙ separator_taken a.whole a.text.now a.at (search rules) (c.is_separator.ensures.0 c.if-is_separator.true)

pub returns : goal.returns
returns c =
    let a = c.args in
    separator_refused a.whole a.text.now a.at (search rules) (λ s. true≢false (sym (c.is_separator.ensures.1 s) ∙ c.if-is_separator.false))

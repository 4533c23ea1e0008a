-- `menus::menu_line` meets its contract: the part of the text that `from_translated` names.
use mathlib.Core.Bool.{true≢false}
use mathlib.Core.Path.{sym, ◌∙◌}
use Rattle.menus.specs.ScanLaws.{shown_translated, shown_english}
use Rattle.menus.proofs.menu_line.Goals as goal

pub returns-then-from_translated : goal.returns-then-from_translated
returns-then-from_translated c =
    let a = c.args in
    let f = c.from_translated.ensures in
    shown_translated a.translated a.english a.k (f.0 c.if-from_translated.true) c.line.ensures.bytes c.line.ensures.place

pub returns : goal.returns
returns c =
    let a = c.args in
    let f = c.from_translated.ensures in
    shown_english a.translated a.english a.k (λ full. true≢false (sym (f.1 full) ∙ c.if-from_translated.false)) c.line-2.ensures.bytes c.line-2.ensures.place

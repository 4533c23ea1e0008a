-- `first_pass` meets its contract: the title, the counts and the body are the layout of the text (LayoutLaws).
use mathlib.Core.Path.{◌≡◌, refl}
use Rattle.std.proofs.Common.{Err}
use Rattle.std.proofs.lemmas.Result.{err_from_is_err_and}
use Rattle.limits.specs.declared.Refusal.TheVariants.{BadText}
use Rattle.off_text.specs.WalkLaws.{behind_on}
use Rattle.off_read.specs.LayoutLaws.{title_taken, no_counts, layout_is}
use Rattle.off_read.proofs.first_pass.Goals as goal

pub returns-in_err-head-clause-behind : goal.returns-in_err-head-clause-behind
returns-in_err-head-clause-behind c = let p = err_from_is_err_and c.from_residual.result c.from_residual.ensures.1 in rw p.1 tt

pub returns-in_err-head-clause-told : goal.returns-in_err-head-clause-told
returns-in_err-head-clause-told c =
    let title = title_taken c.args.text.now _ c.next_word.result c.next_word.ensures.next c.if-not-is_some_and.ensures in
    let none = rw c.in_err-head.ensures.ok_part at c.counts.ensures.told in
    let p = err_from_is_err_and c.from_residual.result c.from_residual.ensures.1 in
    let e = rw c.in_err-head.ensures.ok_part at c.in_err-head.ensures.value in
    let b : p.0 ≡ BadText = cc in
    rw (p.1, b) (record { bad = λ _. no_counts c.args.text.now title.next none; good = λ f. absurd (f refl); read = tt })

pub returns-in_err-body-clause-behind : goal.returns-in_err-body-clause-behind
returns-in_err-body-clause-behind c =
    let p = err_from_is_err_and c.from_residual-in_err-body.result c.from_residual-in_err-body.ensures.1 in rw p.1 tt

pub returns-in_err-body-clause-told : goal.returns-in_err-body-clause-told
returns-in_err-body-clause-told c =
    let title = title_taken c.args.text.now _ c.next_word.result c.next_word.ensures.next c.if-not-is_some_and.ensures in
    let head = rw c.in_ok-head.ensures.ok_part at c.counts.ensures.told in
    let p = err_from_is_err_and c.from_residual-in_err-body.result c.from_residual-in_err-body.ensures.1 in
    rw (p.1, p.2) (layout_is c.args.text.now title.next head c.in_err-body.ensures.told (Err c.in_err-body.field-0.0) refl tt title.is)

pub returns-clause-behind : goal.returns-clause-behind
returns-clause-behind c = behind_on c.next_word.ensures.behind c.counts.ensures.behind

pub returns-clause-told : goal.returns-clause-told
returns-clause-told c =
    let title = title_taken c.args.text.now _ c.next_word.result c.next_word.ensures.next c.if-not-is_some_and.ensures in
    let head = rw c.in_ok-head.ensures.ok_part at c.counts.ensures.told in
    layout_is c.args.text.now title.next head c.in_ok-body.ensures.told _ refl (refl, refl) title.is

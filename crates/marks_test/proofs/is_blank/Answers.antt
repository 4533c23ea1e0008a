-- Each is no_mark, or one is not.
use Rattle.std.proofs.Common.{refl, eqb, rules, tests}
use Rattle.std.proofs.lemmas.List.Recursion.{same_from_clauses}
use Rattle.std.proofs.lemmas.Iterator.{YieldsList-from_slice}
use Rattle.std.proofs.lemmas.Iterator.Search.{all_from_yields_List}
use Rattle.std.specs.List.{list_all}
use Rattle.std.proofs.Common.{◌∙◌, ◌&&◌}
use Rattle.limits.specs.Limits
use Rattle.marks_test.specs.Tested.{blank}
use Rattle.marks_test.proofs.is_blank.Goals as goal

pub returns : goal.returns
unfolding blank
returns c =
    let xs = c.args.part.now in
    all_from_yields_List (λ x. eqb x Limits.no_mark) _ _ c.all.result c.all.ensures.ran (YieldsList-from_slice xs cc) (λ x b q k. search (rules, tests))
    ∙ same_from_clauses (list_all (λ x. eqb x Limits.no_mark)) blank (λ x b. eqb x Limits.no_mark && b) refl (λ _ _. refl) (λ _ _. refl) xs

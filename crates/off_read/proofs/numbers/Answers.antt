-- `numbers` meets its contract: each word is there and a number, or the first that is none ends it (NumberLaws).
use Prim.Native.Nat.{ℕ, ◌+◌}
use denote.Enum.Bare.{same_true, same_false}
use mathlib.Core.Path.{◌≡◌, refl, sym, ap, ◌∙◌, subst}
use borrow.Author.Rules.{rules}
use native.Mathlib.Omega.{arith}
use Rattle.std.proofs.Common.{Err, Ok}
use Rattle.std.proofs.lemmas.Result.{err_from_is_err_and}
use Rattle.limits.specs.Limits
use Rattle.limits.specs.Refusals.{number_of, answer_number}
use Rattle.limits.specs.contracts.Refusal.{the_type}
use Rattle.limits.specs.declared.Refusal.TheVariants.{BadText}
use Rattle.limits.proofs.RefusalLaws.{number_once}
use Rattle.off_number.specs.OffNumber.{IsNumber, number_read_of, NumberReadAs}
use Rattle.off_text.specs.FaceLaws.{word-is, word_none, words_after}
use Rattle.off_text.specs.Off.{words_in}
use Rattle.off_text.specs.WalkLaws.{behind_on}
use Rattle.off_read.specs.NumberLaws.{empty_number, bad_word, lower_done, judged_more}
use Rattle.off_read.specs.Passes.{NumbersJudged}
use Rattle.off_read.proofs.numbers.Goals as goal
use Rattle.off_read.proofs.numbers.Goals.{in-Err+else-eq, in-Ok}

pub returns-in_err-word-clause-told : goal.returns-in_err-word-clause-told
returns-in_err-word-clause-told c =
    let words = words_in c.args.words.now.rest.now in
    let none = rw c.in_err-word.ensures.ok_part at c.next_word.ensures.next in
    let empty = word_none words c.loop-i.i _ c.loop-i.invariant.0 none in
    let p = err_from_is_err_and c.from_residual.result c.from_residual.ensures.1 in
    let e = rw c.in_err-word.ensures.ok_part at c.in_err-word.ensures.value in
    let b : p.0 ≡ BadText = cc in
    rw (p.1, b) (record { bad = λ _ h. empty_number (subst IsNumber empty (h c.loop-i.i c.loop-i-test.true)); good = λ f. absurd (f refl) })

pub returns-then-eq-clause-told : goal.returns-then-eq-clause-told
returns-then-eq-clause-told c =
    let words = words_in c.args.words.now.rest.now in
    let next = rw c.in_ok-word.ensures.ok_part at c.next_word.ensures.next in
    let e = word-is words c.loop-i.i _ c.loop-i.invariant.0 next in
    let same : c.in-Err.refusal ≡ BadText = same_true the_type (search rules) _ _ (sym c.if-eq.ensures) in
    let bad : number_of c.in-Err.refusal ≡ Limits.bad_text = ap number_of same in
    record { bad = λ _ h. bad_word _ c.in-Err.ensures.number bad (subst IsNumber (sym e) (h c.loop-i.i c.loop-i-test.true)); good = λ f. absurd (f bad) }

pub loop-i-preserved : goal.loop-i-preserved
loop-i-preserved c =
    let words = words_in c.args.words.now.rest.now in
    let i = c.loop-i.i in
    let next = rw c.in_ok-word.ensures.ok_part at c.next_word.ensures.next in
    let e = word-is words i _ c.loop-i.invariant.0 next in
    let judged : NumbersJudged (i + 1) words (answer_number c.match-read.found) =
    elim c.match-read.branch [
      | in-Err+else-eq w ↦ subst (λ (k : ℕ). NumbersJudged (i + 1) words k) (sym (ap answer_number w.found-is ∙ w.lower.ensures))
          (judged_more i words c.loop-i.invariant.1 (subst (λ t. NumberReadAs t (number_read_of (Err w.in-Err.refusal))) e w.in-Err.ensures)
          (λ z. same_false the_type _ _ (sym w.if-eq.ensures) (number_once _ BadText z)))
      | in-Ok w ↦ subst (λ (k : ℕ). NumbersJudged (i + 1) words k) (lower_done (answer_number c.loop-i.found) ∙ sym (ap answer_number w.found-is))
          (judged_more i words c.loop-i.invariant.1 (subst (λ t. NumberReadAs t (number_read_of (Ok w.in-Ok.field-0))) e w.in-Ok.ensures) (λ z. omega (arith, z)))
    ] in
    (words_after words i _ c.loop-i.invariant.0 next, judged, behind_on c.loop-i.invariant.2 c.next_word.ensures.behind)

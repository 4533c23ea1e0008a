-- The length, and then each axis by its own part.
use Rattle.std.proofs.Common.{sym, ◌∙◌, subst, ne_eqb}
use Rattle.std.proofs.lemmas.Bool.{false≢true}
use Rattle.marks_test.specs.Tested.{TestedMarks}
use Rattle.marks_test.specs.Test.{marks_not_long, x_fails, y_fails, z_decides}
use Rattle.marks_test.proofs.in_place_marks.Goals as goal
use Rattle.marks_test.proofs.in_place_marks.Goals.{then-marks-eq-MARKS, else-marks-eq-MARKS, then-in_place, else-in_place}

pub returns-then-in_place-2 : goal.returns-then-in_place-2
returns-then-in_place-2 c =
    let k = c.args.keys.now in
    let m = c.args.marks.now in
    elim c.if-in_place.branch [
      | then-in_place y ↦
          elim c.if-marks-eq-MARKS.branch [
            | then-marks-eq-MARKS x ↦
                z_decides k.x k.y k.z m x.if-marks-eq-MARKS.true x.in_place.ensures (sym x.value-is ∙ y.if-in_place.true)
                y.in_place-then-in_place.ensures (sym y.value-is ∙ c.if-in_place-2.true) c.in_place-then-in_place-2.ensures
            | else-marks-eq-MARKS x ↦ absurd (false≢true (sym (ne_eqb _ _ x.if-marks-eq-MARKS.false) ∙ sym x.value-is ∙ y.if-in_place.true))
          ]
      | else-in_place y ↦ absurd (false≢true (sym y.if-in_place.false ∙ sym y.value-is ∙ c.if-in_place-2.true))
    ]

pub returns-else-in_place-2 : goal.returns-else-in_place-2
returns-else-in_place-2 c =
    let k = c.args.keys.now in
    let m = c.args.marks.now in
    let f = c.if-in_place-2.false in
    subst (TestedMarks k.x k.y k.z m) (sym f) (
    elim c.if-in_place.branch [
      | then-in_place y ↦
          elim c.if-marks-eq-MARKS.branch [
            | then-marks-eq-MARKS x ↦
                y_fails k.x k.y k.z m x.if-marks-eq-MARKS.true x.in_place.ensures (sym x.value-is ∙ y.if-in_place.true) y.in_place-then-in_place.ensures (sym y.value-is ∙ f)
            | else-marks-eq-MARKS x ↦ absurd (false≢true (sym (ne_eqb _ _ x.if-marks-eq-MARKS.false) ∙ sym x.value-is ∙ y.if-in_place.true))
          ]
      | else-in_place y ↦
          elim c.if-marks-eq-MARKS.branch [
            | then-marks-eq-MARKS x ↦ x_fails k.x k.y k.z m x.if-marks-eq-MARKS.true x.in_place.ensures (sym x.value-is ∙ y.if-in_place.false)
            | else-marks-eq-MARKS x ↦ marks_not_long k.x k.y k.z m x.if-marks-eq-MARKS.false
          ]
    ])

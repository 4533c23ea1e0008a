-- `faces` meets its contract: a face and the faces behind it are all of them (FaceLaws).
use Prim.Native.Nat.{ℕ, ◌+◌, ◌-◌, ◌<◌}
use lib.ListN.{drop}
use mathlib.Core.Path.{◌≡◌, refl, sym, ap, ◌∙◌, subst}
use native.Mathlib.Omega.{arith}
use Rattle.limits.specs.DecidesLaws.{fails}
use Rattle.off_text.specs.Off.{words_in, Faces}
use Rattle.off_text.specs.FaceLaws.{faces_face, face_faces}
use Rattle.off_text.specs.WalkLaws.{behind_on}
use Rattle.off_text.proofs.RunLaws.{nothing_left}
use Rattle.off_text.proofs.faces.Goals as goal

pub returns-then-not-face-clause-told : goal.returns-then-not-face-clause-told
returns-then-not-face-clause-told c =
    let some : 0 < c.args.count - c.loop-i.i = omega (arith, c.loop-i-test.true) in
    fails refl (λ h. c.if-not-face.ensures.told.bad refl (faces_face _ _ (c.args.count - c.loop-i.i) some (c.loop-i.invariant.0 h)).0)

pub loop-i-preserved : goal.loop-i-preserved
loop-i-preserved c =
    let n = c.args.corners in
    let left = c.args.count - c.loop-i.i in
    let some : 0 < left = omega (arith, c.loop-i-test.true) in
    let e : left - 1 ≡ c.args.count - (c.loop-i.i + 1) = omega arith in
    let words = words_in c.loop-i.words.rest.now in
    let g = c.if-not-face.ensures.told.good refl in (
      λ h. subst (λ (k : ℕ). Faces n k (words_in c.face.new.words.rest.now)) e (subst (Faces n (left - 1)) (sym g.1) (faces_face n words left some (c.loop-i.invariant.0 h)).1),
      λ h. c.loop-i.invariant.1 (face_faces n words left some g.0 (subst (Faces n (left - 1)) g.1 (subst (λ (k : ℕ). Faces n k (words_in c.face.new.words.rest.now)) (sym e) h))),
      behind_on c.loop-i.invariant.2 c.if-not-face.ensures.behind,
    )

pub returns-clause-behind : goal.returns-clause-behind
returns-clause-behind c = behind_on c.loop-i.invariant.2 c.next_word.ensures.behind

pub returns-clause-told : goal.returns-clause-told
returns-clause-told c =
    let z : c.args.count - c.loop-i.i ≡ 0 = omega (arith, c.loop-i-test.false) in
    let words = words_in c.loop-i.words.rest.now in
    let none = nothing_left _ _ c.next_word.result c.is_none.result c.next_word.ensures.next c.is_none.ensures in
    record {
      yes = λ e. c.loop-i.invariant.1 (subst (λ (k : ℕ). Faces c.args.corners k words) (sym z) (none.yes e));
      no = λ e h. none.no e (subst (λ (k : ℕ). Faces c.args.corners k words) z (c.loop-i.invariant.0 h));
    }

pub returns-clause-none_left : goal.returns-clause-none_left
returns-clause-none_left c = λ e. c.next_word.ensures.rest ∙ ap (drop 1) ((nothing_left _ _ c.next_word.result c.is_none.result c.next_word.ensures.next c.is_none.ensures).yes e)

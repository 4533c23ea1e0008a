-- `off_number::shortest::spell` meets its contract: the sign, the whole millimetres and the part, one behind the other.
use Prim.Native.Nat.{◌/◌}
use mathlib.Core.List.{[]}
use mathlib.Core.Path.{◌≡◌, ap, ◌∙◌, subst}
use borrow.Author.Rules.{rules}
use native.Mathlib.Omega.{arith}
use lib.IntN.{ℤ, pos, nat_abs}
use mir.Syntax.{w64}
use mir.Val.{to_z, of_z}
use mir.Facts.{to_z-of_z}
use Rattle.std.proofs.lemmas.Int.{ints}
use Rattle.limits.specs.Limits
use Rattle.text_put.specs.Print.{Put, PutNumber, signed}
use Rattle.off_number.proofs.SpellingLaws.{spelled}
use Rattle.off_number.proofs.shortest.spell.Goals as goal

pub returns : goal.returns
returns c =
    let z = c.args.steps in
    let e = to_z-of_z c.ranges.steps in
    let n : c.unsigned_abs-n.result ≡ nat_abs z = c.unsigned_abs-n.ensures.value ∙ ap nat_abs e in
    let whole : to_z w64 (of_z w64 c.from.result) ≡ pos (c.unsigned_abs-n.result / Limits.steps) = omega (arith, ints, n, c.requires.abs, c.from.ensures) in
    let one = c.put_sign-sign.new.room in
    let two = c.put_number-whole.new.room in
    spelled z c.unsigned_abs-n.result n c.requires.abs c.args.text.now one two c.put_sign-sign.result c.put_number-whole.result (search rules)
    (subst (λ (x : ℤ). Put c.args.text.now 0 (signed x []) one c.put_sign-sign.result) e c.put_sign-sign.ensures)
    (subst (λ (x : ℤ). PutNumber one c.put_sign-sign.result x two c.put_number-whole.result) whole c.put_number-whole.ensures) c.put_part.ensures

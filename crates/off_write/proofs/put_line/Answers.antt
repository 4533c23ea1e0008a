-- `off_write::put_line` meets its contract: three numbers, one behind the other.
use mathlib.Core.Path.{subst}
use lib.IntN.{ℤ}
use Rattle.text_put.specs.Print.{Extends}
use Rattle.text_put.specs.PrintLaws.{extends_then}
use Rattle.off_write.specs.Written.{ended}
use Rattle.off_write.specs.WrittenLaws.{handed}
use Rattle.off_write.proofs.put_line.Goals as goal

pub returns : goal.returns
returns c =
    let a = c.args in
    let x = subst (λ (v : ℤ). Extends a.room.now a.at (ended v 32) c.put_ended-one.new.room c.put_ended-one.result) (handed a.x c.requires.0) c.put_ended-one.ensures.0 in
    let one = c.put_ended-one.new.room in
    let two = c.put_ended-two.new.room in
    let y = subst (λ (v : ℤ). Extends one c.put_ended-one.result (ended v 32) two c.put_ended-two.result) (handed a.y c.requires.1) c.put_ended-two.ensures.0 in
    let z = subst (λ (v : ℤ). Extends two c.put_ended-two.result (ended v 10) c.put_ended.new.room c.put_ended.result) (handed a.z c.requires.2) c.put_ended.ensures.0 in
    extends_then (extends_then x y) z

-- `off_write::put_ended` meets its contract: the number, and the byte behind it.
use mathlib.Core.List.{[], ◌∷◌}
use mathlib.Core.Path.{subst}
use native.Mathlib.Omega.{arith}
use lib.IntN.{ℤ}
use lib.ListN.{length-append}
use Rattle.text_put.specs.Print.{Put}
use Rattle.text_put.specs.PrintLaws.{put_extends, extends_then}
use Rattle.off_number.specs.Shortest.{decimal_of}
use Rattle.off_write.specs.WrittenLaws.{ended_most, handed}
use Rattle.off_write.proofs.put_ended.Goals as goal

pub returns : goal.returns
returns c =
    let z = c.args.steps in
    let a = subst (λ (y : ℤ). Put c.args.room.now c.args.at (decimal_of y) c.put_steps-next.new.room c.put_steps-next.result) (handed z c.requires.0) c.put_steps-next.ensures in
    let n = length-append (decimal_of z) (c.args.end ∷ []) in
    let most = ended_most z c.args.end c.requires.0 in
    let x = put_extends c.args.room.now c.args.at (decimal_of z) (omega (arith, n, most, c.requires.1)) a in
    let y = put_extends c.put_steps-next.new.room c.put_steps-next.result (c.args.end ∷ []) (omega (arith, n, most, c.requires.1, x.place, x.size)) c.put.ensures in
    let g = extends_then x y in
    (g, omega (arith, g.place, most))

-- `off_write::spell` meets its contract: the head, and the lines behind it.
use Prim.Native.Nat.{◌/◌}
use native.Mathlib.Omega.{arith}
use lib.ListN.{length}
use Rattle.text_put.specs.PrintLaws.{extends_then, extends_fits}
use Rattle.off_write.specs.WrittenLaws.{head_most}
use Rattle.off_write.proofs.spell.Goals as goal

pub put_lines-requires : goal.put_lines-requires
put_lines-requires c =
    let n = length c.args.numbers.now in
    let f = c.requires.0 in
    (f, c.requires.1, omega (arith, f.most, f.is, c.put_head-at.ensures.place, c.put_head-at.ensures.size, head_most (n / 3) (omega (arith, f.most, f.is))))

pub returns : goal.returns
returns c =
    let g = extends_then c.put_head-at.ensures c.put_lines.ensures in
    (g, extends_fits (omega arith) g)

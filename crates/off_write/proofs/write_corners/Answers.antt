-- `off_write::write_corners` meets its contract: what was spelled is put.
use Prim.Native.Nat.{ℕ}
use mathlib.Core.List.{List}
use mathlib.Core.Path.{sym, subst}
use lib.Seq.{length-take-le}
use Rattle.text_put.specs.Print.{Put}
use Rattle.off_write.proofs.write_corners.Goals as goal

pub slice_bounds-put-end : goal.slice_bounds-put-end
slice_bounds-put-end c =
    sym (length-take-le c.spell-n.result c.spell-n.new.text c.spell-n.ensures.1)

pub returns : goal.returns
returns c =
    subst (λ (l : List ℕ). Put c.args.room.now 0 l c.put.new.room c.put.result) c.spell-n.ensures.0.start c.put.ensures

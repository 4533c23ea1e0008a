-- `put` meets its contract: one letter more stands as its size behind those passed (Tables).
use Rattle.std.proofs.Common.{◌≡◌, ◌∙◌, ap, arith, get_or, set, length-set, to_z, of_z, w32}
use mir.ValLaws.{to_z-of_z}
use Rattle.blanks.specs.Chosen.{chosen}
use Rattle.blanks.proofs.Tables.{one_more}
use Rattle.blanks.proofs.put.Goals as goal

pub loop-i-preserved : goal.loop-i-preserved
loop-i-preserved c =
    let a = c.args in
    let i = c.loop-i.i in
    let z : to_z w32 (of_z w32 c.choose.result) ≡ chosen a.steps.x a.steps.y a.steps.z (get_or a.table.now i 0) =
    to_z-of_z w32 c.choose.result (record { sfits = c.choose.type_inv }) ∙ c.choose.ensures in (
      length-set c.loop-i.room i (to_z w32 (of_z w32 c.choose.result)) ∙ c.loop-i.invariant.0,
      ap (set c.loop-i.room i) z ∙ one_more a.steps.x a.steps.y a.steps.z a.table.now a.room.now c.loop-i.room i (omega arith) (omega arith) c.loop-i.invariant.1,
    )

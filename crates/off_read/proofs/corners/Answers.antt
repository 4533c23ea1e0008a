-- `corners` meets its contract: commas first, then the whole text, and what is left is for the room (RoomLaws).
use Rattle.std.proofs.lemmas.Result.{err_from_is_err_and}
use mathlib.Core.Path.{refl}
use Rattle.off_read.proofs.RoomLaws.{text_refused, may_fill}
use Rattle.off_read.proofs.corners.Goals as goal

pub returns-in_err-layout : goal.returns-in_err-layout
returns-in_err-layout c =
    let p = err_from_is_err_and c.from_residual.result c.from_residual.ensures.1 in
    rw (p.1, p.2) (text_refused (c.if-has_comma.ensures.no refl) _ c.in_err-layout.ensures.told)

pub fill-requires : goal.fill-requires
fill-requires c = may_fill c.in_ok-layout.ensures.told

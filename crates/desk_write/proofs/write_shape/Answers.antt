-- `desk_write::write_shape` meets its contract: the part of the shapes that is lent on holds the shape's numbers.
use mathlib.Core.List.{List}
use mathlib.Core.Path.{◌≡◌, sym, subst}
use native.Mathlib.Omega.{arith}
use lib.IntN.{ℤ}
use lib.ListN.{length}
use Rattle.limits.specs.Limits
use Rattle.space.specs.Lists.{LengthFits, InReach}
use Rattle.text_put.specs.Print.{Put}
use Rattle.off_write.specs.Written.{off_text}
use Rattle.desk_write.specs.WritingLaws.{put_short, put_whole, numbers_fit, numbers_near, part_is}
use Rattle.desk_write.proofs.write_shape.Goals as goal

pub write_corners-count-requires : goal.write_corners-count-requires
write_corners-count-requires c =
    let long : length c.args.shapes.now ≡ Limits.shapes_length = omega arith in
    subst (λ (l : List ℤ). LengthFits (length l) × InReach Limits.shape_reach l) (sym (part_is c.requires.0 c.requires.1 long))
    (numbers_fit c.requires.0 c.requires.1, numbers_near c.requires.0 c.requires.1)

pub returns-then-count-eq0 : goal.returns-then-count-eq0
returns-then-count-eq0 c =
    let w = c.write_corners-count in
    let long : length c.args.shapes.now ≡ Limits.shapes_length = omega arith in
    put_short (omega arith) (subst (λ (l : List ℤ). Put c.args.room.now 0 (off_text l) w.new.room w.result) (part_is c.requires.0 c.requires.1 long) w.ensures) c.if-count-eq0.true

pub returns : goal.returns
returns c =
    let w = c.write_corners-count in
    let long : length c.args.shapes.now ≡ Limits.shapes_length = omega arith in
    put_whole (omega arith) (subst (λ (l : List ℤ). Put c.args.room.now 0 (off_text l) w.new.room w.result) (part_is c.requires.0 c.requires.1 long) w.ensures) c.if-count-eq0.false

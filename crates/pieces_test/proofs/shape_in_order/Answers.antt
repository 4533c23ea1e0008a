-- `pieces_test::shape_in_order`: the box of a shape that has few enough corners decides.
use Rattle.std.proofs.Common.{rules, ◌≡◌, [], ◌+◌, ◌∙◌, nat_abs}
use Rattle.limits.specs.Limits
use Rattle.limits.specs.Numbered.{Numbered}
use Rattle.limits.specs.Decides.{Decides}
use Rattle.pieces.specs.Pieces.{store_of, count_in}
use Rattle.pieces_box.specs.ShapeBox.{NearBox, box_in}
use Rattle.pieces_test.specs.OrderTest.{shape_decided}
use Rattle.pieces_test.proofs.shape_in_order.Goals as goal

pub returns-in-Some : goal.returns-in-Some
returns-in-Some c =
    let a = c.args in
    let few : Numbered (Limits.corners + 1) (count_in a.shapes.now a.shape) = search rules in
    let is : c.in-Some.field-0 ≡ nat_abs (count_in a.shapes.now a.shape) = search rules in
    let near : Decides c.box_near.result (NearBox (box_in a.boxes.now a.shape)) = search rules in
    shape_decided (store_of a.shapes.now []) a.shape c.requires.1 c.requires.0 few (λ e. c.in-Some.field-0-test.1 (is ∙ e)) near

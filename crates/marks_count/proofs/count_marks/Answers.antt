-- The sum of the three axes.
use native.Mathlib.Omega.{arith}
use Rattle.marks.specs.Marks.{axis_of}
use Rattle.marks.proofs.Buffer.{on_axis_lem}
use Rattle.marks_count.proofs.count_marks.Goals as goal

pub overflow_add-result : goal.overflow_add-result
overflow_add-result c = omega (arith, c.count_changed-x.ensures.most, c.count_changed-y.ensures.most, c.count_changed-z.ensures.most)

pub overflow_add-result-2 : goal.overflow_add-result-2
overflow_add-result-2 c = omega (arith, c.count_changed-x.ensures.most, c.count_changed-y.ensures.most, c.count_changed-z.ensures.most)

pub returns : goal.returns
returns c =
    let p = c.args.place in
    let x = c.count_changed-x.ensures in
    let y = c.count_changed-y.ensures in
    let z = c.count_changed-z.ensures in
    record {
      is = omega (arith, x.is, y.is, z.is);
      most = omega (arith, x.most, y.most, z.most);
      true_count = λ a b ka kb o was is.
          let tx = x.true_count (axis_of a 0) (axis_of b 0) ka.on_x_lem kb.on_x_lem (on_axis_lem p 0 a b (omega arith) o) was is in
          let ty = y.true_count (axis_of a 1) (axis_of b 1) ka.on_y_lem kb.on_y_lem (on_axis_lem p 1 a b (omega arith) o) was is in
          let tz = z.true_count (axis_of a 2) (axis_of b 2) ka.on_z_lem kb.on_z_lem (on_axis_lem p 2 a b (omega arith) o) was is in
          omega (arith, tx, ty, tz);
    }
